-- What a turn makes of a batch, and what it says of an import.
use Rattle.std.proofs.Common.{◌≡◌, ◌≢◌, ◌⊎◌, inl, inr, ℕ, Bool, true, false, cond, Some, List, [], ◌++◌, codes, Result, Ok, Err, IfOk, refl, sym, ap, subst, ◌∙◌, ◌∷◌, map, None}
use Rattle.std.specs.Fmt.{digits}
use Rattle.off_defs.specs.declared.events.What.{What}
use Rattle.off_defs.specs.declared.keys.Key.TheVariants as key
use Rattle.off_orders.specs.declared.orders.Command.{Command}
use Rattle.off_orders.specs.declared.orders.Command.TheVariants.{Import}
use Rattle.off_orders.specs.declared.orders.Reply.TheVariants.{Rows}
use Rattle.off_defs.specs.declared.writes.Write.{Write}
use Rattle.off_defs.specs.declared.writes.Write.TheVariants.{Put}
use Rattle.off_defs.specs.declared.results.Outcome.{Outcome}
use Rattle.off_defs.specs.declared.results.Outcome.TheVariants.{Did}
use Rattle.off_orders.specs.declared.rules.Rule.TheVariants as rule
use Rattle.off_defs.specs.declared.tables.Batch.{Batch}
use Rattle.off_defs.specs.State.{Tables, State, Effect, at_moment}
use Rattle.off_defs.specs.Tables.{row_at, write_all}
use Rattle.off_http.proofs.Meanings.{one_meaning}
use Rattle.off_http.specs.Request.{Asked}
use Rattle.off_account_rules.specs.Rows.{batch_in}
use Rattle.off_orders.specs.Clerk.{Decision, decided, stepped_by, clerk_step, batch_row}
use Rattle.off_clerk_rules.specs.declared.faults.ClerkErr.{ClerkErr}
use Rattle.off_clerk_rules.specs.declared.faults.Fault.TheVariants as fault
use Rattle.off_clerk_rules.specs.Commands.{command_read}
use Rattle.off_table_laws.proofs.Rows as rows
use Rattle.off_table_laws.proofs.Rows.{all_written}
use Rattle.off_lease_rules.specs.Steps.{dhcp_step}
use Rattle.off_cpe_rules.specs.Steps.{step_behind}
use Rattle.off_book.specs.Http.{Answered, heard_of, answer_done, answer_fault, answer_step, answer_command, answer_request, answered, by_meaning, is_full, TakesPiece}
use Rattle.off_book.specs.Step.{Step, Does}
use Rattle.off_book.specs.Run.{Turn, effect_of}
use Rattle.off_laws.proofs.Answers.{WritesNothingOrDone, request_writes}
use Rattle.off_laws.proofs.Requests.{MayBe, request_may}
use Rattle.off_laws.proofs.StepLaws.{tables_by_commit}
use Rattle.off_laws.proofs.Ways.{Way, stays, serves, forgets, hears, answers, messages, devices, way}
use Rattle.off_import_runs.specs.Puts.{puts_in, put_of, PutOnce}
use Rattle.off_import_runs.specs.Asked.{AsksImport}
use Rattle.off_import_runs.specs.Once.{IsRepeated}
use Rattle.off_import_runs.proofs.Asides.{message_aside, device_aside}
use Rattle.off_import_runs.proofs.Decisions.{batch_read, none_put, Acts, aside_acts, IsImportOf, DecisionFate, command_fate}
use Rattle.off_import_runs.proofs.Answers.{is_same, same_is, is_same_of, repeated_answer, DoneAs, done_answer, whole_answer}

-- ---- a batch, over one turn

module _ (n : ℕ) where
  -- what a request writes, and which it is where it puts the batch
  abbrev pub IsReadAs : Result Command ClerkErr → Type 0
  IsReadAs (Ok command) = IsImportOf n command
  IsReadAs (Err err) = ⊥

  abbrev pub ReadFate : Tables → Result Command ClerkErr → List Write → Type 0
  ReadFate t read writes = Acts n (row_at t) writes × ((puts_in n writes ≡ 0) ⊎ IsReadAs read)

  nothing_acts : (t : Tables) → Acts n (row_at t) []
  nothing_acts t = none_put (batch_read n (row_at t (key.Batch n)))

  decision_read : (t : Tables) (now : ℕ) (command : Command) (decision : Decision) → DecisionFate n t now command decision
      → ReadFate t (Ok command) (answer_step (stepped_by t decision)).writes
  decision_read t now command (Ok done) fate = fate
  decision_read t now command (Err refused) fate = (nothing_acts t, inl refl)

  command_read_fate : (t : Tables) (now : ℕ) (command : Command) → MayBe command → ReadFate t (Ok command) (answer_step (clerk_step t now command)).writes
  unfolding clerk_step
  command_read_fate t now command may = decision_read t now command (decided t now command) (command_fate n t now command may.0)

  read_fate : (t : Tables) (now : ℕ) (read : Result Command ClerkErr) → IfOk read MayBe → ReadFate t read (answer_command t now read).writes
  read_fate t now (Ok command) may = command_read_fate t now command may
  read_fate t now (Err err) may = (nothing_acts t, inl refl)

  pub request_fate : (t : Tables) (now : ℕ) (method target body : List ℕ) → ReadFate t (command_read method target body) (answer_request t now method target body).writes
  request_fate t now method target body = read_fate t now (command_read method target body) (request_may method target body)

  none_acts : (t : Tables) (writes : List Write) → writes ≡ [] → Acts n (row_at t) writes
  none_acts t writes none = subst (λ (w : List Write). Acts n (row_at t) w) (sym none) (nothing_acts t)

  way_acts : (s : State) (what : What) (outcome : Outcome) (effect : Effect) → Way s what outcome effect → Acts n (row_at s.tables) effect.commit
  way_acts s what outcome effect (stays is none) = none_acts s.tables effect.commit none
  way_acts s what outcome effect (serves transfers is none) = none_acts s.tables effect.commit none
  way_acts s what outcome effect (forgets conn is none) = none_acts s.tables effect.commit none
  way_acts s what outcome effect (hears conn bytes room is none) = none_acts s.tables effect.commit none
  way_acts s what outcome effect (answers conn piece method target body came acted is) =
      subst (λ (e : Effect). Acts n (row_at s.tables) e.commit) (sym is) (request_fate s.tables s.held.now method target body).0
  way_acts s what outcome effect (messages from bytes came acted is) =
      subst (λ (e : Effect). Acts n (row_at s.tables) e.commit) (sym is)
      (aside_acts n (row_at s.tables) (dhcp_step s.tables s.held.now bytes).writes (message_aside s.tables s.held.now bytes))
  way_acts s what outcome effect (devices from bytes m modem came acted read behind is) =
      subst (λ (e : Effect). Acts n (row_at s.tables) e.commit) (sym is)
      (aside_acts n (row_at s.tables) (step_behind s.tables s.held.now m modem).writes (device_aside s.tables s.held.now m modem))

  pub turn_acts : (s after : State) (turn : Turn) → Step s turn.event turn.outcome (effect_of turn after)
      → PutOnce (batch_in s.tables n) (batch_in after.tables n) (puts_in n turn.commit)
  unfolding Step
  turn_acts s after turn step =
      let effect = effect_of turn after in
      let acts : Acts n (row_at s.tables) turn.commit = way_acts (at_moment s turn.event.at.0) turn.event.what turn.outcome effect (way _ turn.event.what turn.outcome effect step) in
      let tables : after.tables ≡ write_all s.tables turn.commit = tables_by_commit s turn.event turn.outcome effect step in
      subst (λ (r : rows.Rows). PutOnce (batch_in s.tables n) (batch_read n (r (key.Batch n))) (puts_in n turn.commit))
      (sym (ap (λ (t : Tables). row_at t) tables ∙ all_written s.tables turn.commit)) acts

-- ---- a request for an import, in its turn

module _ (s after : State) (turn : Turn) where
  abbrev pub moment : State
  moment = at_moment s turn.event.at.0

  abbrev pub IsStep : Type 0
  IsStep = Step s turn.event turn.outcome (effect_of turn after)

  abbrev pub DoesAs : What → Outcome → Type 0
  DoesAs what outcome = Does moment what outcome (effect_of turn after)

  pub step_does : IsStep → DoesAs turn.event.what turn.outcome
  unfolding Step
  step_does step = step

  -- a turn that asks for an import is answered by what the request is read as
  asked_effect : IsStep → (asks : AsksImport s turn)
      → effect_of turn after ≡ answered moment asks.conn (answer_request s.tables moment.held.now asks.method asks.target asks.body)
  asked_effect step asks =
      let did : DoesAs turn.event.what Did = subst (DoesAs turn.event.what) asks.acted (step_does step) in
      let does : TakesPiece (is_full s.held.connections asks.conn) moment asks.conn asks.piece (effect_of turn after) =
      subst (λ (what : What). DoesAs what Did) asks.came did in
      let takes : TakesPiece false moment asks.conn asks.piece (effect_of turn after) =
      subst (λ (full : Bool). TakesPiece full moment asks.conn asks.piece (effect_of turn after)) asks.live does in
      let heard = heard_of s.held asks.conn ++ asks.piece in
      let same : takes.meaning ≡ Asked asks.method asks.target asks.body = one_meaning heard takes.meaning (Asked asks.method asks.target asks.body) takes.says asks.asked in
      takes.does ∙ ap (by_meaning moment asks.conn heard) same

  abbrev pub import_answer : AsksImport s turn → Answered
  import_answer asks = answer_command s.tables moment.held.now (Ok (Import asks.kind asks.batch asks.digest asks.rows))

  pub import_effect : IsStep → (asks : AsksImport s turn) → effect_of turn after ≡ answered moment asks.conn (import_answer asks)
  import_effect step asks =
      asked_effect step asks ∙ ap (λ (read : Result Command ClerkErr). answered moment asks.conn (answer_command s.tables moment.held.now read)) asks.read

  -- one whose batch stands
  module _ (asks : AsksImport s turn) (held : Batch) where
    by_same : (same : Bool) → is_same asks.kind asks.digest held ≡ same
        → effect_of turn after ≡ answered moment asks.conn (cond same (answer_done [] (Rows held.rows)) (answer_fault (fault.Rule 0 (rule.BatchDiffers asks.batch))))
        → IsRepeated s turn asks held
    unfolding digits
    by_same true same is = record {
      commit = ap (λ (e : Effect). e.commit) is;
      same = λ _. record { answer = ap (λ (e : Effect). e.said.items) is; line = ap (λ (e : Effect). e.said.line) is };
      other = λ apart. absurd (apart (same_is asks.kind asks.digest held same));
    }
    by_same false same is = record {
      commit = ap (λ (e : Effect). e.commit) is;
      same = λ too. let other = is_same_of asks.kind asks.digest held too in cc;
      other = λ _. record { answer = ap (λ (e : Effect). e.said.items) is; line = ap (λ (e : Effect). e.said.line) is };
    }

    pub is_repeated : IsStep → batch_in s.tables asks.batch ≡ Some held → IsRepeated s turn asks held
    is_repeated step stands =
        by_same (is_same asks.kind asks.digest held) refl
        (import_effect step asks
        ∙ ap (answered moment asks.conn) (repeated_answer s.tables moment.held.now asks.kind asks.batch asks.digest asks.rows held stands))

  -- one that is done, and one that is refused
  pub is_done : IsStep → (asks : AsksImport s turn) → turn.said.line ≡ codes "http 200" → DoneAs s.tables asks.kind asks.batch asks.digest (import_answer asks)
  is_done step asks line =
      done_answer s.tables moment.held.now asks.kind asks.batch asks.digest asks.rows (sym (ap (λ (e : Effect). e.said.line) (import_effect step asks)) ∙ line)

  pub is_whole : IsStep → (asks : AsksImport s turn) → batch_in s.tables asks.batch ≡ None → turn.said.line ≡ codes "http 200"
      → turn.commit ≡ map put_of asks.rows ++ Put (key.Batch asks.batch) (batch_row asks.kind asks.digest asks.rows) ∷ []
  is_whole step asks none line =
      let is = import_effect step asks in
      ap (λ (e : Effect). e.commit) is
      ∙ whole_answer s.tables moment.held.now asks.kind asks.batch asks.digest asks.rows none (sym (ap (λ (e : Effect). e.said.line) is) ∙ line)

  pub none_or_done : (conn : ℕ) (answer : Answered) → WritesNothingOrDone answer → effect_of turn after ≡ answered moment conn answer
      → (turn.commit ≡ []) ⊎ (turn.said.line ≡ codes "http 200")
  none_or_done conn answer (inl none) is = inl (ap (λ (e : Effect). e.commit) is ∙ none)
  none_or_done conn answer (inr done) is = inr (ap (λ (e : Effect). e.said.line) is ∙ ap (λ (words : List ℕ). codes "http " ++ words) done)

  unless_done : (turn.commit ≡ []) ⊎ (turn.said.line ≡ codes "http 200") → turn.said.line ≢ codes "http 200" → turn.commit ≡ []
  unless_done (inl none) refused = none
  unless_done (inr done) refused = absurd (refused done)

  pub is_refused : IsStep → AsksImport s turn → turn.said.line ≢ codes "http 200" → turn.commit ≡ []
  is_refused step asks refused =
      unless_done (none_or_done asks.conn _ (request_writes s.tables moment.held.now asks.method asks.target asks.body) (asked_effect step asks)) refused
