-- A turn puts no batch but that of an import that it does.
use Rattle.std.proofs.Common.{◌≡◌, ◌⊎◌, inl, inr, ℕ, Bool, true, false, List, [], ◌++◌, codes, Result, Ok, Err, refl, ap, subst, ◌∙◌}
use Rattle.off_defs.specs.declared.events.What.{What}
use Rattle.off_defs.specs.declared.events.What.TheVariants.{Piece}
use Rattle.off_orders.specs.declared.orders.Command.{Command}
use Rattle.off_orders.specs.declared.orders.Command.TheVariants.{Import}
use Rattle.off_orders.specs.declared.orders.ImportRow.{ImportRow}
use Rattle.off_defs.specs.declared.results.Outcome.TheVariants.{Did}
use Rattle.off_defs.specs.declared.tables.ImportKind.{ImportKind}
use Rattle.off_defs.specs.State.{State, Effect}
use Rattle.off_http.specs.Request.{Meaning, Waits, Refused, Asked, RequestIs}
use Rattle.off_clerk_rules.specs.declared.faults.ClerkErr.{ClerkErr}
use Rattle.off_clerk_rules.specs.Commands.{command_read}
use Rattle.off_lease_rules.specs.Steps.{dhcp_step}
use Rattle.off_cpe_rules.specs.Steps.{step_behind}
use Rattle.off_book.specs.Http.{heard_of, answer_request, answered, by_meaning, is_full, TakesPiece}
use Rattle.off_book.specs.Run.{Turn, effect_of}
use Rattle.off_laws.proofs.Answers.{request_writes}
use Rattle.off_laws.proofs.Ways.{Way, stays, serves, forgets, hears, answers, messages, devices, way}
use Rattle.off_import_runs.specs.Puts.{puts_in}
use Rattle.off_import_runs.specs.Once.{IsPutBy}
use Rattle.off_import_runs.specs.Laws.{OnlyImportsPut}
use Rattle.off_import_runs.proofs.Asides.{unput, message_aside, device_aside}
use Rattle.off_import_runs.proofs.Turns.{IsReadAs, request_fate, moment, IsStep, DoesAs, step_does, none_or_done}

-- a request that is read as an import of the batch
record ReadsImport (n : ℕ) (read : Result Command ClerkErr) : Type 0 where
  pub kind : ImportKind
  pub digest : List ℕ
  pub rows : List ImportRow
  pub is : read ≡ Ok (Import kind n digest rows)

reads_import : (n : ℕ) (read : Result Command ClerkErr) → IsReadAs n read → ReadsImport n read
reads_import n (Ok (Import kind batch digest rows)) is =
    record { kind = kind; digest = digest; rows = rows; is = ap (λ (m : ℕ). Ok (Import kind m digest rows)) is }
reads_import n (Ok command) is = absurd is
reads_import n (Err err) is = absurd is

module _ (s after : State) (turn : Turn) (n : ℕ) where
  abbrev Source : Type 0
  Source = (puts_in n turn.commit ≡ 0) ⊎ IsPutBy s turn n

  none_put : turn.commit ≡ [] → Source
  none_put none = inl (ap (puts_in n) none)

  -- what the connection's bytes are
  module _ (conn : ℕ) (piece : List ℕ) (came : turn.event.what ≡ Piece conn piece) (acted : turn.outcome ≡ Did)
      (live : is_full s.held.connections conn ≡ false) where
    by_read : (method target body : List ℕ) → RequestIs (heard_of s.held conn ++ piece) (Asked method target body)
        → effect_of turn after ≡ answered (moment s after turn) conn (answer_request s.tables (moment s after turn).held.now method target body)
        → (puts_in n (answer_request s.tables (moment s after turn).held.now method target body).writes ≡ 0) ⊎ IsReadAs n (command_read method target body)
        → (turn.commit ≡ []) ⊎ (turn.said.line ≡ codes "http 200") → Source
    by_read method target body asked is (inl none) done = inl (ap (λ (e : Effect). puts_in n e.commit) is ∙ none)
    by_read method target body asked is (inr import) (inl none) = none_put none
    by_read method target body asked is (inr import) (inr line) =
        let reads = reads_import n (command_read method target body) import in
        inr (record {
          asks = record {
            conn = conn;
            piece = piece;
            method = method;
            target = target;
            body = body;
            kind = reads.kind;
            batch = n;
            digest = reads.digest;
            rows = reads.rows;
            came = came;
            acted = acted;
            live = live;
            asked = asked;
            read = reads.is;
          };
          number = refl;
          line = line;
        })

    by_request : (meaning : Meaning) → RequestIs (heard_of s.held conn ++ piece) meaning
        → effect_of turn after ≡ by_meaning (moment s after turn) conn (heard_of s.held conn ++ piece) meaning → Source
    by_request Waits says is = none_put (ap (λ (e : Effect). e.commit) is)
    by_request (Refused f) says is = none_put (ap (λ (e : Effect). e.commit) is)
    by_request (Asked method target body) says is =
        by_read method target body says is (request_fate n s.tables (moment s after turn).held.now method target body).1
        (none_or_done s after turn conn _ (request_writes s.tables (moment s after turn).held.now method target body) is)

  by_piece : (conn : ℕ) (piece : List ℕ) → turn.event.what ≡ Piece conn piece → turn.outcome ≡ Did → (full : Bool) → is_full s.held.connections conn ≡ full
      → TakesPiece full (moment s after turn) conn piece (effect_of turn after) → Source
  by_piece conn piece came acted true full takes = none_put (ap (λ (e : Effect). e.commit) takes)
  by_piece conn piece came acted false live takes = by_request conn piece came acted live takes.meaning takes.says takes.does

  by_way : IsStep s after turn → Way (moment s after turn) turn.event.what turn.outcome (effect_of turn after) → Source
  by_way step (stays is none) = none_put none
  by_way step (serves transfers is none) = none_put none
  by_way step (forgets conn is none) = none_put none
  by_way step (hears conn bytes room is none) = none_put none
  by_way step (answers conn piece method target body came acted is) =
      let did : DoesAs s after turn turn.event.what Did = subst (DoesAs s after turn turn.event.what) acted (step_does s after turn step) in
      by_piece conn piece came acted (is_full s.held.connections conn) refl (subst (λ (what : What). DoesAs s after turn what Did) came did)
  by_way step (messages from bytes came acted is) =
      inl (ap (λ (e : Effect). puts_in n e.commit) is
      ∙ unput n (dhcp_step s.tables (moment s after turn).held.now bytes).writes (message_aside s.tables (moment s after turn).held.now bytes))
  by_way step (devices from bytes m modem came acted read behind is) =
      inl (ap (λ (e : Effect). puts_in n e.commit) is
      ∙ unput n (step_behind s.tables (moment s after turn).held.now m modem).writes (device_aside s.tables (moment s after turn).held.now m modem))

pub only_imports_put : OnlyImportsPut
only_imports_put s after turn n step =
    by_way s after turn n step (way (moment s after turn) turn.event.what turn.outcome (effect_of turn after) (step_does s after turn step))
