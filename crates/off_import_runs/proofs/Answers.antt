-- What an import is answered, whether its batch stands or not.
use Rattle.std.proofs.Common.{subst, ◌≡◌, ℕ, Bool, true, false, cond, not, ◌&&◌, Option, Some, None, List, [], ◌∷◌, ◌++◌, length, codes, nat_eq, Result, Ok, Err, refl, sym, ap, ◌∙◌, ◌+◌, map, IfOk}
use Rattle.std.proofs.lemmas.Bool.{and_parts, and_from}
use Rattle.std.proofs.lemmas.Cmp.{nat_list_cmp_total}
use Rattle.std.proofs.lemmas.Map.Lookups.{exact_bytes}
use Rattle.std.specs.Prelude.{slice_index}
use Rattle.std.specs.Fmt.{digits}
use Rattle.std.specs.Cmp.{tied_itself}
use Rattle.std.specs.Cmp.Lexicographic.{slice_cmp}
use Rattle.std.specs.Ordering.{eq_by_cmp, is_eq, nat_cmp}
use Rattle.off_base.specs.Choices.{when}
use Rattle.off_defs.specs.declared.keys.Key.TheVariants as key
use Rattle.off_defs.specs.declared.tables.Batch.{Batch}
use Rattle.off_defs.specs.declared.tables.ImportKind.{ImportKind}
use Rattle.off_defs.specs.declared.tables.ImportKind.TheVariants as import
use Rattle.off_defs.specs.declared.tables.Row.TheVariants as row
use Rattle.off_orders.specs.declared.orders.Command.TheVariants.{Import}
use Rattle.off_orders.specs.declared.orders.ImportRow.{ImportRow}
use Rattle.off_orders.specs.declared.orders.ImportRow.TheVariants as imported
use Rattle.off_defs.specs.declared.kinds.Kind.TheVariants.{Batches}
use Rattle.off_orders.specs.declared.orders.Reply.TheVariants.{Rows}
use Rattle.off_defs.specs.declared.writes.Write.{Write}
use Rattle.off_defs.specs.declared.writes.Write.TheVariants.{Put}
use Rattle.off_orders.specs.declared.rules.Rule.{Rule}
use Rattle.off_orders.specs.declared.rules.Rule.TheVariants as rule
use Rattle.off_defs.specs.State.{Tables}
use Rattle.off_defs.specs.Tables.{row_at, write_all}
use Rattle.off_defs.proofs.EntryLemmas.{is_equal}
use Rattle.off_defs.proofs.TableLemmas.{own_key}
use Rattle.off_account_rules.specs.Rows.{batch_in}
use Rattle.off_orders.specs.Clerk.{Refusal, accepted, by_rule, limit, rows_written, is_kind, batch_row, imported_as, import_decided, stepped_by, clerk_step, row_writes, row_breaks, then_writes, unless_broken}
use Rattle.off_clerk_rules.specs.declared.faults.Fault.TheVariants as fault
use Rattle.off_clerk_rules.specs.Replies.{reply_text}
use Rattle.off_table_laws.proofs.Rows as rows
use Rattle.off_table_laws.proofs.Rows.{all_written}
use Rattle.off_order_laws.proofs.LostLeases.{rows_append}
use Rattle.off_book.specs.Http.{Answered, answer_done, answer_fault, answer_step, answer_command}
use Rattle.off_laws.proofs.Lines.{other_byte}
use Rattle.off_import_runs.specs.Puts.{put_of}
use Rattle.off_import_runs.specs.Asked.{IsSame}
use Rattle.off_import_runs.proofs.Decisions.{batch_read}

-- ---- the test of kinds and digests

kinds_same : (one other : ImportKind) → is_kind one other ≡ true → other ≡ one
kinds_same import.Subscribers import.Subscribers is = refl
kinds_same import.Modems import.Modems is = refl
kinds_same import.Subscribers import.Modems is = cc
kinds_same import.Modems import.Subscribers is = cc

kind_own : (kind : ImportKind) → is_kind kind kind ≡ true
kind_own import.Subscribers = refl
kind_own import.Modems = refl

abbrev pub is_same : ImportKind → List ℕ → Batch → Bool
is_same kind digest held = is_kind kind held.kind && eq_by_cmp (slice_cmp nat_cmp) digest held.digest

pub same_is : (kind : ImportKind) (digest : List ℕ) (held : Batch) → is_same kind digest held ≡ true → IsSame kind digest held
same_is kind digest held is =
    let parts = and_parts (is_kind kind held.kind) (eq_by_cmp (slice_cmp nat_cmp) digest held.digest) is in
    record {
      kinds = kinds_same kind held.kind parts.0;
      digests = sym (exact_bytes digest held.digest (is_equal (slice_cmp nat_cmp digest held.digest) parts.1));
    }

pub is_same_of : (kind : ImportKind) (digest : List ℕ) (held : Batch) → IsSame kind digest held → is_same kind digest held ≡ true
is_same_of kind digest held same =
    and_from (is_kind kind held.kind) (eq_by_cmp (slice_cmp nat_cmp) digest held.digest) (ap (is_kind kind) same.kinds ∙ kind_own kind)
    (ap (eq_by_cmp (slice_cmp nat_cmp) digest) same.digests ∙ ap is_eq (tied_itself nat_list_cmp_total digest))

-- ---- an import whose batch stands

told_by : (t : Tables) (held : Batch) (batch : ℕ) (same : Bool)
    → answer_step (stepped_by t (by_rule 0 (accepted [] (Rows held.rows)) (when (not same) (rule.BatchDiffers batch))))
    ≡ cond same (answer_done [] (Rows held.rows)) (answer_fault (fault.Rule 0 (rule.BatchDiffers batch)))
told_by t held batch true = refl
told_by t held batch false = refl

module _ (t : Tables) (now : ℕ) (kind : ImportKind) (batch : ℕ) (digest : List ℕ) (read : List ImportRow) where
  abbrev answer_to : Option Batch → Answered
  answer_to old = answer_step (stepped_by t (import_decided t now kind batch digest read old))

  pub repeated_answer : (held : Batch) → batch_in t batch ≡ Some held
      → answer_command t now (Ok (Import kind batch digest read))
      ≡ cond (is_same kind digest held) (answer_done [] (Rows held.rows)) (answer_fault (fault.Rule 0 (rule.BatchDiffers batch)))
  unfolding clerk_step
  repeated_answer held is = ap answer_to is ∙ told_by t held batch (is_same kind digest held)

-- ---- what isn't refused

-- no rule's line is that of a command that was done: their sixth bytes differ
abbrev fault_line : ℕ → Rule → List ℕ
fault_line at broken = codes "http " ++ (answer_fault (fault.Rule at broken)).words

fault_byte : (at : ℕ) (broken : Rule) → nat_eq (slice_index (fault_line at broken) 5) 50 ≡ false
unfolding digits
fault_byte at rule.NoRow = refl
fault_byte at rule.HasModems = refl
fault_byte at rule.ClassInUse = refl
fault_byte at (rule.PoolOverlap pool) = refl
fault_byte at (rule.RelayTaken pool) = refl
fault_byte at (rule.PoolHasLeases address) = refl
fault_byte at (rule.BatchDiffers batch) = refl
fault_byte at rule.NoSubscriber = refl
fault_byte at rule.NoClass = refl
fault_byte at rule.PoolSize = refl
fault_byte at (rule.Tree f) = refl
fault_byte at (rule.Limit kind most) = refl
fault_byte at (rule.Site field) = refl
fault_byte at rule.NoHub = refl
fault_byte at (rule.HubInUse pool) = refl
fault_byte at (rule.DeviceOverlap pool) = refl

fault_apart : (at : ℕ) (broken : Rule) → fault_line at broken ≡ codes "http 200" → ⊥
fault_apart at broken same = other_byte (fault_line at broken) (codes "http 200") (fault_byte at broken) same

-- the batch stands behind the answer's writes, and the answer tells its number of rows
pub record DoneAs (t : Tables) (kind : ImportKind) (batch : ℕ) (digest : List ℕ) (answer : Answered) : Type 0 where
  pub held : Batch
  pub stands : batch_in (write_all t answer.writes) batch ≡ Some held
  pub same : IsSame kind digest held
  pub status : answer.status ≡ 200
  pub body : answer.body ≡ reply_text (Rows held.rows)

put_stands : (t : Tables) (writes : List Write) (batch : ℕ) (held : Batch)
    → batch_in (write_all t (writes ++ Put (key.Batch batch) (row.Batch held) ∷ [])) batch ≡ Some held
put_stands t writes batch held =
    let all = writes ++ Put (key.Batch batch) (row.Batch held) ∷ [] in
    ap (λ (r : rows.Rows). batch_read batch (r (key.Batch batch))) (all_written t all ∙ rows_append (row_at t) writes (Put (key.Batch batch) (row.Batch held) ∷ []))
    ∙ ap (λ (b : Bool). batch_read batch (cond b (Some (row.Batch held)) (rows.rows_after (row_at t) writes (key.Batch batch)))) (own_key (key.Batch batch))

module _ (t : Tables) (now : ℕ) (kind : ImportKind) (batch : ℕ) (digest : List ℕ) (read : List ImportRow) where
  abbrev DoneSays : Answered → Type 0
  DoneSays answer = codes "http " ++ answer.words ≡ codes "http 200" → DoneAs t kind batch digest answer

  by_limit : (writes : List Write) (broken : Option Rule)
      → DoneSays (answer_step (stepped_by t (by_rule 0 (accepted (writes ++ Put (key.Batch batch) (batch_row kind digest read) ∷ []) (Rows (length read))) broken)))
  by_limit writes None line = record {
    held = record { kind = kind; digest = digest; rows = length read };
    stands = put_stands t writes batch (record { kind = kind; digest = digest; rows = length read });
    same = record { kinds = refl; digests = refl };
    status = refl;
    body = refl;
  }
  by_limit writes (Some broken) line = absurd (fault_apart 0 broken line)

  by_rows : (result : Result (List Write) Refusal) → DoneSays (answer_step (stepped_by t (imported_as t kind batch digest read result)))
  by_rows (Ok writes) line = by_limit writes (limit t (key.Batch batch) Batches) line
  by_rows (Err refused) line = absurd (fault_apart refused.row refused.broken line)

  by_same : (held : Batch) → batch_in t batch ≡ Some held → (same : Bool) → is_same kind digest held ≡ same
      → DoneSays (answer_step (stepped_by t (by_rule 0 (accepted [] (Rows held.rows)) (when (not same) (rule.BatchDiffers batch)))))
  by_same held is true same line = record { held = held; stands = is; same = same_is kind digest held same; status = refl; body = refl }
  by_same held is false same line = absurd (fault_apart 0 (rule.BatchDiffers batch) line)

  by_batch : (old : Option Batch) → batch_in t batch ≡ old → DoneSays (answer_step (stepped_by t (import_decided t now kind batch digest read old)))
  by_batch (Some held) is line = by_same held is (is_same kind digest held) refl line
  by_batch None is line = by_rows (rows_written t now 1 read) line

  pub done_answer : DoneSays (answer_command t now (Ok (Import kind batch digest read)))
  unfolding clerk_step
  done_answer line = by_batch (batch_in t batch) refl line

-- ---- an import that is done is done whole

then_whole : (first : ImportRow) (rest : List ImportRow) (writes : List Write) (more : Result (List Write) Refusal) → writes ≡ put_of first ∷ []
    → IfOk more (λ w. w ≡ map put_of rest) → IfOk (then_writes writes more) (λ w. w ≡ map put_of (first ∷ rest))
then_whole first rest writes (Ok more) one all = (λ i. one i ++ all i)
then_whole first rest writes (Err refused) one all = tt

unless_whole : (rows : List ImportRow) (at : ℕ) (broken : Option Rule) (result : Result (List Write) Refusal) → IfOk result (λ w. w ≡ map put_of rows)
    → IfOk (unless_broken at broken result) (λ w. w ≡ map put_of rows)
unless_whole rows at None result all = all
unless_whole rows at (Some broken) result all = tt

row_whole : (t : Tables) (first : ImportRow) → row_writes t first ≡ put_of first ∷ []
row_whole t (imported.Subscriber n subscriber) = refl
row_whole t (imported.Modem mac modem) = refl

rows_whole : (now : ℕ) (rest : List ImportRow) (t : Tables) (at : ℕ) → IfOk (rows_written t now at rest) (λ w. w ≡ map put_of rest)
rows_whole now [] t at = refl
rows_whole now (first ∷ rest) t at =
    unless_whole (first ∷ rest) at (row_breaks t now first) _
    (then_whole first rest (row_writes t first) _ (row_whole t first) (rows_whole now rest (write_all t (row_writes t first)) (at + 1)))

module _ (t : Tables) (now : ℕ) (kind : ImportKind) (batch : ℕ) (digest : List ℕ) (read : List ImportRow) where
  abbrev WholeSays : Answered → Type 0
  WholeSays answer = codes "http " ++ answer.words ≡ codes "http 200" → answer.writes ≡ map put_of read ++ Put (key.Batch batch) (batch_row kind digest read) ∷ []

  whole_limit : (writes : List Write) (broken : Option Rule) → writes ≡ map put_of read
      → WholeSays (answer_step (stepped_by t (by_rule 0 (accepted (writes ++ Put (key.Batch batch) (batch_row kind digest read) ∷ []) (Rows (length read))) broken)))
  whole_limit writes None all line = ap (λ (w : List Write). w ++ Put (key.Batch batch) (batch_row kind digest read) ∷ []) all
  whole_limit writes (Some broken) all line = absurd (fault_apart 0 broken line)

  whole_rows : (result : Result (List Write) Refusal) → IfOk result (λ w. w ≡ map put_of read)
      → WholeSays (answer_step (stepped_by t (imported_as t kind batch digest read result)))
  whole_rows (Ok writes) all line = whole_limit writes (limit t (key.Batch batch) Batches) all line
  whole_rows (Err refused) all line = absurd (fault_apart refused.row refused.broken line)

  pub whole_answer : batch_in t batch ≡ None → WholeSays (answer_command t now (Ok (Import kind batch digest read)))
  unfolding clerk_step
  whole_answer none =
      subst (λ (old : Option Batch). WholeSays (answer_step (stepped_by t (import_decided t now kind batch digest read old)))) (sym none)
      (whole_rows (rows_written t now 1 read) (rows_whole now read t 1))
