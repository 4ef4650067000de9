-- The rows of an import, one after another.
use Rattle.std.proofs.Common.{◌≡◌, ℕ, ◌+◌, ◌≤◌, true, false, Option, Some, None, Result, Ok, Err, OnOk, List, [], ◌∷◌, ◌++◌, length, drop, drop_of_length-le, refl, sym, ap, subst, ◌∙◌, append_assoc, append-nil}
use Rattle.std.specs.List.{list_all, slice_get}
use Rattle.std.proofs.lemmas.List.Folds.{list_all_at}
use Rattle.std.proofs.lemmas.Option.{slice_get_within, get_or_from_slice_get}
use Rattle.std.proofs.lemmas.Bool.{and_parts, and_from}
use Rattle.off_base.proofs.TreeLemmas.{dropped}
use Rattle.off_orders.specs.declared.orders.ImportRow.{ImportRow}
use Rattle.off_orders.specs.declared.orders.ImportRow.TheVariants as imported
use Rattle.off_defs.specs.declared.writes.Write.{Write}
use Rattle.off_orders.specs.declared.rules.Rule.{Rule}
use Rattle.off_defs.specs.declared.tables.ImportKind.{ImportKind}
use Rattle.off_defs.specs.declared.tables.ImportKind.TheVariants.{Subscribers, Modems}
use Rattle.off_defs.specs.State.{Tables}
use Rattle.off_defs.specs.Tables.{write_all}
use Rattle.off_orders.specs.Sound.{is_row_of}
use Rattle.off_account_rules.specs.declared.counts.Counts.{Counts}
use Rattle.off_account_rules.specs.Rows.{counts_of}
use Rattle.off_orders.specs.Clerk.{Refusal, refusal, then_writes, unless_broken, row_writes, row_breaks, rows_written}
use Rattle.off_outside.specs.KeeperSeen.{KeeperSeen}
use Rattle.off_outside.specs.KeeperCalls.{Reads}
use Rattle.off_outside.proofs.KeeperLemmas.{reads_then, reads_as}
use Rattle.off_order_laws.proofs.StepLaws.{writes_append}
use Rattle.off_commands.specs.declared.progress.Progress.{Progress}
use Rattle.off_commands.specs.declared.putting.Refused.{Refused}
use Rattle.off_commands.specs.Imports.{put_of, is_sound_row, IsPut, IsJudged, IsStep, AreRowsPut}

-- a row of an import's kind is a sound one
row_sound : (kind : ImportKind) (put : ImportRow) → is_row_of kind put ≡ true → is_sound_row put ≡ true
row_sound Subscribers (imported.Subscriber n subscriber) is = is
row_sound Subscribers (imported.Modem mac modem) is = cc
row_sound Modems (imported.Subscriber n subscriber) is = cc
row_sound Modems (imported.Modem mac modem) is = refl

pub rows_sound : (kind : ImportKind) (rows : List ImportRow) → list_all (is_row_of kind) rows ≡ true → list_all is_sound_row rows ≡ true
rows_sound kind [] is = refl
rows_sound kind (put ∷ rows) is =
    let all = and_parts (is_row_of kind put) (list_all (is_row_of kind) rows) is in
    and_from (is_sound_row put) (list_all is_sound_row rows) (row_sound kind put all.0) (rows_sound kind rows all.1)

-- the row at a place is sound
pub sound_at : (rows : List ImportRow) (i : ℕ) (put : ImportRow) → slice_get rows i ≡ Some put → list_all is_sound_row rows ≡ true → is_sound_row put ≡ true
sound_at rows i put at all = elim (is_sound_row put) as (λ b. is_sound_row put ≡ b → b ≡ true) [
  | true ↦ λ e. refl
  | false ↦ λ e. sym (list_all_at is_sound_row rows i put (slice_get_within rows i put at) (ap is_sound_row (get_or_from_slice_get rows i put put at) ∙ e)) ∙ all
] refl

-- writes before others
then_none : (rest : Result (List Write) Refusal) → rest ≡ then_writes [] rest
then_none (Ok writes) = refl
then_none (Err refused) = refl

then_both : (one other : List Write) (rest : Result (List Write) Refusal) → then_writes one (then_writes other rest) ≡ then_writes (one ++ other) rest
then_both one other (Ok writes) = ap Ok (sym (append_assoc one other writes))
then_both one other (Err refused) = refl

-- what is left to be done of all rows, behind i of them
pub record Leads (t : Tables) (rows : List ImportRow) (i : ℕ) (p : Progress) : Type 0 where
  pub rest : (now : ℕ) → rows_written t now 1 rows ≡ then_writes p.writes (rows_written (write_all t p.writes) now (i + 1) (drop i rows))
  pub counted : p.counts ≡ counts_of (write_all t p.writes)

pub leads_none : (t : Tables) (rows : List ImportRow) (p : Progress) → p.writes ≡ [] → p.counts ≡ counts_of t → Leads t rows 0 p
leads_none t rows p none agree = record {
  rest = λ now. then_none (rows_written t now 1 rows) ∙ ap (λ (w : List Write). then_writes w (rows_written (write_all t w) now 1 rows)) (sym none);
  counted = agree ∙ ap (λ (w : List Write). counts_of (write_all t w)) (sym none);
}

puts_one : (u : Tables) (put : ImportRow) → row_writes u put ≡ put_of put ∷ []
puts_one u (imported.Subscriber n subscriber) = refl
puts_one u (imported.Modem mac modem) = refl

module _ (t : Tables) (rows : List ImportRow) (i : ℕ) (put : ImportRow) (at : slice_get rows i ≡ Some put) where
  -- the row at the place, before those behind it
  at_row : (now : ℕ) (p : Progress) → Leads t rows i p
      → rows_written t now 1 rows ≡ then_writes p.writes (rows_written (write_all t p.writes) now (i + 1) (put ∷ drop (i + 1) rows))
  at_row now p leads = leads.rest now ∙ ap (λ (left : List ImportRow). then_writes p.writes (rows_written (write_all t p.writes) now (i + 1) left)) (dropped rows i put at)

  pub leads_more : (old new : Progress) → Leads t rows i old → ((now : ℕ) → row_breaks (write_all t old.writes) now put ≡ None) → new.writes ≡ old.writes ++ put_of put ∷ []
      → new.counts ≡ counts_of (write_all t new.writes) → Leads t rows (i + 1) new
  leads_more old new leads whole writes counted = record {
    rest = λ now.
        let u = write_all t old.writes in
        at_row now old leads
        ∙ ap (λ (r : Option Rule). then_writes old.writes (unless_broken (i + 1) r (then_writes (row_writes u put) (rows_written (write_all u (row_writes u put)) now (i + 1 + 1) (drop (i + 1) rows))))) (whole now)
        ∙ ap (λ (w : List Write). then_writes old.writes (then_writes w (rows_written (write_all u w) now (i + 1 + 1) (drop (i + 1) rows)))) (puts_one u put)
        ∙ then_both old.writes (put_of put ∷ []) (rows_written (write_all u (put_of put ∷ [])) now (i + 1 + 1) (drop (i + 1) rows))
        ∙ ap (λ (v : Tables). then_writes (old.writes ++ put_of put ∷ []) (rows_written v now (i + 1 + 1) (drop (i + 1) rows))) (sym (writes_append t old.writes (put_of put ∷ [])))
        ∙ ap (λ (w : List Write). then_writes w (rows_written (write_all t w) now (i + 1 + 1) (drop (i + 1) rows))) (sym writes);
    counted = counted;
  }

  pub leads_broken : (p : Progress) (broken : Rule) (row : ℕ) → Leads t rows i p → ((now : ℕ) → row_breaks (write_all t p.writes) now put ≡ Some broken) → row ≡ i + 1
      → (now : ℕ) → rows_written t now 1 rows ≡ Err (refusal row broken)
  leads_broken p broken row leads breaks is now =
      let u = write_all t p.writes in
      at_row now p leads
      ∙ ap (λ (r : Option Rule). then_writes p.writes (unless_broken (i + 1) r (then_writes (row_writes u put) (rows_written (write_all u (row_writes u put)) now (i + 1 + 1) (drop (i + 1) rows))))) (breaks now)
      ∙ ap (λ (n : ℕ). Err (refusal n broken)) (sym is)

pub leads_all : (t : Tables) (rows : List ImportRow) (i : ℕ) (p : Progress) → length rows ≤ i → Leads t rows i p → AreRowsPut t rows (Ok p)
leads_all t rows i p past leads = (
  λ now.
      leads.rest now
      ∙ ap (λ (left : List ImportRow). then_writes p.writes (rows_written (write_all t p.writes) now (i + 1) left)) (drop_of_length-le rows past)
      ∙ ap Ok (append-nil p.writes),
  leads.counted,
)

-- from a row's verdict to the step
step_done : (t : Tables) (put : ImportRow) (old new : Progress) (after : Counts) → IsJudged (write_all t old.writes) put (Ok after) → new.writes ≡ old.writes ++ put_of put ∷ [] → new.counts ≡ after
    → IsStep t put old new (Ok tt)
step_done t put old new after judged writes counts = (
  judged.0,
  counts ∙ judged.1
      ∙ ap (λ (w : List Write). counts_of (write_all (write_all t old.writes) w)) (puts_one (write_all t old.writes) put)
      ∙ ap counts_of (sym (writes_append t old.writes (put_of put ∷ [])))
      ∙ ap (λ (w : List Write). counts_of (write_all t w)) (sym writes),
)

pub step_read : {a b : KeeperSeen} (put : ImportRow) (old new : Progress) (verdict : Result Counts Rule) (after : Counts) → verdict ≡ Ok after
    → Reads (λ t. old.counts ≡ counts_of (write_all t old.writes) → IsJudged (write_all t old.writes) put verdict) a b → IsPut put old new → new.counts ≡ after
    → Reads (λ t. old.counts ≡ counts_of (write_all t old.writes) → IsStep t put old new (Ok tt)) a b
step_read put old new verdict after is judged done counts =
    reads_as judged (λ t says agree. step_done t put old new after (subst (IsJudged (write_all t old.writes) put) is (says agree)) done.writes counts)

-- what is said of a step that was done
pub done_then : {P : Type 0} (verdict : Result (Unit {0}) Rule) → verdict ≡ Ok tt → OnOk verdict P → P
done_then (Ok done) is said = said
done_then (Err broken) is said = cc

-- the walk over the rows, as it is read from the keeper
abbrev pub Led : Counts → List ImportRow → ℕ → Progress → Tables → Type 0
Led counts rows i p t = counts ≡ counts_of t → Leads t rows i p

pub led_more : {a b c : KeeperSeen} (counts : Counts) (rows : List ImportRow) (i : ℕ) (put : ImportRow) (old new : Progress) (verdict : Result (Unit {0}) Rule) → slice_get rows i ≡ Some put
    → verdict ≡ Ok tt → Reads (Led counts rows i old) a b
    → Reads (λ t. old.counts ≡ counts_of (write_all t old.writes) → IsStep t put old new verdict) b c → OnOk verdict (IsPut put old new) → Reads (Led counts rows (i + 1) new) a c
led_more counts rows i put old new verdict at is so_far one done =
    reads_then so_far one (λ t leads step agree.
    let here = leads agree in
    let went = subst (IsStep t put old new) is (step here.counted) in
    leads_more t rows i put at old new here went.0 (done_then verdict is done).writes went.1)

pub led_broken : {a b c : KeeperSeen} (counts : Counts) (rows : List ImportRow) (i : ℕ) (put : ImportRow) (old new : Progress) (verdict : Result (Unit {0}) Rule) (refused : Refused) → slice_get rows i ≡ Some put
    → verdict ≡ Err refused.rule → refused.row ≡ i + 1 → Reads (Led counts rows i old) a b
    → Reads (λ t. old.counts ≡ counts_of (write_all t old.writes) → IsStep t put old new verdict) b c
    → Reads (λ t. counts ≡ counts_of t → AreRowsPut t rows (Err refused)) a c
led_broken counts rows i put old new verdict refused at is place so_far one =
    reads_then so_far one (λ t leads step agree.
    let here = leads agree in
    leads_broken t rows i put at old refused.rule refused.row here (subst (IsStep t put old new) is (step here.counted)) place)
