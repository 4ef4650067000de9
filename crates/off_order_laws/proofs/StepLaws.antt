-- A command's step leaves good tables good: an import row by row, each other command by its writes.
use Rattle.std.proofs.Common.{◌≡◌, ℕ, ◌+◌, true, leb, Option, Some, None, option_and_then, Result, Ok, Err, List, [], ◌∷◌, ◌++◌, length, refl, sym, ap, subst, ◌∙◌}
use Rattle.std.proofs.lemmas.Bool.{and_parts}
use Rattle.std.specs.List.{list_all}
use Rattle.off_base.specs.Choices.{first_there}
use Rattle.off_defs.specs.declared.keys.Key.TheVariants as key
use Rattle.off_defs.specs.declared.tables.Row.TheVariants as row
use Rattle.off_defs.specs.declared.tables.Batch.{Batch}
use Rattle.off_defs.specs.declared.tables.ImportKind.{ImportKind}
use Rattle.off_defs.specs.declared.tables.ImportKind.TheVariants as import
use Rattle.off_orders.specs.declared.orders.Command.{Command}
use Rattle.off_orders.specs.declared.orders.Command.TheVariants.{PutHub, PutSubscriber, PutAddOn, PutModem, PutClass, PutPool, PutDevicePool, Remove, Show, Import}
use Rattle.off_orders.specs.declared.orders.ImportRow.{ImportRow}
use Rattle.off_orders.specs.declared.orders.ImportRow.TheVariants as imported
use Rattle.off_orders.specs.declared.orders.Reply.{Reply}
use Rattle.off_orders.specs.declared.orders.Reply.TheVariants.{Done, Rows}
use Rattle.off_defs.specs.declared.kinds.Kind.TheVariants.{Batches}
use Rattle.off_defs.specs.declared.writes.Write.{Write}
use Rattle.off_defs.specs.declared.writes.Write.TheVariants.{Put}
use Rattle.off_orders.specs.declared.rules.Rule.{Rule}
use Rattle.off_defs.specs.State.{Tables}
use Rattle.off_defs.specs.Tables.{row_at, written, write_all}
use Rattle.off_orders.specs.Sound.{is_sound, is_row_of}
use Rattle.off_account_rules.specs.Rows.{seen_at, batch_in}
use Rattle.off_account_rules.specs.Good.{Good}
use Rattle.off_orders.specs.Clerk.{Refusal, Decision, accepted, by_rule, shown_as, shown, limit, rules_of, writes_of, command_of, then_writes, unless_broken, rows_written, batch_row, imported_as, import_decided, decided, stepped_by, clerk_step}
use Rattle.off_order_laws.specs.Laws.{secret_fits, StepKeepsGood, RefusedChangesNothing}
use Rattle.off_table_laws.proofs.Rows as rows
use Rattle.off_table_laws.proofs.Rows.{all_written}
use Rattle.off_table_laws.proofs.GoodRows.{GoodRows}
use Rattle.off_table_laws.proofs.Judging.{good_rows, good_tables}
use Rattle.off_table_laws.proofs.PutLemmas.{put_batch}
use Rattle.off_order_laws.proofs.ClerkSteps.{command_good}

-- what is left where one rule decides
ruled : (t : Tables) (writes : List Write) (reply : Reply) (broken : Option Rule) → Good t → (broken ≡ None → Good (write_all t writes))
    → Good (stepped_by t (by_rule 0 (accepted writes reply) broken)).tables
ruled t writes reply None good h = h refl
ruled t writes reply (Some broken) good h = good

seen_good : (t : Tables) (o : Option Reply) → Good t → Good (stepped_by t (shown o)).tables
seen_good t None good = good
seen_good t (Some reply) good = good

-- writes in two parts
pub writes_append : (t : Tables) (one other : List Write) → write_all t (one ++ other) ≡ write_all (write_all t one) other
writes_append t [] other = refl
writes_append t (write ∷ one) other = writes_append (written t write) one other

-- a row of an import is put by a command that is sound
row_sound : (kind : ImportKind) (first : ImportRow) → is_row_of kind first ≡ true → is_sound (command_of first) ≡ true
row_sound import.Subscribers (imported.Subscriber n subscriber) h = h
row_sound import.Modems (imported.Modem mac modem) h = refl
row_sound import.Subscribers (imported.Modem mac modem) h = cc
row_sound import.Modems (imported.Subscriber n subscriber) h = cc

row_fits : (first : ImportRow) → secret_fits (command_of first) ≡ true
row_fits (imported.Subscriber n subscriber) = refl
row_fits (imported.Modem mac modem) = refl

-- where the rows of an import are written, no rule of the first is broken, and the rest is written over what it left
not_broken : (at : ℕ) (broken : Option Rule) (rest : Result (List Write) Refusal) (all : List Write) → unless_broken at broken rest ≡ Ok all → (broken ≡ None) × (rest ≡ Ok all)
not_broken at None rest all e = (refl, e)
not_broken at (Some broken) rest all e = cc

then_both : (writes : List Write) (rest : Result (List Write) Refusal) (all : List Write) → then_writes writes rest ≡ Ok all → (more : List Write) × (rest ≡ Ok more) × (writes ++ more ≡ all)
then_both writes (Ok more) all e = (more, refl, cc)
then_both writes (Err refused) all e = cc

import_good : (now : ℕ) (kind : ImportKind) (rows : List ImportRow) (t : Tables) (at : ℕ) (all : List Write) → Good t → list_all (is_row_of kind) rows ≡ true
    → rows_written t now at rows ≡ Ok all → Good (write_all t all)
import_good now kind [] t at all good sound e = let none : [] ≡ all = cc in subst (λ (writes : List Write). Good (write_all t writes)) none good
import_good now kind (first ∷ rest) t at all good sound e =
    let parts = and_parts (is_row_of kind first) (list_all (is_row_of kind) rest) sound in
    let done = not_broken at (first_there (rules_of t now (command_of first))) _ all e in
    let both = then_both (writes_of t (command_of first)) _ all done.1 in
    let one = command_good t now (command_of first) (row_sound kind first parts.0) (row_fits first) good done.0 in
    let more = import_good now kind rest (write_all t (writes_of t (command_of first))) (at + 1) both.0 one parts.1 both.1 in
    subst (λ (u : Tables). Good u) (sym (writes_append t (writes_of t (command_of first)) both.0) ∙ ap (write_all t) both.2) more

batch_good : (t : Tables) (n : ℕ) (batch : Batch) → Good t → Good (write_all t (Put (key.Batch n) (row.Batch batch) ∷ []))
batch_good t n batch good =
    let after = all_written t (Put (key.Batch n) (row.Batch batch) ∷ []) in
    record {
      opens = good_tables (write_all t (Put (key.Batch n) (row.Batch batch) ∷ []))
          (subst (λ (all : rows.Rows). GoodRows all) (sym after) (put_batch (row_at t) (good_rows t good.opens) n batch));
      no_site = ap (λ (all : rows.Rows). all key.Site) after ∙ good.no_site;
    }

imported_good : (t : Tables) (kind : ImportKind) (batch : ℕ) (digest : List ℕ) (rows : List ImportRow) (result : Result (List Write) Refusal) → Good t
    → ((writes : List Write) → result ≡ Ok writes → Good (write_all t writes)) → Good (stepped_by t (imported_as t kind batch digest rows result)).tables
imported_good t kind batch digest rows (Err refused) good h = good
imported_good t kind batch digest rows (Ok writes) good h =
    ruled t (writes ++ Put (key.Batch batch) (batch_row kind digest rows) ∷ []) (Rows (length rows)) (limit t (key.Batch batch) Batches) good (λ _.
    subst (λ (u : Tables). Good u) (sym (writes_append t writes (Put (key.Batch batch) (batch_row kind digest rows) ∷ [])))
    (batch_good (write_all t writes) batch _ (h writes refl)))

repeat_good : (t : Tables) (reply : Reply) (broken : Option Rule) → Good t → Good (stepped_by t (by_rule 0 (accepted [] reply) broken)).tables
repeat_good t reply broken good = ruled t [] reply broken good (λ _. good)

decided_good : (t : Tables) (now : ℕ) (kind : ImportKind) (batch : ℕ) (digest : List ℕ) (rows : List ImportRow) (old : Option Batch) → Good t → list_all (is_row_of kind) rows ≡ true
    → Good (stepped_by t (import_decided t now kind batch digest rows old)).tables
decided_good t now kind batch digest rows (Some old) good sound = repeat_good t (Rows old.rows) _ good
decided_good t now kind batch digest rows None good sound =
    imported_good t kind batch digest rows (rows_written t now 1 rows) good (λ writes e. import_good now kind rows t 1 writes good sound e)

step_good : (t : Tables) (now : ℕ) (command : Command) → is_sound command ≡ true → secret_fits command ≡ true → Good t → Good (stepped_by t (decided t now command)).tables
step_good t now (Show q) sound short good = seen_good t (option_and_then (shown_as t q) (seen_at t q)) good
step_good t now (Import kind batch digest rows) sound short good =
    decided_good t now kind batch digest rows (batch_in t batch) good (and_parts (leb (length rows) 2000) (list_all (is_row_of kind) rows) sound).1
step_good t now (PutHub n site) sound short good = ruled t (writes_of t (PutHub n site)) Done (first_there (rules_of t now (PutHub n site))) good (command_good t now (PutHub n site) sound short good)
step_good t now (PutSubscriber n subscriber) sound short good =
    ruled t (writes_of t (PutSubscriber n subscriber)) Done (first_there (rules_of t now (PutSubscriber n subscriber))) good (command_good t now (PutSubscriber n subscriber) sound short good)
step_good t now (PutAddOn n number settings) sound short good =
    ruled t (writes_of t (PutAddOn n number settings)) Done (first_there (rules_of t now (PutAddOn n number settings))) good (command_good t now (PutAddOn n number settings) sound short good)
step_good t now (PutModem mac modem) sound short good = ruled t (writes_of t (PutModem mac modem)) Done (first_there (rules_of t now (PutModem mac modem))) good (command_good t now (PutModem mac modem) sound short good)
step_good t now (PutClass n class) sound short good = ruled t (writes_of t (PutClass n class)) Done (first_there (rules_of t now (PutClass n class))) good (command_good t now (PutClass n class) sound short good)
step_good t now (PutPool n pool hub) sound short good = ruled t (writes_of t (PutPool n pool hub)) Done (first_there (rules_of t now (PutPool n pool hub))) good (command_good t now (PutPool n pool hub) sound short good)
step_good t now (PutDevicePool n pool) sound short good = ruled t (writes_of t (PutDevicePool n pool)) Done (first_there (rules_of t now (PutDevicePool n pool))) good (command_good t now (PutDevicePool n pool) sound short good)
step_good t now (Remove removed) sound short good = ruled t (writes_of t (Remove removed)) Done (first_there (rules_of t now (Remove removed))) good (command_good t now (Remove removed) sound short good)

pub step_keeps_good : StepKeepsGood
unfolding clerk_step
step_keeps_good t now command sound short good = step_good t now command sound short good

refused_same : (t : Tables) (decision : Decision) (refused : Refusal) → (stepped_by t decision).answer ≡ Err refused → (stepped_by t decision).tables ≡ t
refused_same t (Ok done) refused e = cc
refused_same t (Err other) refused e = refl

pub refused_changes_nothing : RefusedChangesNothing
unfolding clerk_step
refused_changes_nothing t now command refused e = refused_same t (decided t now command) refused e
