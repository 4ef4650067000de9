-- What a command makes of a batch, and what an import is answered.
use Rattle.std.proofs.Common.{◌≡◌, ◌⊎◌, ℕ, ◌+◌, Bool, true, false, cond, eqb, Option, Some, None, option_and_then, List, [], ◌∷◌, ◌++◌, length, Result, Ok, Err, IfOk, inl, inr, refl, sym, ap, subst, ◌∙◌, arith}
use Rattle.std.proofs.lemmas.Bool.{false_from_ne_true, eqb-true, eq-eqb}
use Rattle.std.specs.Ordering.{eq_by_cmp}
use Rattle.off_base.specs.Choices.{first_there}
use Rattle.off_defs.specs.declared.keys.Key.TheVariants as key
use Rattle.off_defs.specs.declared.tables.Row.{Row}
use Rattle.off_defs.specs.declared.tables.Row.TheVariants as row
use Rattle.off_defs.specs.declared.tables.Batch.{Batch}
use Rattle.off_defs.specs.declared.tables.ImportKind.{ImportKind}
use Rattle.off_orders.specs.declared.orders.Command.{Command}
use Rattle.off_orders.specs.declared.orders.Command.TheVariants.{PutHub, PutSubscriber, PutAddOn, PutModem, PutClass, PutPool, PutDevicePool, Remove, Show, Import}
use Rattle.off_orders.specs.declared.orders.ImportRow.{ImportRow}
use Rattle.off_defs.specs.declared.kinds.Kind.TheVariants.{Batches}
use Rattle.off_orders.specs.declared.orders.Reply.{Reply}
use Rattle.off_orders.specs.declared.orders.Reply.TheVariants.{Done, Rows}
use Rattle.off_defs.specs.declared.writes.Write.{Write}
use Rattle.off_defs.specs.declared.writes.Write.TheVariants.{Put}
use Rattle.off_orders.specs.declared.rules.Rule.{Rule}
use Rattle.off_defs.specs.Keys.{key_cmp}
use Rattle.off_defs.specs.State.{Tables}
use Rattle.off_defs.specs.Tables.{row_at, write_all}
use Rattle.off_defs.proofs.TableLemmas.{same_key, own_key}
use Rattle.off_orders.specs.Sound.{is_sound}
use Rattle.off_account_rules.specs.Rows.{possible, seen_at, as_batch, batch_in}
use Rattle.off_orders.specs.Clerk.{Refusal, Decision, Accepted, accepted, by_rule, shown_as, shown, limit, rules_of, writes_of, row_writes, row_breaks, then_writes, unless_broken, rows_written, batch_row, imported_as, import_decided, decided}
use Rattle.off_table_laws.proofs.Rows as rows
use Rattle.off_table_laws.proofs.Rows.{rows_after, all_written}
use Rattle.off_order_laws.proofs.LostLeases.{rows_append}
use Rattle.off_import_runs.specs.Puts.{puts_in, PutOnce}
use Rattle.off_import_runs.proofs.Asides.{AreAside, row_stays, unput, aside_both, row_aside, command_aside}

-- the rows of an import put no batch
then_aside : (writes : List Write) (rest : Result (List Write) Refusal) → AreAside writes → IfOk rest AreAside → IfOk (then_writes writes rest) AreAside
then_aside writes (Ok more) one other = aside_both writes more one other
then_aside writes (Err refused) one other = tt

unless_aside : (at : ℕ) (broken : Option Rule) (rest : Result (List Write) Refusal) → IfOk rest AreAside → IfOk (unless_broken at broken rest) AreAside
unless_aside at None rest aside = aside
unless_aside at (Some broken) rest aside = tt

pub rows_aside : (now : ℕ) (rest : List ImportRow) (t : Tables) (at : ℕ) → IfOk (rows_written t now at rest) AreAside
rows_aside now [] t at = refl
rows_aside now (first ∷ rest) t at =
    unless_aside at (row_breaks t now first) _
    (then_aside (row_writes t first) _ (row_aside t first) (rows_aside now rest (write_all t (row_writes t first)) (at + 1)))

abbrev pub batch_read : ℕ → Option Row → Option Batch
batch_read n o = option_and_then as_batch (possible (key.Batch n) o)

-- ---- one batch, over writes

pub none_put : (o : Option Batch) → PutOnce o o 0
none_put None = refl
none_put (Some batch) = (refl, refl)

pub puts_append : (n : ℕ) (one other : List Write) → puts_in n (one ++ other) ≡ puts_in n one + puts_in n other
puts_append n [] other = omega arith
puts_append n (write ∷ one) other = omega (arith, puts_append n one other)

module _ (n : ℕ) where
  -- writes put the batch once at most, over these rows
  abbrev pub Acts : rows.Rows → List Write → Type 0
  Acts all writes = PutOnce (batch_read n (all (key.Batch n))) (batch_read n (rows_after all writes (key.Batch n))) (puts_in n writes)

  pub aside_acts : (all : rows.Rows) (writes : List Write) → AreAside writes → Acts all writes
  aside_acts all writes aside =
      let o = batch_read n (all (key.Batch n)) in
      subst (λ puts. PutOnce o (batch_read n (rows_after all writes (key.Batch n))) puts) (sym (unput n writes aside))
      (subst (λ new. PutOnce o (batch_read n new) 0) (sym (row_stays n writes all aside)) (none_put o))

  -- the last write of an import, which puts its batch
  last_row : (all : rows.Rows) (writes : List Write) (batch : ℕ) (held : Row) → AreAside writes
      → rows_after all (writes ++ Put (key.Batch batch) held ∷ []) (key.Batch n)
      ≡ cond (eq_by_cmp key_cmp (key.Batch n) (key.Batch batch)) (Some held) (all (key.Batch n))
  last_row all writes batch held aside =
      ap (λ (r : rows.Rows). r (key.Batch n)) (rows_append all writes (Put (key.Batch batch) held ∷ []))
      ∙ ap (λ (o : Option Row). cond (eq_by_cmp key_cmp (key.Batch n) (key.Batch batch)) (Some held) o) (row_stays n writes all aside)

  last_puts : (writes : List Write) (batch : ℕ) (held : Row) → AreAside writes
      → puts_in n (writes ++ Put (key.Batch batch) held ∷ []) ≡ cond (eqb batch n) 1 0
  last_puts writes batch held aside = omega (arith, puts_append n writes (Put (key.Batch batch) held ∷ []), unput n writes aside)

  keys_tell : (batch : ℕ) → eq_by_cmp key_cmp (key.Batch n) (key.Batch batch) ≡ eqb batch n
  keys_tell batch =
      elim (eqb batch n) as (λ b. eqb batch n ≡ b → eq_by_cmp key_cmp (key.Batch n) (key.Batch batch) ≡ b) [
        | true ↦ λ is. ap (λ (m : ℕ). eq_by_cmp key_cmp (key.Batch n) (key.Batch m)) (eqb-true batch n is) ∙ own_key (key.Batch n)
        | false ↦ λ apart. false_from_ne_true (eq_by_cmp key_cmp (key.Batch n) (key.Batch batch)) (λ same.
            let keys = same_key (key.Batch n) (key.Batch batch) same in
            let numbers : batch ≡ n = cc in
            let equal = eq-eqb batch n numbers in
            cc)
      ] refl

  by_number : (equal : Bool) (o : Option Row) (held : Batch) → (equal ≡ true → batch_read n o ≡ None)
      → PutOnce (batch_read n o) (batch_read n (cond equal (Some (row.Batch held)) o)) (cond equal 1 0)
  by_number true o held none = subst (λ (old : Option Batch). PutOnce old (Some held) 1) (sym (none refl)) refl
  by_number false o held none = none_put (batch_read n o)

  put_acts : (all : rows.Rows) (writes : List Write) (batch : ℕ) (held : Batch) → AreAside writes → batch_read batch (all (key.Batch batch)) ≡ None
      → Acts all (writes ++ Put (key.Batch batch) (row.Batch held) ∷ [])
  put_acts all writes batch held aside none =
      let o = batch_read n (all (key.Batch n)) in
      subst (λ (puts : ℕ). PutOnce o (batch_read n (rows_after all (writes ++ Put (key.Batch batch) (row.Batch held) ∷ []) (key.Batch n))) puts)
      (sym (last_puts writes batch (row.Batch held) aside))
      (subst (λ (new : Option Row). PutOnce o (batch_read n new) (cond (eqb batch n) 1 0)) (sym (last_row all writes batch (row.Batch held) aside))
      (subst (λ (b : Bool). PutOnce o (batch_read n (cond b (Some (row.Batch held)) (all (key.Batch n)))) (cond (eqb batch n) 1 0)) (sym (keys_tell batch))
      (by_number (eqb batch n) (all (key.Batch n)) held
      (λ here. subst (λ (m : ℕ). batch_read m (all (key.Batch m)) ≡ None) (eqb-true batch n here) none))))

  -- ---- what a command makes of it: it acts once, and puts no batch but its own
  abbrev pub IsImportOf : Command → Type 0
  IsImportOf (Import kind batch digest read) = batch ≡ n
  IsImportOf command = ⊥

  abbrev pub Fate : Tables → Command → List Write → Type 0
  Fate t command writes = Acts (row_at t) writes × ((puts_in n writes ≡ 0) ⊎ IsImportOf command)

  module _ (t : Tables) (now : ℕ) (command : Command) where
    pub aside_fate : (writes : List Write) → AreAside writes → Fate t command writes
    aside_fate writes aside = (aside_acts (row_at t) writes aside, inl (unput n writes aside))

    abbrev pub DecisionFate : Decision → Type 0
    DecisionFate decision = IfOk decision (λ (done : Accepted). Fate t command done.writes)

    ruled : (writes : List Write) (reply : Reply) (broken : Option Rule) → Fate t command writes → DecisionFate (by_rule 0 (accepted writes reply) broken)
    ruled writes reply None fate = fate
    ruled writes reply (Some broken) fate = tt

    ruled_aside : is_sound command ≡ true → DecisionFate (by_rule 0 (accepted (writes_of t command) Done) (first_there (rules_of t now command)))
    ruled_aside sound = ruled (writes_of t command) Done (first_there (rules_of t now command)) (aside_fate (writes_of t command) (command_aside t command sound))

    shown_fate : (o : Option Reply) → DecisionFate (shown o)
    shown_fate None = tt
    shown_fate (Some reply) = aside_fate [] refl

  -- an import: its rows put no batch, and its last write puts its own
  module _ (t : Tables) (now : ℕ) (kind : ImportKind) (batch : ℕ) (digest : List ℕ) (read : List ImportRow) where
    of_batch : (equal : Bool) (writes : List Write) → eqb batch n ≡ equal → puts_in n writes ≡ cond equal 1 0 → (puts_in n writes ≡ 0) ⊎ (batch ≡ n)
    of_batch true writes is puts = inr (eqb-true batch n is)
    of_batch false writes is puts = inl puts

    put_fate : (writes : List Write) (held : Batch) → AreAside writes → batch_in t batch ≡ None
        → Fate t (Import kind batch digest read) (writes ++ Put (key.Batch batch) (row.Batch held) ∷ [])
    put_fate writes held aside none = (
      put_acts (row_at t) writes batch held aside none,
      of_batch (eqb batch n) (writes ++ Put (key.Batch batch) (row.Batch held) ∷ []) refl (last_puts writes batch (row.Batch held) aside),
    )

    imported_fate : (result : Result (List Write) Refusal) → IfOk result AreAside → batch_in t batch ≡ None
        → DecisionFate t now (Import kind batch digest read) (imported_as t kind batch digest read result)
    imported_fate (Err refused) aside none = tt
    imported_fate (Ok writes) aside none =
        ruled t now (Import kind batch digest read) (writes ++ Put (key.Batch batch) (batch_row kind digest read) ∷ []) (Rows (length read)) (limit t (key.Batch batch) Batches)
        (put_fate writes _ aside none)

    import_fate : (old : Option Batch) → batch_in t batch ≡ old → DecisionFate t now (Import kind batch digest read) (import_decided t now kind batch digest read old)
    import_fate (Some old) is = ruled t now (Import kind batch digest read) [] (Rows old.rows) _ (aside_fate t now (Import kind batch digest read) [] refl)
    import_fate None is = imported_fate (rows_written t now 1 read) (rows_aside now read t 1) is

  pub command_fate : (t : Tables) (now : ℕ) (command : Command) → is_sound command ≡ true → DecisionFate t now command (decided t now command)
  command_fate t now (Show q) sound = shown_fate t now (Show q) (option_and_then (shown_as t q) (seen_at t q))
  command_fate t now (Import kind batch digest read) sound = import_fate t now kind batch digest read (batch_in t batch) refl
  command_fate t now (PutHub m site) sound = ruled_aside t now (PutHub m site) sound
  command_fate t now (PutSubscriber m subscriber) sound = ruled_aside t now (PutSubscriber m subscriber) sound
  command_fate t now (PutAddOn m number settings) sound = ruled_aside t now (PutAddOn m number settings) sound
  command_fate t now (PutModem mac modem) sound = ruled_aside t now (PutModem mac modem) sound
  command_fate t now (PutClass m class) sound = ruled_aside t now (PutClass m class) sound
  command_fate t now (PutPool m pool hub) sound = ruled_aside t now (PutPool m pool hub) sound
  command_fate t now (PutDevicePool m pool) sound = ruled_aside t now (PutDevicePool m pool) sound
  command_fate t now (Remove removed) sound = ruled_aside t now (Remove removed) sound
