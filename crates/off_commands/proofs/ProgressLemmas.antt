-- The rows so far: which keys have a row behind them.
use Rattle.std.proofs.Common.{◌≡◌, ℕ, Bool, true, false, cond, ◌||◌, Option, Some, None, is_some, List, [], ◌∷◌, ◌++◌, refl, sym, ap, subst, ◌∙◌}
use Rattle.std.specs.List.{list_any}
use Rattle.std.specs.Ordering.{eq_by_cmp}
use Rattle.std.specs.declared.cmp.Ordering.{Ordering}
use Rattle.std.specs.Cmp.{eq_by_cmp_equiv}
use Rattle.std.specs.BTreeMap.{is_at}
use Rattle.std.specs.BTreeSet.{BTreeSet, contains}
use Rattle.off_defs.specs.declared.keys.Key.{Key}
use Rattle.off_defs.specs.declared.keys.Key.TheVariants as key
use Rattle.off_defs.specs.declared.tables.Row.{Row}
use Rattle.off_orders.specs.declared.orders.ImportRow.{ImportRow}
use Rattle.off_orders.specs.declared.orders.ImportRow.TheVariants as imported
use Rattle.off_defs.specs.declared.writes.Write.{Write}
use Rattle.off_defs.specs.Keys.{key_cmp}
use Rattle.off_defs.specs.State.{Tables}
use Rattle.off_defs.specs.Tables.{row_at, with_row, write_all}
use Rattle.off_defs.specs.contracts.keys.KeyOrd.TheImpl as derived
use Rattle.off_defs.proofs.KeyLemmas.{derived_is, key_total}
use Rattle.off_defs.proofs.TableLemmas.{same_key, row_with}
use Rattle.off_account_rules.specs.declared.counts.Counts.{Counts}
use Rattle.off_account_rules.specs.Rows.{is_possible, possible, seen_at}
use Rattle.off_order_laws.proofs.StepLaws.{writes_append}
use Rattle.off_commands.specs.declared.progress.Progress.{Progress}
use Rattle.off_commands.specs.Imports.{row_key, row_held, put_of, is_sound_row, was_put, Marked, Shows, Stands, IsPut}

-- whether a key has a row behind a put of a possible row
possible_some : (key : Key) (row : Row) → is_possible key row ≡ true → is_some (possible key (Some row)) ≡ true
possible_some key row fits = ap (λ b. is_some (cond b (Some row) None)) fits

seen_with : (u : Tables) (key : Key) (row : Row) (q : Key) → is_possible key row ≡ true
    → is_some (seen_at (with_row u key row) q) ≡ cond (eq_by_cmp key_cmp q key) true (is_some (seen_at u q))
seen_with u key row q fits =
    ap (λ (r : Option Row). is_some (possible q r)) (row_with u key row q)
    ∙ elim (eq_by_cmp key_cmp q key) as (λ b. eq_by_cmp key_cmp q key ≡ b → is_some (possible q (cond b (Some row) (row_at u q))) ≡ cond b true (is_some (seen_at u q))) [
      | true ↦ λ e. subst (λ (k : Key). is_some (possible k (Some row)) ≡ true) (sym (same_key q key e)) (possible_some key row fits)
      | false ↦ λ e. refl
    ] refl

row_fits : (put : ImportRow) → is_sound_row put ≡ true → is_possible (row_key put) (row_held put) ≡ true
row_fits (imported.Subscriber n subscriber) sound = sound
row_fits (imported.Modem mac modem) sound = refl

cond_or : (b one other : Bool) → cond b true (one || other) ≡ (cond b true one || other)
cond_or true one other = refl
cond_or false one other = refl

shows_more : (old new : Progress) (put : ImportRow) → is_sound_row put ≡ true → new.writes ≡ old.writes ++ put_of put ∷ [] → Marked (row_key put) old.keys new.keys → Shows old → Shows new
shows_more old new put sound writes marked shows t q =
    ap (λ (w : List Write). is_some (seen_at (write_all t w) q)) writes
    ∙ ap (λ (u : Tables). is_some (seen_at u q)) (writes_append t old.writes (put_of put ∷ []))
    ∙ seen_with (write_all t old.writes) (row_key put) (row_held put) q (row_fits put sound)
    ∙ ap (cond (eq_by_cmp key_cmp q (row_key put)) true) (shows t q)
    ∙ cond_or (eq_by_cmp key_cmp q (row_key put)) (was_put old.keys q) (is_some (seen_at t q))
    ∙ ap (λ b. b || is_some (seen_at t q)) (sym (marked q))

-- no row of an import is a batch
no_batch_key : (n : ℕ) (put : ImportRow) → eq_by_cmp key_cmp (key.Batch n) (row_key put) ≡ false
no_batch_key n (imported.Subscriber m subscriber) = refl
no_batch_key n (imported.Modem mac modem) = refl

pub is_put : (old new : Progress) (put : ImportRow) → is_sound_row put ≡ true → new.writes ≡ old.writes ++ put_of put ∷ [] → Marked (row_key put) old.keys new.keys
    → new.counts.batches ≡ old.counts.batches → IsPut put old new
is_put old new put sound writes marked batches = record {
  writes = writes;
  stands = λ counts stands. record {
    shows = shows_more old new put sound writes marked stands.shows;
    no_batch = λ n. marked (key.Batch n) ∙ ap (λ b. cond b true (was_put old.keys (key.Batch n))) (no_batch_key n put) ∙ stands.no_batch n;
    batches = batches ∙ stands.batches;
  };
}

-- the set that stands below
marked_by : (k : Key) (old new : BTreeSet Key) → ((q : Key) → contains key_cmp new q ≡ cond (is_at (key_cmp k) q) true (contains key_cmp old q)) → Marked k old new
unfolding was_put
marked_by k old new updates q = updates q ∙ ap (λ b. cond b true (contains key_cmp old q)) ((eq_by_cmp_equiv key_total).symm k q)

-- which goes by the derived order
pub is_marked : (k : Key) (old new : BTreeSet Key)
    → ((q : Key) → contains (derived.ghosts).cmp new q ≡ cond (is_at ((derived.ghosts).cmp k) q) true (contains (derived.ghosts).cmp old q)) → Marked k old new
is_marked k old new updates =
    marked_by k old new (subst (λ (r : Key → Key → Ordering). (q : Key) → contains r new q ≡ cond (is_at (r k) q) true (contains r old q)) derived_is updates)

pub put_by_order : (keys : BTreeSet Key) (q : Key) → contains (derived.ghosts).cmp keys q ≡ was_put keys q
unfolding was_put
put_by_order keys q = ap (λ (r : Key → Key → Ordering). contains r keys q) derived_is

none_put : (keys : BTreeSet Key) (q : Key) → keys.keys ≡ [] → was_put keys q ≡ false
unfolding was_put
none_put keys q none = ap (list_any (is_at (key_cmp q))) none

pub stands_none : (counts : Counts) (p : Progress) → p.keys.keys ≡ [] → p.writes ≡ [] → p.counts ≡ counts → Stands counts p
stands_none counts p keys writes same = record {
  shows = λ t q. ap (λ (w : List Write). is_some (seen_at (write_all t w) q)) writes ∙ ap (λ b. b || is_some (seen_at t q)) (sym (none_put p.keys q keys));
  no_batch = λ n. none_put p.keys (key.Batch n) keys;
  batches = ap (λ (c : Counts). c.batches) same;
}
