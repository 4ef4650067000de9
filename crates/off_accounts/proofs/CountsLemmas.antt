-- The counts of all kinds after one write, and after several.
use Rattle.std.proofs.Common.{◌≡◌, ℕ, ◌+◌, ◌-◌, min, Bool, true, false, cond, ◌&&◌, Option, Some, None, is_some, count_by, refl, sym, ap, subst, ◌∙◌, arith}
use Rattle.std.specs.FinMap as map
use Rattle.std.specs.FinMap.Entries as list
use Rattle.off_base.specs.Number.{greatest_u64}
use Rattle.off_defs.specs.declared.keys.Key.{Key}
use Rattle.off_defs.specs.declared.keys.Key.TheVariants.{Subscriber, AddOn, Modem, Class, Pool, Batch, Hub, DevicePool}
use Rattle.off_defs.specs.declared.tables.Row.{Row}
use Rattle.off_defs.specs.declared.kinds.Kind.{Kind}
use Rattle.off_defs.specs.declared.kinds.Kind.TheVariants.{Subscribers, AddOns, Modems, Classes, Pools, Batches, Hubs, DevicePools}
use Rattle.off_defs.specs.Keys.{key_cmp}
use Rattle.off_defs.specs.State.{Tables}
use Rattle.off_defs.specs.Tables.{row_at, with_row, without}
use Rattle.off_defs.proofs.KeyLemmas.{key_total, key_exact}
use Rattle.off_defs.proofs.TableLemmas.{entries_with, entries_without}
use Rattle.off_account_rules.specs.declared.counts.Counts.{Counts}
use Rattle.off_account_rules.specs.Rows.{is_possible, possible, seen_at, is_of_kind, is_counted, count_of, counts_of}
use Rattle.off_accounts.specs.Changes.{count_in, with_count, counts_put, counts_drop}
use Rattle.off_accounts.proofs.ChangeLemmas.{counted_at, counts_it, count-put, count-without}

-- one row of the kind at the key, or none
abbrev pub here : Kind → Key → Option Row → ℕ
here kind key seen = cond (is_of_kind kind key) (cond (is_some seen) 1 0) 0

counted_here : (kind : Kind) (key : Key) (row : Option Row) → counted_at key_cmp (is_counted kind) key row ≡ here kind key (possible key row)
counted_here kind key None = elim (is_of_kind kind key) as (λ b. ◌≡◌ {A = ℕ} 0 (cond b 0 0)) [ true ↦ refl | false ↦ refl ]
counted_here kind key (Some row) =
    elim (is_of_kind kind key) as (λ b. ◌≡◌ {A = ℕ} (cond (b && is_possible key row) 1 0) (cond b (cond (is_some (possible key (Some row))) 1 0) 0)) [
      | true ↦ elim (is_possible key row) as (λ b. ◌≡◌ {A = ℕ} (cond b 1 0) (cond (is_some (cond b (Some row) None)) 1 0)) [ true ↦ refl | false ↦ refl ]
      | false ↦ refl
    ]

found_here : (kind : Kind) (key : Key) (t : Tables) → counted_at key_cmp (is_counted kind) key (list.find key_cmp key (map.entries t)) ≡ here kind key (seen_at t key)
found_here kind key t = ap (counted_at key_cmp (is_counted kind) key) (sym (map.get-entries t key)) ∙ counted_here kind key (row_at t key)

new_here : (kind : Kind) (key : Key) (row : Row) → is_possible key row ≡ true → counts_it key_cmp (is_counted kind) (key, row) ≡ here kind key (Some row)
new_here kind key row is = ap (λ b. cond (is_of_kind kind key && b) 1 0) is ∙ elim (is_of_kind kind key) as (λ b. ◌≡◌ {A = ℕ} (cond (b && true) 1 0) (cond b 1 0)) [ true ↦ refl | false ↦ refl ]

pub count_with : (kind : Kind) (key : Key) (row : Row) (t : Tables) → is_possible key row ≡ true
    → count_of kind (with_row t key row) + here kind key (seen_at t key) ≡ count_of kind t + here kind key (Some row)
count_with kind key row t is =
    let put = count-put key_cmp (is_counted kind) key_total key_exact key row (map.entries t) (map.entries_sorted t) in
    let entries : count_of kind (with_row t key row) ≡ count_by (is_counted kind) (list.put key_cmp key row (map.entries t)) = ap (count_by (is_counted kind)) (entries_with t key row) in
    let old = found_here kind key t in
    let new = new_here kind key row is in
    omega (arith, put, entries, old, new)

pub count_without : (kind : Kind) (key : Key) (t : Tables) → count_of kind (without t key) + here kind key (seen_at t key) ≡ count_of kind t
count_without kind key t =
    let drop = count-without key_cmp (is_counted kind) key_total key_exact key (map.entries t) (map.entries_sorted t) in
    let entries = ap (count_by (is_counted kind)) (entries_without t key) in
    let old = found_here kind key t in
    omega (arith, drop, entries, old)

-- counts that are equal for each kind are equal
pub same_counts : (c d : Counts) → ((kind : Kind) → count_in kind c ≡ count_in kind d) → c ≡ d
same_counts c d same = λ i. record {
  subscribers = same Subscribers i;
  addons = same AddOns i;
  modems = same Modems i;
  classes = same Classes i;
  pools = same Pools i;
  batches = same Batches i;
  hubs = same Hubs i;
  device_pools = same DevicePools i;
}

-- what the counts say of a number of rows of a kind
abbrev pub kept : Kind → ℕ → ℕ
kept Batches n = min greatest_u64 n
kept kind n = n

pub counted_of : (kind : Kind) (t : Tables) → count_in kind (counts_of t) ≡ kept kind (count_of kind t)
counted_of Subscribers t = refl
counted_of AddOns t = refl
counted_of Modems t = refl
counted_of Classes t = refl
counted_of Pools t = refl
counted_of Batches t = refl
counted_of Hubs t = refl
counted_of DevicePools t = refl

abbrev same_kind : Kind → Kind → Bool
same_kind Subscribers Subscribers = true
same_kind AddOns AddOns = true
same_kind Modems Modems = true
same_kind Classes Classes = true
same_kind Pools Pools = true
same_kind Batches Batches = true
same_kind Hubs Hubs = true
same_kind DevicePools DevicePools = true
same_kind kind other = false

counted_with : (kind other : Kind) (n : ℕ) (c : Counts) → count_in other (with_count kind n c) ≡ cond (same_kind kind other) n (count_in other c)
counted_with Subscribers Subscribers n c = refl
counted_with AddOns AddOns n c = refl
counted_with Modems Modems n c = refl
counted_with Classes Classes n c = refl
counted_with Pools Pools n c = refl
counted_with Batches Batches n c = refl
counted_with Hubs Hubs n c = refl
counted_with DevicePools DevicePools n c = refl
counted_with _ _ n c = refl

own_kind : (kind other : Kind) (key : Key) → is_of_kind kind key ≡ true → is_of_kind other key ≡ same_kind kind other
own_kind Subscribers Subscribers (Subscriber n) e = refl
own_kind Subscribers _ (Subscriber n) e = refl
own_kind Subscribers _ _ e = cc
own_kind AddOns AddOns (AddOn n i) e = refl
own_kind AddOns _ (AddOn n i) e = refl
own_kind AddOns _ _ e = cc
own_kind Modems Modems (Modem m) e = refl
own_kind Modems _ (Modem m) e = refl
own_kind Modems _ _ e = cc
own_kind Classes Classes (Class n) e = refl
own_kind Classes _ (Class n) e = refl
own_kind Classes _ _ e = cc
own_kind Pools Pools (Pool n) e = refl
own_kind Pools _ (Pool n) e = refl
own_kind Pools _ _ e = cc
own_kind Batches Batches (Batch n) e = refl
own_kind Batches _ (Batch n) e = refl
own_kind Batches _ _ e = cc
own_kind Hubs Hubs (Hub n) e = refl
own_kind Hubs _ (Hub n) e = refl
own_kind Hubs _ _ e = cc
own_kind DevicePools DevicePools (DevicePool n) e = refl
own_kind DevicePools _ (DevicePool n) e = refl
own_kind DevicePools _ _ e = cc

same_then : (kind other : Kind) → same_kind kind other ≡ true → kind ≡ other
same_then Subscribers Subscribers e = refl
same_then AddOns AddOns e = refl
same_then Modems Modems e = refl
same_then Classes Classes e = refl
same_then Pools Pools e = refl
same_then Batches Batches e = refl
same_then Hubs Hubs e = refl
same_then DevicePools DevicePools e = refl
same_then _ _ e = cc

-- a number that is kept whole for a kind, also where the kind is said as another one
kept_whole : (kind other : Kind) → ((n : ℕ) → kept kind n ≡ n) → same_kind kind other ≡ true → (n : ℕ) → kept other n ≡ n
kept_whole kind other whole same n = subst (λ k. kept k n ≡ n) (same_then kind other same) (whole n)

stays : (other : Kind) (before after : ℕ) (c : Counts) → count_in other c ≡ kept other before → before ≡ after → count_in other c ≡ kept other after
stays other before after c is same = is ∙ ap (kept other) same

-- a kind's count after a change of another one's, and of its own where that is kept whole
put_one : (kind other : Kind) (seen : Option Row) (row : Row) (before after : ℕ) (c : Counts) → ((n : ℕ) → kept kind n ≡ n) → count_in other c ≡ kept other before
    → after + cond (same_kind kind other) (cond (is_some seen) 1 0) 0 ≡ before + cond (same_kind kind other) 1 0
    → count_in other (counts_put kind (is_some seen) c) ≡ kept other after
put_one kind other None row before after c whole is e =
    counted_with kind other (count_in kind c + 1) c
    ∙ elim (same_kind kind other) as (λ b. same_kind kind other ≡ b → after + cond b 0 0 ≡ before + cond b 1 0 → cond b (count_in kind c + 1) (count_in other c) ≡ kept other after) [
      | true ↦ λ same e.
          let own : count_in kind c ≡ count_in other c = ap (λ k. count_in k c) (same_then kind other same) in
          let one : count_in kind c + 1 ≡ after = omega (arith, own ∙ is ∙ kept_whole kind other whole same before, e) in
          one ∙ sym (kept_whole kind other whole same after)
      | false ↦ λ same e. stays other before after c is (omega (arith, e))
    ] refl e
put_one kind other (Some x) row before after c whole is e =
    stays other before after c is (elim (same_kind kind other) as (λ b. after + cond b 1 0 ≡ before + cond b 1 0 → before ≡ after) [ true ↦ λ e. omega (arith, e) | false ↦ λ e. omega (arith, e) ] e)

drop_one : (kind other : Kind) (seen : Option Row) (before after : ℕ) (c : Counts) → ((n : ℕ) → kept kind n ≡ n) → count_in other c ≡ kept other before
    → after + cond (same_kind kind other) (cond (is_some seen) 1 0) 0 ≡ before
    → count_in other (counts_drop kind (is_some seen) c) ≡ kept other after
drop_one kind other (Some x) before after c whole is e =
    counted_with kind other (count_in kind c - 1) c
    ∙ elim (same_kind kind other) as (λ b. same_kind kind other ≡ b → after + cond b 1 0 ≡ before → cond b (count_in kind c - 1) (count_in other c) ≡ kept other after) [
      | true ↦ λ same e.
          let own : count_in kind c ≡ count_in other c = ap (λ k. count_in k c) (same_then kind other same) in
          let one : count_in kind c - 1 ≡ after = omega (arith, own ∙ is ∙ kept_whole kind other whole same before, e) in
          one ∙ sym (kept_whole kind other whole same after)
      | false ↦ λ same e. stays other before after c is (omega (arith, e))
    ] refl e
drop_one kind other None before after c whole is e =
    stays other before after c is (elim (same_kind kind other) as (λ b. after + cond b 0 0 ≡ before → before ≡ after) [ true ↦ λ e. omega (arith, e) | false ↦ λ e. omega (arith, e) ] e)

-- the counts after a put of a possible row, of a kind that is counted whole
pub counts_with : (kind : Kind) (key : Key) (row : Row) (t : Tables) → ((n : ℕ) → kept kind n ≡ n) → is_of_kind kind key ≡ true → is_possible key row ≡ true
    → counts_of (with_row t key row) ≡ counts_put kind (is_some (seen_at t key)) (counts_of t)
counts_with kind key row t whole is fits = sym (same_counts (counts_put kind (is_some (seen_at t key)) (counts_of t)) (counts_of (with_row t key row)) (λ other.
    let e = count_with other key row t fits in
    put_one kind other (seen_at t key) row (count_of other t) (count_of other (with_row t key row)) (counts_of t) whole (counted_of other t)
    (subst (λ b. count_of other (with_row t key row) + cond b (cond (is_some (seen_at t key)) 1 0) 0 ≡ count_of other t + cond b 1 0) (own_kind kind other key is) e)
    ∙ sym (counted_of other (with_row t key row))))

-- and after a drop
pub counts_without : (kind : Kind) (key : Key) (t : Tables) → ((n : ℕ) → kept kind n ≡ n) → is_of_kind kind key ≡ true
    → counts_of (without t key) ≡ counts_drop kind (is_some (seen_at t key)) (counts_of t)
counts_without kind key t whole is = sym (same_counts (counts_drop kind (is_some (seen_at t key)) (counts_of t)) (counts_of (without t key)) (λ other.
    let e = count_without other key t in
    drop_one kind other (seen_at t key) (count_of other t) (count_of other (without t key)) (counts_of t) whole (counted_of other t)
    (subst (λ b. count_of other (without t key) + cond b (cond (is_some (seen_at t key)) 1 0) 0 ≡ count_of other t) (own_kind kind other key is) e)
    ∙ sym (counted_of other (without t key))))
