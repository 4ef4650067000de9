-- What is left of a walk, by what its entries give: modems, pools, leases. A walk for the rows of one kind may begin behind all lower kinds
-- and ends at the first key of a higher one.
use Rattle.std.proofs.Common.{◌≡◌, ℕ, ◌<◌, ◌≤◌, true, false, cond, Option, Some, None, List, [], ◌∷◌, refl, sym, ap, ◌∙◌, arith}
use Rattle.std.specs.List.{filter_map, cons_option}
use Rattle.std.specs.Ordering.{is_lt}
use Rattle.std.specs.FinMap as map
use Rattle.off_defs.specs.declared.keys.Key.{Key}
use Rattle.off_defs.specs.declared.keys.Key.TheVariants.{Site, Subscriber, AddOn, Modem, Class, Pool, Lease, Held, Batch, Hub, PoolHub, DevicePool, Device}
use Rattle.off_defs.specs.declared.tables.Row.{Row}
use Rattle.off_defs.specs.Keys.{key_cmp}
use Rattle.off_defs.specs.State.{Tables}
use Rattle.off_defs.specs.Tables.{is_after, behind, next_entry}
use Rattle.off_defs.proofs.TableLemmas.{next_of, next_none}
use Rattle.off_rows.specs.KeyBytes.{kind_of}

-- what the entries behind a place give
abbrev pub left_of : {A : Type 0} → (Key × Row → Option A) → Option Key → Tables → List A
left_of give place t = filter_map give (behind place (map.entries t))

pub left_next : {A : Type 0} (give : Key × Row → Option A) (place : Option Key) (entry : Key × Row) (t : Tables) → Some entry ≡ next_entry place t
    → left_of give place t ≡ cons_option (give entry) (left_of give (Some entry.0) t)
left_next give place entry t next = ap (λ (v : List (Key × Row)). filter_map give v) (next_of place entry t (sym next))

pub left_none : {A : Type 0} (give : Key × Row → Option A) (place : Option Key) (t : Tables) → None ≡ next_entry place t → left_of give place t ≡ []
left_none give place t next = ap (λ (v : List (Key × Row)). filter_map give v) (next_none place t (sym next))

-- entries that give nothing don't matter
none_before : {A : Type 0} (give : Key × Row → Option A) (place : Option Key) (es : List (Key × Row)) → ((entry : Key × Row) → is_after place entry ≡ false → give entry ≡ None)
    → filter_map give (behind place es) ≡ filter_map give es
none_before give place [] none = refl
none_before give place (e ∷ es) none =
    elim (is_after place e) as (λ b. is_after place e ≡ b → filter_map give (cond b (e ∷ behind place es) (behind place es)) ≡ cons_option (give e) (filter_map give es)) [
      | true ↦ λ is. ap (λ (v : _). cons_option (give e) v) (none_before give place es none)
      | false ↦ λ is. none_before give place es none ∙ sym (ap (λ (v : _). cons_option v (filter_map give es)) (none e is))
    ] refl

none_after : {A : Type 0} (give : Key × Row → Option A) (place : Option Key) (es : List (Key × Row)) → ((entry : Key × Row) → is_after place entry ≡ true → give entry ≡ None)
    → filter_map give (behind place es) ≡ []
none_after give place [] none = refl
none_after give place (e ∷ es) none =
    elim (is_after place e) as (λ b. is_after place e ≡ b → filter_map give (cond b (e ∷ behind place es) (behind place es)) ≡ []) [
      | true ↦ λ is. ap (λ (v : _). cons_option v (filter_map give (behind place es))) (none e is) ∙ none_after give place es none
      | false ↦ λ is. none_after give place es none
    ] refl

-- a walk may begin at a place where no entry up to it gives anything
pub left_begin : {A : Type 0} (give : Key × Row → Option A) (place : Option Key) (t : Tables) → ((entry : Key × Row) → is_after place entry ≡ false → give entry ≡ None)
    → left_of give place t ≡ filter_map give (map.entries t)
left_begin give place t none = none_before give place (map.entries t) none

-- and may end where none behind it does
pub left_past : {A : Type 0} (give : Key × Row → Option A) (place : Option Key) (t : Tables) → ((entry : Key × Row) → is_after place entry ≡ true → give entry ≡ None)
    → left_of give place t ≡ []
left_past give place t none = none_after give place (map.entries t) none

-- keys are ordered by kind first
pub kinds_rise : (a b : Key) → is_lt (key_cmp a b) ≡ true → kind_of a ≤ kind_of b
kinds_rise Site Site e = omega arith
kinds_rise (Subscriber a) (Subscriber b) e = omega arith
kinds_rise (AddOn a i) (AddOn b j) e = omega arith
kinds_rise (Modem a) (Modem b) e = omega arith
kinds_rise (Class a) (Class b) e = omega arith
kinds_rise (Pool a) (Pool b) e = omega arith
kinds_rise (Lease a) (Lease b) e = omega arith
kinds_rise (Held a) (Held b) e = omega arith
kinds_rise (Batch a) (Batch b) e = omega arith
kinds_rise (Hub a) (Hub b) e = omega arith
kinds_rise (PoolHub a) (PoolHub b) e = omega arith
kinds_rise (DevicePool a) (DevicePool b) e = omega arith
kinds_rise (Device a) (Device b) e = omega arith
kinds_rise _ _ e = first_of (omega arith, cc)

pub kinds_fall : (a b : Key) → is_lt (key_cmp a b) ≡ false → kind_of b ≤ kind_of a
kinds_fall Site Site e = omega arith
kinds_fall (Subscriber a) (Subscriber b) e = omega arith
kinds_fall (AddOn a i) (AddOn b j) e = omega arith
kinds_fall (Modem a) (Modem b) e = omega arith
kinds_fall (Class a) (Class b) e = omega arith
kinds_fall (Pool a) (Pool b) e = omega arith
kinds_fall (Lease a) (Lease b) e = omega arith
kinds_fall (Held a) (Held b) e = omega arith
kinds_fall (Batch a) (Batch b) e = omega arith
kinds_fall (Hub a) (Hub b) e = omega arith
kinds_fall (PoolHub a) (PoolHub b) e = omega arith
kinds_fall (DevicePool a) (DevicePool b) e = omega arith
kinds_fall (Device a) (Device b) e = omega arith
kinds_fall _ _ e = first_of (omega arith, cc)

-- what gives something at keys of one kind alone
pub record OnlyAt {A : Type 0} (kind : ℕ) (give : Key × Row → Option A) : Type 0 where
  pub others : (entry : Key × Row) → ¬ (kind_of entry.0 ≡ kind) → give entry ≡ None

pub kind_begins : {A : Type 0} {kind : ℕ} {give : Key × Row → Option A} → OnlyAt kind give → (place : Key) (t : Tables) → kind_of place < kind
    → left_of give (Some place) t ≡ filter_map give (map.entries t)
kind_begins {kind = kind} {give = give} only place t lower = left_begin give (Some place) t (λ entry after.
    let not_above = kinds_fall place entry.0 after in
    only.others entry (λ is. omega arith))

pub kind_past : {A : Type 0} {kind : ℕ} {give : Key × Row → Option A} → OnlyAt kind give → (place : Key) (t : Tables) → kind < kind_of place → left_of give (Some place) t ≡ []
kind_past {kind = kind} {give = give} only place t higher = left_past give (Some place) t (λ entry after.
    let not_below = kinds_rise place entry.0 after in
    only.others entry (λ is. omega arith))

-- at an entry of a higher kind the walk for a kind has ended
pub kind_ends : {A : Type 0} {kind : ℕ} {give : Key × Row → Option A} → OnlyAt kind give → (place : Option Key) (entry : Key × Row) (t : Tables) → kind < kind_of entry.0
    → Some entry ≡ next_entry place t → left_of give place t ≡ []
kind_ends {kind = kind} {give = give} only place entry t higher next =
    left_next give place entry t next
    ∙ ap (λ (v : _). cons_option v (left_of give (Some entry.0) t)) (only.others entry (λ is. omega arith))
    ∙ kind_past only entry.0 t higher
