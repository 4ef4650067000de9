-- The counts after a removal.
use Rattle.std.proofs.Common.{◌≡◌, ℕ, zero, suc, ◌+◌, ◌-◌, ◌<◌, ◌≤◌, Bool, true, false, cond, Option, Some, None, is_some, List, [], ◌∷◌, ◌++◌, map, count_by, refl, sym, ap, ◌∙◌, arith}
use Rattle.std.specs.List.{flat_map}
use Rattle.std.specs.Ordering.{eq_by_cmp}
use Rattle.off_base.specs.declared.addresses.Ip4.{Ip4}
use Rattle.off_base.specs.declared.macs.Mac.{Mac}
use Rattle.off_defs.specs.declared.keys.Key.{Key}
use Rattle.off_defs.specs.declared.keys.Key.TheVariants.{Subscriber, AddOn, Lease, Held, Device}
use Rattle.off_defs.specs.declared.tables.Lease.{Lease as LeaseRow}
use Rattle.off_defs.specs.declared.tables.DeviceLease.{DeviceLease}
use Rattle.off_defs.specs.declared.kinds.Kind.{Kind}
use Rattle.off_defs.specs.declared.kinds.Kind.TheVariants.{Subscribers, AddOns}
use Rattle.off_defs.specs.declared.writes.Write.{Write}
use Rattle.off_defs.specs.declared.writes.Write.TheVariants.{Drop}
use Rattle.off_defs.specs.Keys.{key_cmp}
use Rattle.off_defs.specs.State.{Tables}
use Rattle.off_defs.specs.Tables.{row_at, without, write_all}
use Rattle.off_defs.proofs.TableLemmas.{row_without, same_key}
use Rattle.off_account_rules.specs.declared.counts.Counts.{Counts}
use Rattle.off_account_rules.specs.Rows.{possible, seen_at, is_of_kind, counts_of}
use Rattle.off_account_rules.specs.Good.{owner_of}
use Rattle.off_account_rules.specs.Changes.{held_drop, add_on_keys}
use Rattle.off_orders.specs.Clerk.{no_row, lease_drops, device_drop}
use Rattle.off_table_laws.proofs.CountLemmas.{counts_without_other}
use Rattle.off_accounts.specs.Changes.{count_in, with_count, counts_drop}
use Rattle.off_accounts.proofs.CountsLemmas.{kept, counts_without}
use Rattle.off_accounts.proofs.PresentLemmas.{row_present}
use Rattle.std.proofs.lemmas.Bool.{false_from_ne_true}

-- the drop of a row that was there
pub drop_counts : (kind : Kind) (key : Key) (t : Tables) (counts after : Counts) → ((n : ℕ) → kept kind n ≡ n) → is_of_kind kind key ≡ true → no_row t key ≡ None → after ≡ counts_drop kind true counts
    → counts ≡ counts_of t → after ≡ counts_of (without t key)
drop_counts kind key t counts after whole is there after_is agree =
    after_is ∙ ap (counts_drop kind true) agree ∙ ap (λ b. counts_drop kind b (counts_of t)) (sym (row_present key t there)) ∙ sym (counts_without kind key t whole is)

held_counts : (owner : Option Mac) (t : Tables) (more : List Write) → ((u : Tables) → counts_of (write_all u more) ≡ counts_of u) → counts_of (write_all t (held_drop owner ++ more)) ≡ counts_of t
held_counts None t more rest = rest t
held_counts (Some mac) t more rest = rest (without t (Held mac)) ∙ counts_without_other (Held mac) t (λ kind. refl)

-- leases and the rows of who holds them aren't counted
pub lease_counts : (leases : List (Ip4 × LeaseRow)) (t : Tables) → counts_of (write_all t (flat_map lease_drops leases)) ≡ counts_of t
lease_counts [] t = refl
lease_counts (lease ∷ leases) t =
    held_counts (owner_of lease.1.hold) (without t (Lease lease.0)) (flat_map lease_drops leases) (lease_counts leases)
    ∙ counts_without_other (Lease lease.0) t (λ kind. refl)

pub device_counts : (leases : List (Ip4 × DeviceLease)) (t : Tables) → counts_of (write_all t (map device_drop leases)) ≡ counts_of t
device_counts [] t = refl
device_counts (lease ∷ leases) t = device_counts leases (without t (Device lease.0)) ∙ counts_without_other (Device lease.0) t (λ kind. refl)

-- the subscriber's add-ons of lesser numbers: how many have rows, their drops, and the tables without them
abbrev pub add_ons_below : Tables → ℕ → ℕ → ℕ
add_ons_below t n zero = 0
add_ons_below t n (suc number) = add_ons_below t n number + cond (is_some (seen_at t (AddOn n number))) 1 0

abbrev pub drops_below : ℕ → ℕ → List Write
drops_below n zero = Drop (Subscriber n) ∷ []
drops_below n (suc number) = drops_below n number ++ Drop (AddOn n number) ∷ []

abbrev pub dropped_below : Tables → ℕ → ℕ → Tables
dropped_below t n zero = t
dropped_below t n (suc number) = without (dropped_below t n number) (AddOn n number)

seen_without : (t : Tables) (key q : Key) → eq_by_cmp key_cmp q key ≡ false → seen_at (without t key) q ≡ seen_at t q
seen_without t key q apart = ap (possible q) (row_without t key q ∙ ap (λ b. cond b None (row_at t q)) apart)

add_on_number : Key → ℕ
add_on_number (AddOn n number) = number
add_on_number key = 0

apart : (n a b : ℕ) → b < a → eq_by_cmp key_cmp (AddOn n a) (AddOn n b) ≡ false
unfolding add_on_number
apart n a b less = false_from_ne_true (eq_by_cmp key_cmp (AddOn n a) (AddOn n b)) (λ tied.
    let same : a ≡ b = ap add_on_number (same_key (AddOn n a) (AddOn n b) tied) in
    omega (arith, same))

seen_later : (t : Tables) (n k number : ℕ) → k ≤ number → seen_at (dropped_below t n k) (AddOn n number) ≡ seen_at t (AddOn n number)
seen_later t n zero number low = refl
seen_later t n (suc k) number low = seen_without (dropped_below t n k) (AddOn n k) (AddOn n number) (apart n number k (omega (arith, low))) ∙ seen_later t n k number (omega (arith, low))

one_dropped : (there : Bool) (m : ℕ) (c : Counts) → counts_drop AddOns there (with_count AddOns (count_in AddOns c - m) c) ≡ with_count AddOns (count_in AddOns c - (m + cond there 1 0)) c
one_dropped true m c = let e : (c.addons - m) - 1 ≡ c.addons - (m + 1) = omega arith in ap (λ k. with_count AddOns k c) e
one_dropped false m c = let e : c.addons - m ≡ c.addons - (m + 0) = omega arith in ap (λ k. with_count AddOns k c) e

add_ons_dropped : (t : Tables) (n k : ℕ) → counts_of (dropped_below t n k) ≡ with_count AddOns (count_in AddOns (counts_of t) - add_ons_below t n k) (counts_of t)
add_ons_dropped t n zero = let e : (counts_of t).addons ≡ (counts_of t).addons - 0 = omega arith in ap (λ k. with_count AddOns k (counts_of t)) e
add_ons_dropped t n (suc k) =
    counts_without AddOns (AddOn n k) (dropped_below t n k) (λ m. refl) refl
    ∙ ap (λ o. counts_drop AddOns (is_some o) (counts_of (dropped_below t n k))) (seen_later t n k k (omega arith))
    ∙ ap (counts_drop AddOns (is_some (seen_at t (AddOn n k)))) (add_ons_dropped t n k)
    ∙ one_dropped (is_some (seen_at t (AddOn n k))) (add_ons_below t n k) (counts_of t)

same_add_ons : (t : Tables) (n k : ℕ) → add_ons_below (without t (Subscriber n)) n k ≡ add_ons_below t n k
same_add_ons t n zero = refl
same_add_ons t n (suc k) = λ i. same_add_ons t n k i + cond (is_some (seen_without t (Subscriber n) (AddOn n k) refl i)) 1 0

-- the drop of a subscriber that was there, and of its add-ons
pub subscriber_counts : (n lost : ℕ) (t : Tables) (counts less after : Counts) → no_row t (Subscriber n) ≡ None
    → lost ≡ count_by (λ key. is_some (seen_at t key)) (add_on_keys n)
    → less ≡ counts_drop Subscribers true counts → after ≡ with_count AddOns (count_in AddOns less - lost) less → counts ≡ counts_of t
    → after ≡ counts_of (write_all t (Drop (Subscriber n) ∷ map Drop (add_on_keys n)))
subscriber_counts n lost t counts less after there lost_is less_is after_is agree =
    let left = drop_counts Subscribers (Subscriber n) t counts less (λ m. refl) refl there less_is agree in
    let same : lost ≡ add_ons_below (without t (Subscriber n)) n 8 = lost_is ∙ sym (same_add_ons t n 8) in
    after_is ∙ (λ i. with_count AddOns (count_in AddOns (left i) - same i) (left i)) ∙ sym (add_ons_dropped (without t (Subscriber n)) n 8)
