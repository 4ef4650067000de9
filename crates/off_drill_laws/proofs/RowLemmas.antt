-- The rows of a drill's tables.
use Rattle.std.proofs.Common.{◌≡◌, ◌≢◌, ℕ, zero, suc, ◌+◌, ◌/◌, ◌%◌, ◌<◌, ◌≤◌, leb, Bool, true, false, cond, Option, Some, None, option_map, option_and_then, get_or, refl, sym, ap, subst, ◌∙◌, inl, inr, arith}
use Rattle.std.proofs.lemmas.Bool.{cases_eq, and_from, le-leb}
use Rattle.std.specs.FinMap as map
use Rattle.std.specs.List.{find}
use Rattle.std.specs.Ordering.{eq_by_cmp}
use Rattle.off_base.specs.declared.addresses.Ip4.{Ip4}
use Rattle.off_base.specs.declared.macs.Mac.{Mac}
use Rattle.off_tree.specs.Table.{table_of}
use Rattle.off_defs.specs.declared.keys.Key.{Key}
use Rattle.off_defs.specs.declared.keys.Key.TheVariants as key
use Rattle.off_defs.specs.declared.tables.Row.{Row}
use Rattle.off_defs.specs.declared.tables.Row.TheVariants as row
use Rattle.off_defs.specs.declared.tables.Pool.{Pool}
use Rattle.off_defs.specs.Keys.{key_cmp}
use Rattle.off_defs.specs.State.{Tables}
use Rattle.off_defs.specs.Tables.{row_at, with_row}
use Rattle.off_defs.proofs.TableLemmas.{same_key, same_tables, row_with, row_with_here}
use Rattle.off_dhcp.specs.Datagram.{Received}
use Rattle.off_account_rules.specs.Rows.{possible, class_is_good, as_site, as_subscriber, as_add_on, as_modem, as_class, as_lease, as_held, as_pool_hub, number_or_0, hub_in, pool_hub_in, hub_of, site_of, subscriber_in, add_on_in, modem_in, class_in, lease_in, held_in, pool_of, pools, has_address}
use Rattle.off_table_laws.proofs.ListLemmas.{In, some_found, in_made}
use Rattle.off_table_laws.proofs.EntryRows.{row_in}
use Rattle.off_table_laws.proofs.Reading.{pool_row}
use Rattle.off_asking.specs.Asking.{asks, claimed}
use Rattle.off_asking.specs.Choice.{serves}
use Rattle.off_lease_rules.specs.Free.{numbered_pool_for, pool_for, site_for}
use Rattle.off_lease_laws.proofs.ChoiceLemmas.{pool_read}
use Rattle.off_drill_rules.specs.Rows.{site, class, pool, subscriber, modem, mac, address, lease, founded, peopled, leased, drill_tables}
use Rattle.off_drill_laws.specs.Stages.{offered_lease}

-- ---- keys

pub with_away : (t : Tables) (k : Key) (new : Row) (q : Key) → (q ≡ k → ⊥) → row_at (with_row t k new) q ≡ row_at t q
with_away t k new q apart =
    row_with t k new q
    ∙ elim (eq_by_cmp key_cmp q k) as (λ b. eq_by_cmp key_cmp q k ≡ b → cond b (Some new) (row_at t q) ≡ row_at t q) [
      | true ↦ λ e. absurd (apart (same_key q k e))
      | false ↦ λ e. refl
    ] refl

pub mac_one : (a b : ℕ) → a < 65536 → b < 65536 → mac a ≡ mac b → a ≡ b
mac_one a b small few e =
    let low : a % 256 ≡ b % 256 = ap (λ (m : Mac). get_or m.0 5 0) e in
    let high : a / 256 % 256 ≡ b / 256 % 256 = ap (λ (m : Mac). get_or m.0 4 0) e in
    omega (arith, small, few, low, high)

macs_apart : (a b : ℕ) → a < 65536 → b < 65536 → a ≢ b → key.Modem (mac a) ≡ key.Modem (mac b) → ⊥
macs_apart a b small few apart e = let m : mac a ≡ mac b = cc in apart (mac_one a b small few m)

helds_apart : (a b : ℕ) → a < 65536 → b < 65536 → a ≢ b → key.Held (mac a) ≡ key.Held (mac b) → ⊥
helds_apart a b small few apart e = let m : mac a ≡ mac b = cc in apart (mac_one a b small few m)

address_one : (a b : ℕ) → address a ≡ address b → a ≡ b
address_one a b e = let n : 0x0a400fff + a ≡ 0x0a400fff + b = ap (λ (x : Ip4). x.0) e in omega (arith, n)

leases_apart : (a b : ℕ) → a ≢ b → key.Lease (address a) ≡ key.Lease (address b) → ⊥
leases_apart a b apart e = let m : address a ≡ address b = cc in apart (address_one a b m)

subscribers_apart : (a b : ℕ) → a ≢ b → key.Subscriber a ≡ key.Subscriber b → ⊥
subscribers_apart a b apart e = let m : a ≡ b = cc in apart m

-- ---- rows that leases and modems leave

module _ (q : Key) (no_lease : (a : Ip4) → eq_by_cmp key_cmp q (key.Lease a) ≡ false) (no_held : (m : Mac) → eq_by_cmp key_cmp q (key.Held m) ≡ false) where
  other_leased : (t : Tables) (k : ℕ) → row_at (leased t k) q ≡ row_at t q
  other_leased t zero = refl
  other_leased t (suc k) =
      row_with _ (key.Held (mac (suc k))) (row.Held (address (suc k))) q
      ∙ ap (λ b. cond b (Some (row.Held (address (suc k)))) (row_at (with_row (leased t k) (key.Lease (address (suc k))) (row.Lease (lease (suc k)))) q)) (no_held (mac (suc k)))
      ∙ row_with (leased t k) (key.Lease (address (suc k))) (row.Lease (lease (suc k))) q
      ∙ ap (λ b. cond b (Some (row.Lease (lease (suc k)))) (row_at (leased t k) q)) (no_lease (address (suc k)))
      ∙ other_leased t k

module _ (q : Key) (no_subscriber : (n : ℕ) → eq_by_cmp key_cmp q (key.Subscriber n) ≡ false) (no_modem : (m : Mac) → eq_by_cmp key_cmp q (key.Modem m) ≡ false) where
  other_peopled : (n : ℕ) → row_at (peopled n) q ≡ row_at founded q
  other_peopled zero = refl
  other_peopled (suc k) =
      row_with _ (key.Modem (mac (suc k))) (row.Modem (modem (suc k))) q
      ∙ ap (λ b. cond b (Some (row.Modem (modem (suc k)))) (row_at (with_row (peopled k) (key.Subscriber (suc k)) (row.Subscriber (subscriber (suc k)))) q)) (no_modem (mac (suc k)))
      ∙ row_with (peopled k) (key.Subscriber (suc k)) (row.Subscriber (subscriber (suc k))) q
      ∙ ap (λ b. cond b (Some (row.Subscriber (subscriber (suc k)))) (row_at (peopled k) q)) (no_subscriber (suc k))
      ∙ other_peopled k

-- ---- modems and subscribers

modem_there : (n i : ℕ) → n < 65536 → 1 ≤ i → i ≤ n → row_at (peopled n) (key.Modem (mac i)) ≡ Some (row.Modem (modem i))
modem_there zero i few first within = absurd (omega (arith, first, within))
modem_there (suc k) i few first within =
    elim (cases_eq i (suc k)) as (λ c. row_at (peopled (suc k)) (key.Modem (mac i)) ≡ Some (row.Modem (modem i))) [
      | inl same ↦ subst (λ (j : ℕ). row_at (peopled (suc k)) (key.Modem (mac j)) ≡ Some (row.Modem (modem j))) (sym same)
          (row_with_here (with_row (peopled k) (key.Subscriber (suc k)) (row.Subscriber (subscriber (suc k)))) (key.Modem (mac (suc k))) (row.Modem (modem (suc k))))
      | inr other ↦
          with_away (with_row (peopled k) (key.Subscriber (suc k)) (row.Subscriber (subscriber (suc k)))) (key.Modem (mac (suc k))) (row.Modem (modem (suc k))) (key.Modem (mac i))
          (macs_apart i (suc k) (omega (arith, few, within)) few other)
          ∙ row_with (peopled k) (key.Subscriber (suc k)) (row.Subscriber (subscriber (suc k))) (key.Modem (mac i))
          ∙ modem_there k i (omega (arith, few)) first (below i k within other)
    ]
  where
    below : (i k : ℕ) → i ≤ suc k → i ≢ suc k → i ≤ k
    below i k within other = omega (arith, within, other)

subscriber_there : (n i : ℕ) → 1 ≤ i → i ≤ n → row_at (peopled n) (key.Subscriber i) ≡ Some (row.Subscriber (subscriber i))
subscriber_there zero i first within = absurd (omega (arith, first, within))
subscriber_there (suc k) i first within =
    row_with (with_row (peopled k) (key.Subscriber (suc k)) (row.Subscriber (subscriber (suc k)))) (key.Modem (mac (suc k))) (row.Modem (modem (suc k))) (key.Subscriber i)
    ∙ elim (cases_eq i (suc k)) as (λ c. row_at (with_row (peopled k) (key.Subscriber (suc k)) (row.Subscriber (subscriber (suc k)))) (key.Subscriber i) ≡ Some (row.Subscriber (subscriber i))) [
      | inl same ↦ subst (λ (j : ℕ). row_at (with_row (peopled k) (key.Subscriber (suc k)) (row.Subscriber (subscriber (suc k)))) (key.Subscriber j) ≡ Some (row.Subscriber (subscriber j))) (sym same)
          (row_with_here (peopled k) (key.Subscriber (suc k)) (row.Subscriber (subscriber (suc k))))
      | inr other ↦
          with_away (peopled k) (key.Subscriber (suc k)) (row.Subscriber (subscriber (suc k))) (key.Subscriber i) (subscribers_apart i (suc k) other)
          ∙ subscriber_there k i first (omega (arith, within, other))
    ]

-- ---- leases, and who holds an address

pub no_lease_row : (t : Tables) (k j : ℕ) → k < j → row_at (leased t k) (key.Lease (address j)) ≡ row_at t (key.Lease (address j))
no_lease_row t zero j beyond = refl
no_lease_row t (suc k) j beyond =
    row_with (with_row (leased t k) (key.Lease (address (suc k))) (row.Lease (lease (suc k)))) (key.Held (mac (suc k))) (row.Held (address (suc k))) (key.Lease (address j))
    ∙ with_away (leased t k) (key.Lease (address (suc k))) (row.Lease (lease (suc k))) (key.Lease (address j)) (leases_apart j (suc k) (omega (arith, beyond)))
    ∙ no_lease_row t k j (omega (arith, beyond))

no_held_row : (t : Tables) (k j : ℕ) → k < j → j < 65536 → row_at (leased t k) (key.Held (mac j)) ≡ row_at t (key.Held (mac j))
no_held_row t zero j beyond few = refl
no_held_row t (suc k) j beyond few =
    with_away (with_row (leased t k) (key.Lease (address (suc k))) (row.Lease (lease (suc k)))) (key.Held (mac (suc k))) (row.Held (address (suc k))) (key.Held (mac j))
    (helds_apart j (suc k) few (omega (arith, beyond, few)) (omega (arith, beyond)))
    ∙ row_with (leased t k) (key.Lease (address (suc k))) (row.Lease (lease (suc k))) (key.Held (mac j))
    ∙ no_held_row t k j (omega (arith, beyond)) few

lease_there : (t : Tables) (k j : ℕ) → 1 ≤ j → j ≤ k → row_at (leased t k) (key.Lease (address j)) ≡ Some (row.Lease (lease j))
lease_there t zero j first within = absurd (omega (arith, first, within))
lease_there t (suc k) j first within =
    row_with (with_row (leased t k) (key.Lease (address (suc k))) (row.Lease (lease (suc k)))) (key.Held (mac (suc k))) (row.Held (address (suc k))) (key.Lease (address j))
    ∙ elim (cases_eq j (suc k)) as (λ c. row_at (with_row (leased t k) (key.Lease (address (suc k))) (row.Lease (lease (suc k)))) (key.Lease (address j)) ≡ Some (row.Lease (lease j))) [
      | inl same ↦ subst (λ (i : ℕ). row_at (with_row (leased t k) (key.Lease (address (suc k))) (row.Lease (lease (suc k)))) (key.Lease (address i)) ≡ Some (row.Lease (lease i))) (sym same)
          (row_with_here (leased t k) (key.Lease (address (suc k))) (row.Lease (lease (suc k))))
      | inr other ↦
          with_away (leased t k) (key.Lease (address (suc k))) (row.Lease (lease (suc k))) (key.Lease (address j)) (leases_apart j (suc k) other)
          ∙ lease_there t k j first (omega (arith, within, other))
    ]

-- ---- the rows that stand for a modem, whatever leases there are

pub record HasRows (t : Tables) (i : ℕ) : Type 0 where
  pub hub_row : row_at t (key.Hub 0) ≡ Some (row.Site site)
  pub class_row : row_at t (key.Class 1) ≡ Some (row.Class class)
  pub no_pool_hub : (m : ℕ) → row_at t (key.PoolHub m) ≡ None
  pub pool_rows : (m : ℕ) → row_at t (key.Pool m) ≡ cond (eq_by_cmp key_cmp (key.Pool m) (key.Pool 1)) (Some (row.Pool pool)) None
  pub no_add_on : (k : ℕ) → row_at t (key.AddOn i k) ≡ None
  pub modem_row : row_at t (key.Modem (mac i)) ≡ Some (row.Modem (modem i))
  pub subscriber_row : row_at t (key.Subscriber i) ≡ Some (row.Subscriber (subscriber i))

pub with_lease : (t : Tables) (i : ℕ) (a : Ip4) (new : Row) → HasRows t i → HasRows (with_row t (key.Lease a) new) i
with_lease t i a new h = record {
  hub_row = row_with t (key.Lease a) new (key.Hub 0) ∙ h.hub_row;
  class_row = row_with t (key.Lease a) new (key.Class 1) ∙ h.class_row;
  no_pool_hub = λ m. row_with t (key.Lease a) new (key.PoolHub m) ∙ h.no_pool_hub m;
  pool_rows = λ m. row_with t (key.Lease a) new (key.Pool m) ∙ h.pool_rows m;
  no_add_on = λ k. row_with t (key.Lease a) new (key.AddOn i k) ∙ h.no_add_on k;
  modem_row = row_with t (key.Lease a) new (key.Modem (mac i)) ∙ h.modem_row;
  subscriber_row = row_with t (key.Lease a) new (key.Subscriber i) ∙ h.subscriber_row;
}

pub with_held : (t : Tables) (i : ℕ) (m : Mac) (new : Row) → HasRows t i → HasRows (with_row t (key.Held m) new) i
with_held t i m new h = record {
  hub_row = row_with t (key.Held m) new (key.Hub 0) ∙ h.hub_row;
  class_row = row_with t (key.Held m) new (key.Class 1) ∙ h.class_row;
  no_pool_hub = λ n. row_with t (key.Held m) new (key.PoolHub n) ∙ h.no_pool_hub n;
  pool_rows = λ n. row_with t (key.Held m) new (key.Pool n) ∙ h.pool_rows n;
  no_add_on = λ k. row_with t (key.Held m) new (key.AddOn i k) ∙ h.no_add_on k;
  modem_row = row_with t (key.Held m) new (key.Modem (mac i)) ∙ h.modem_row;
  subscriber_row = row_with t (key.Held m) new (key.Subscriber i) ∙ h.subscriber_row;
}

founded_hub : row_at founded (key.Hub 0) ≡ Some (row.Site site)
founded_hub =
    row_with (with_row (with_row map.empty (key.Hub 0) (row.Site site)) (key.Class 1) (row.Class class)) (key.Pool 1) (row.Pool pool) (key.Hub 0)
    ∙ row_with (with_row map.empty (key.Hub 0) (row.Site site)) (key.Class 1) (row.Class class) (key.Hub 0)
    ∙ row_with_here map.empty (key.Hub 0) (row.Site site)

founded_class : row_at founded (key.Class 1) ≡ Some (row.Class class)
founded_class =
    row_with (with_row (with_row map.empty (key.Hub 0) (row.Site site)) (key.Class 1) (row.Class class)) (key.Pool 1) (row.Pool pool) (key.Class 1)
    ∙ row_with_here (with_row map.empty (key.Hub 0) (row.Site site)) (key.Class 1) (row.Class class)

-- a key of another kind has no row
module _ (q : Key) (no_hub : eq_by_cmp key_cmp q (key.Hub 0) ≡ false) (no_class : eq_by_cmp key_cmp q (key.Class 1) ≡ false) where
  founded_other : row_at founded q ≡ cond (eq_by_cmp key_cmp q (key.Pool 1)) (Some (row.Pool pool)) None
  founded_other =
      row_with (with_row (with_row map.empty (key.Hub 0) (row.Site site)) (key.Class 1) (row.Class class)) (key.Pool 1) (row.Pool pool) q
      ∙ ap (λ o. cond (eq_by_cmp key_cmp q (key.Pool 1)) (Some (row.Pool pool)) o)
      (row_with (with_row map.empty (key.Hub 0) (row.Site site)) (key.Class 1) (row.Class class) q
      ∙ ap (λ b. cond b (Some (row.Class class)) (row_at (with_row map.empty (key.Hub 0) (row.Site site)) q)) no_class
      ∙ row_with map.empty (key.Hub 0) (row.Site site) q
      ∙ ap (λ b. cond b (Some (row.Site site)) (row_at map.empty q)) no_hub
      ∙ map.get-empty key_cmp q)

leased_rows : (t : Tables) (k i : ℕ) → HasRows t i → HasRows (leased t k) i
leased_rows t zero i h = h
leased_rows t (suc k) i h =
    with_held (with_row (leased t k) (key.Lease (address (suc k))) (row.Lease (lease (suc k)))) i (mac (suc k)) (row.Held (address (suc k)))
    (with_lease (leased t k) i (address (suc k)) (row.Lease (lease (suc k))) (leased_rows t k i h))

peopled_rows : (n i : ℕ) → n < 65536 → 1 ≤ i → i ≤ n → HasRows (peopled n) i
peopled_rows n i few first within = record {
  hub_row = other_peopled (key.Hub 0) (λ _. refl) (λ _. refl) n ∙ founded_hub;
  class_row = other_peopled (key.Class 1) (λ _. refl) (λ _. refl) n ∙ founded_class;
  no_pool_hub = λ m. other_peopled (key.PoolHub m) (λ _. refl) (λ _. refl) n ∙ founded_other (key.PoolHub m) refl refl;
  pool_rows = λ m. other_peopled (key.Pool m) (λ _. refl) (λ _. refl) n ∙ founded_other (key.Pool m) refl refl;
  no_add_on = λ k. other_peopled (key.AddOn i k) (λ _. refl) (λ _. refl) n ∙ founded_other (key.AddOn i k) refl refl;
  modem_row = modem_there n i few first within;
  subscriber_row = subscriber_there n i first within;
}

pub drill_rows : (n k i : ℕ) → n ≤ 4000 → 1 ≤ i → i ≤ n → HasRows (drill_tables n k) i
unfolding drill_tables
drill_rows n k i few first within = leased_rows (peopled n) k i (peopled_rows n i (omega (arith, few)) first within)

-- ---- the leases of a drill

bare_lease : (n : ℕ) (a : Ip4) → row_at (peopled n) (key.Lease a) ≡ None
bare_lease n a = other_peopled (key.Lease a) (λ _. refl) (λ _. refl) n ∙ founded_other (key.Lease a) refl refl

bare_held : (n : ℕ) (m : Mac) → row_at (peopled n) (key.Held m) ≡ None
bare_held n m = other_peopled (key.Held m) (λ _. refl) (λ _. refl) n ∙ founded_other (key.Held m) refl refl

pub lease_beyond : (n k j : ℕ) → k < j → row_at (drill_tables n k) (key.Lease (address j)) ≡ None
unfolding drill_tables
lease_beyond n k j beyond = no_lease_row (peopled n) k j beyond ∙ bare_lease n (address j)

pub held_beyond : (n k j : ℕ) → k < j → j ≤ 4000 → row_at (drill_tables n k) (key.Held (mac j)) ≡ None
unfolding drill_tables
held_beyond n k j beyond few = no_held_row (peopled n) k j beyond (omega (arith, few)) ∙ bare_held n (mac j)

pub lease_within : (n k j : ℕ) → 1 ≤ j → j ≤ k → row_at (drill_tables n k) (key.Lease (address j)) ≡ Some (row.Lease (lease j))
unfolding drill_tables
lease_within n k j first within = lease_there (peopled n) k j first within

-- an offer that was acknowledged is a lease
swapped : (one two : Bool) (a b : Row) (o : Option Row) (c : Row) → (one ≡ true → two ≡ true → ⊥)
    → cond one (Some a) (cond two (Some b) (cond one (Some c) o)) ≡ cond two (Some b) (cond one (Some a) o)
swapped true true a b o c never = absurd (never refl refl)
swapped true false a b o c never = refl
swapped false true a b o c never = refl
swapped false false a b o c never = refl

module _ (t : Tables) (a : Ip4) (m : Mac) (new old held : Row) where
  both : (q : Key) → eq_by_cmp key_cmp q (key.Lease a) ≡ true → eq_by_cmp key_cmp q (key.Held m) ≡ true → ⊥
  both q one two = let e : key.Lease a ≡ key.Held m = sym (same_key q (key.Lease a) one) ∙ same_key q (key.Held m) two in cc

  again : (q : Key) → row_at (with_row (with_row (with_row t (key.Lease a) old) (key.Held m) held) (key.Lease a) new) q
      ≡ row_at (with_row (with_row t (key.Lease a) new) (key.Held m) held) q
  again q =
      row_with (with_row (with_row t (key.Lease a) old) (key.Held m) held) (key.Lease a) new q
      ∙ ap (λ o. cond (eq_by_cmp key_cmp q (key.Lease a)) (Some new) o)
      (row_with (with_row t (key.Lease a) old) (key.Held m) held q
      ∙ ap (λ o. cond (eq_by_cmp key_cmp q (key.Held m)) (Some held) o) (row_with t (key.Lease a) old q))
      ∙ swapped (eq_by_cmp key_cmp q (key.Lease a)) (eq_by_cmp key_cmp q (key.Held m)) new held (row_at t q) old (both q)
      ∙ sym (row_with (with_row t (key.Lease a) new) (key.Held m) held q
      ∙ ap (λ o. cond (eq_by_cmp key_cmp q (key.Held m)) (Some held) o) (row_with t (key.Lease a) new q))

  pub put_again : with_row (with_row (with_row t (key.Lease a) old) (key.Held m) held) (key.Lease a) new ≡ with_row (with_row t (key.Lease a) new) (key.Held m) held
  put_again =
      same_tables (with_row (with_row (with_row t (key.Lease a) old) (key.Held m) held) (key.Lease a) new) (with_row (with_row t (key.Lease a) new) (key.Held m) held) again

pub one_more : (n k : ℕ)
    → with_row (with_row (with_row (drill_tables n k) (key.Lease (address (suc k))) (row.Lease (offered_lease (suc k)))) (key.Held (mac (suc k))) (row.Held (address (suc k))))
    (key.Lease (address (suc k))) (row.Lease (lease (suc k)))
    ≡ drill_tables n (suc k)
unfolding drill_tables
one_more n k = put_again (drill_tables n k) (address (suc k)) (mac (suc k)) (row.Lease (lease (suc k))) (row.Lease (offered_lease (suc k))) (row.Held (address (suc k)))

-- each address lies in the pool
pub address_within : (i : ℕ) → 1 ≤ i → i ≤ 4000 → has_address pool (address i) ≡ true
address_within i first few =
    and_from (leb 0x0a401000 (0x0a400fff + i)) (leb (0x0a400fff + i) 0x0a401fff)
    (le-leb 0x0a401000 (0x0a400fff + i) (omega (arith, first))) (le-leb (0x0a400fff + i) 0x0a401fff (omega (arith, few)))

-- ---- what is read of the rows

module _ (t : Tables) (i : ℕ) (h : HasRows t i) where
  hub_read : hub_in t 0 ≡ Some site
  hub_read = ap (λ o. option_and_then as_site (possible (key.Hub 0) o)) h.hub_row

  -- the site of each pool's hub: no pool names one
  pool_hub_read : (n : ℕ) → pool_hub_in t n ≡ 0
  pool_hub_read n = ap (λ o. number_or_0 (option_and_then as_pool_hub (possible (key.PoolHub n) o))) (h.no_pool_hub n)

  pub pool_site : (n : ℕ) → hub_in t (pool_hub_in t n) ≡ Some site
  pool_site n = ap (hub_in t) (pool_hub_read n) ∙ hub_read

  pub modem_read : modem_in t (mac i) ≡ Some (modem i)
  modem_read = ap (λ o. option_and_then as_modem (possible (key.Modem (mac i)) o)) h.modem_row

  pub subscriber_read : subscriber_in t i ≡ Some (subscriber i)
  subscriber_read = ap (λ o. option_and_then as_subscriber (possible (key.Subscriber i) o)) h.subscriber_row

  pub add_on_read : (k : ℕ) → add_on_in t i k ≡ None
  add_on_read k = ap (λ o. option_and_then as_add_on (possible (key.AddOn i k) o)) (h.no_add_on k)

  pub class_read : class_in t 1 ≡ Some class
  unfolding class_is_good table_of
  class_read = ap (λ o. option_and_then as_class (possible (key.Class 1) o)) h.class_row

  pool_there : In (1, pool) (pools t)
  pool_there = in_made pool_of (map.entries t) (key.Pool 1, row.Pool pool) (1, pool) (row_in t (key.Pool 1) (row.Pool pool) (h.pool_rows 1)) refl

  only_row : (m : ℕ) (other : Pool) (b : Bool) → eq_by_cmp key_cmp (key.Pool m) (key.Pool 1) ≡ b → cond b (Some (row.Pool pool)) None ≡ Some (row.Pool other)
      → other ≡ pool
  only_row m other true e is = let same : row.Pool pool ≡ row.Pool other = cc in let p : pool ≡ other = cc in sym p
  only_row m other false e is = cc

  only_pool : (entry : ℕ × Pool) → In entry (pools t) → entry.1 ≡ pool
  only_pool entry i =
      only_row entry.0 entry.1 (eq_by_cmp key_cmp (key.Pool entry.0) (key.Pool 1)) refl
      (sym (h.pool_rows entry.0) ∙ pool_row t entry.0 entry.1 (pool_read t entry.0 entry.1 i))

  -- what is found that the pool passes is the pool, with the hub's site
  found_pool : (test : ℕ × Pool → Bool) → test (1, pool) ≡ true → option_map (λ (entry : ℕ × Pool). entry.1) (find test (pools t)) ≡ Some pool
  found_pool test passes =
      let f = some_found test (pools t) (1, pool) pool_there passes in
      ap (option_map (λ (entry : ℕ × Pool). entry.1)) f.1 ∙ ap Some (only_pool f.0 f.2)

  found_site : (test : ℕ × Pool → Bool) → test (1, pool) ≡ true
      → option_and_then (hub_in t) (option_map (λ (entry : ℕ × Pool). pool_hub_in t entry.0) (find test (pools t))) ≡ Some site
  found_site test passes =
      let f = some_found test (pools t) (1, pool) pool_there passes in
      ap (λ (o : Option (ℕ × Pool)). option_and_then (hub_in t) (option_map (λ (entry : ℕ × Pool). pool_hub_in t entry.0) o)) f.1 ∙ pool_site (f.0).0

  pub pool_read_for : (m : Received) → serves m pool ≡ true → pool_for t m ≡ Some pool
  pool_read_for m fits = found_pool (λ (entry : ℕ × Pool). serves m entry.1) fits

  pub site_read_for : (m : Received) → asks m ≡ true → serves m pool ≡ true → site_for t m ≡ Some site
  site_read_for m asking fits =
      ap (λ b. option_and_then (hub_in t) (cond b (option_map (λ (entry : ℕ × Pool). pool_hub_in t entry.0) (numbered_pool_for t m)) (option_and_then (hub_of t) (claimed m)))) asking
      ∙ found_site (λ (entry : ℕ × Pool). serves m entry.1) fits

  pub site_read_at : (a : Ip4) → has_address pool a ≡ true → site_of t a ≡ Some site
  site_read_at a within = found_site (λ (entry : ℕ × Pool). has_address entry.1 a) within

pub lease_read : (t : Tables) (a : Ip4) → row_at t (key.Lease a) ≡ None → lease_in t a ≡ None
lease_read t a e = ap (λ o. option_and_then as_lease (possible (key.Lease a) o)) e

pub held_read : (t : Tables) (m : Mac) → row_at t (key.Held m) ≡ None → held_in t m ≡ None
held_read t m e = ap (λ o. option_and_then as_held (possible (key.Held m) o)) e
