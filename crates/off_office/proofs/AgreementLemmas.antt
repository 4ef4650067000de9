-- What is remembered of agreement stays right behind writes, without what they may have ended.
use Rattle.std.proofs.Common.{◌≡◌, ℕ, zero, suc, ◌||◌, Bool, true, false, cond, List, [], ◌∷◌, get_or, Option, Some, None, option_map, option_and_then, refl, sym, ap, ◌∙◌, arith}
use Rattle.std.proofs.Math.ListN.{set}
use Rattle.std.specs.List.{find}
use Rattle.std.specs.Ordering.{eq_by_cmp}
use Rattle.off_base.specs.declared.addresses.Ip4.{Ip4}
use Rattle.off_base.specs.declared.macs.Mac.{Mac}
use Rattle.off_defs.specs.declared.keys.Key.{Key}
use Rattle.off_defs.specs.declared.keys.Key.TheVariants as key
use Rattle.off_defs.specs.declared.tables.Row.{Row}
use Rattle.off_defs.specs.declared.tables.Site.{Site}
use Rattle.off_defs.specs.declared.tables.Pool.{Pool}
use Rattle.off_defs.specs.declared.tables.Modem.{Modem}
use Rattle.off_defs.specs.declared.tables.Lease.{Lease}
use Rattle.off_defs.specs.declared.writes.Write.{Write}
use Rattle.off_defs.specs.declared.writes.Write.TheVariants.{Put, Drop}
use Rattle.off_defs.specs.Keys.{key_cmp}
use Rattle.off_defs.specs.State.{Tables}
use Rattle.off_defs.specs.Tables.{row_at, written, write_all}
use Rattle.off_defs.proofs.TableLemmas.{same_key, row_with, row_without}
use Rattle.off_account_rules.specs.Rows.{possible, as_site, as_modem, as_lease, as_pool_hub, number_or_0, pool_of, pools, has_address, hub_in, pool_hub_in, hub_of, site_of, modem_in, lease_in}
use Rattle.off_table_laws.proofs.MadeLemmas.{made_with, made_without}
use Rattle.off_defs.specs.Tables.{key_written}
use Rattle.off_transfer_rules.specs.Requests.{file_owner}
use Rattle.off_transfer_rules.specs.View.{View, view, owner_by, agrees}
use Rattle.off_tftp.specs.declared.agreements.Agreement.{Agreement}
use Rattle.off_tftp.specs.Agreements.{Slots, none_remembered, slot_of, StandsRight, AllAgreed, touches_all, touch_all, without_row, without_rows, without_touched}
use Rattle.off_tftp.proofs.AgreementLemmas.{none_agreed}

-- ---- rows that aren't written stay

row_left : (t : Tables) (write : Write) (q : Key) → eq_by_cmp key_cmp q (key_written write) ≡ false → row_at (written t write) q ≡ row_at t q
row_left t (Put k row) q other = row_with t k row q ∙ ap (λ (b : Bool). cond b (Some row) (row_at t q)) other
row_left t (Drop k) q other = row_without t k q ∙ ap (λ (b : Bool). cond b None (row_at t q)) other

-- a key for which a test holds isn't one for which it doesn't
apart_by : (test : Key → Bool) (q k : Key) → test q ≡ true → test k ≡ false → (b : Bool) → eq_by_cmp key_cmp q k ≡ b → b ≡ false
apart_by test q k here there true same = sym here ∙ ap test (same_key q k same) ∙ there
apart_by test q k here there false same = refl

row_behind : (t : Tables) (write : Write) (test : Key → Bool) (q : Key) → test q ≡ true → test (key_written write) ≡ false → row_at (written t write) q ≡ row_at t q
row_behind t write test q here there = row_left t write q (apart_by test q (key_written write) here there (eq_by_cmp key_cmp q (key_written write)) refl)

-- the pools stay where no row of a pool is written
made_behind : (t : Tables) (write : Write) → ((held : Row) → pool_of (key_written write, held) ≡ None) → pools (written t write) ≡ pools t
made_behind t (Put k row) none = made_with pool_of k none t row
made_behind t (Drop k) none = made_without pool_of k none t

no_pool : (k : Key) → touches_all k ≡ false → (held : Row) → pool_of (k, held) ≡ None
no_pool (key.Pool n) other held = cc
no_pool key.Site other held = refl
no_pool (key.Subscriber n) other held = refl
no_pool (key.AddOn n m) other held = refl
no_pool (key.Modem mac) other held = refl
no_pool (key.Class n) other held = refl
no_pool (key.Lease ip) other held = refl
no_pool (key.Held mac) other held = refl
no_pool (key.Batch n) other held = refl
no_pool (key.Hub n) other held = refl
no_pool (key.PoolHub n) other held = refl
no_pool (key.DevicePool n) other held = refl
no_pool (key.Device ip) other held = refl

-- what there is for an address, but for the profile
abbrev seen_by : Option Site → Option Lease → Option Modem → View
seen_by site lease modem = record { site = site; lease = lease; modem = modem; profile = None }

module _ (t : Tables) (write : Write) (other : touches_all (key_written write) ≡ false) where
  hub_stays : (n : ℕ) → hub_in (written t write) n ≡ hub_in t n
  hub_stays n = ap (λ (o : Option Row). option_and_then as_site (possible (key.Hub n) o)) (row_behind t write touches_all (key.Hub n) refl other)

  pool_hub_stays : (n : ℕ) → pool_hub_in (written t write) n ≡ pool_hub_in t n
  pool_hub_stays n = ap (λ (o : Option Row). number_or_0 (option_and_then as_pool_hub (possible (key.PoolHub n) o))) (row_behind t write touches_all (key.PoolHub n) refl other)

  modem_stays : (mac : Mac) → modem_in (written t write) mac ≡ modem_in t mac
  modem_stays mac = ap (λ (o : Option Row). option_and_then as_modem (possible (key.Modem mac) o)) (row_behind t write touches_all (key.Modem mac) refl other)

  hub_of_stays : (ip : Ip4) → hub_of (written t write) ip ≡ hub_of t ip
  hub_of_stays ip =
      ap (λ (f : ℕ → ℕ). option_map (λ (e : ℕ × Pool). f e.0) (find (λ (e : ℕ × Pool). has_address e.1 ip) (pools (written t write)))) (let same : (λ (n : ℕ). pool_hub_in (written t write) n) ≡ (λ (n : ℕ). pool_hub_in t n) = λ i n. pool_hub_stays n i in same)
      ∙ ap (λ (ps : List (ℕ × Pool)). option_map (λ (e : ℕ × Pool). pool_hub_in t e.0) (find (λ (e : ℕ × Pool). has_address e.1 ip) ps)) (made_behind t write (no_pool (key_written write) other))

  site_stays : (ip : Ip4) → site_of (written t write) ip ≡ site_of t ip
  site_stays ip =
      ap (λ (f : ℕ → Option Site). option_and_then f (hub_of (written t write) ip)) (let same : (λ (n : ℕ). hub_in (written t write) n) ≡ (λ (n : ℕ). hub_in t n) = λ i n. hub_stays n i in same)
      ∙ ap (option_and_then (hub_in t)) (hub_of_stays ip)

  -- where its lease stays it agrees as before
  agrees_stay : (ip : Ip4) → lease_in (written t write) ip ≡ lease_in t ip → (now : ℕ) (name : List ℕ) (mac : Mac) (subscriber : ℕ)
      → agrees (view (written t write) ip) now ip name (file_owner mac subscriber) ≡ agrees (view t ip) now ip name (file_owner mac subscriber)
  unfolding view
  agrees_stay ip leased now name mac subscriber =
      ap (λ (site : Option Site). agrees (seen_by site (lease_in (written t write) ip) (option_and_then (modem_in (written t write)) (owner_by (lease_in (written t write) ip)))) now ip name (file_owner mac subscriber)) (site_stays ip)
      ∙ ap (λ (f : Mac → Option Modem). agrees (seen_by (site_of t ip) (lease_in (written t write) ip) (option_and_then f (owner_by (lease_in (written t write) ip)))) now ip name (file_owner mac subscriber))
      (let same : (λ (m : Mac). modem_in (written t write) m) ≡ (λ (m : Mac). modem_in t m) = λ i m. modem_stays m i in same)
      ∙ ap (λ (lease : Option Lease). agrees (seen_by (site_of t ip) lease (option_and_then (modem_in t) (owner_by lease))) now ip name (file_owner mac subscriber)) leased

-- ---- one write

abbrev is_lease : Key → Bool
is_lease (key.Lease ip) = true
is_lease other = false

leased_by : (t u : Tables) (ip : Ip4) → row_at u (key.Lease ip) ≡ row_at t (key.Lease ip) → lease_in u ip ≡ lease_in t ip
leased_by t u ip same = ap (λ (o : Option Row). option_and_then as_lease (possible (key.Lease ip) o)) same

-- what still stands in a list in which a place was emptied stood at another place
set_apart : {X : Type 0} (xs : List (Option X)) (i k : ℕ) (y : X) → get_or (set xs i None) k None ≡ Some y → (get_or xs k None ≡ Some y) × (i ≡ k → ⊥)
set_apart [] i k y is = cc
set_apart (x ∷ xs) zero zero y is = cc
set_apart (x ∷ xs) zero (suc k) y is = (is, λ e. omega (arith, e))
set_apart (x ∷ xs) (suc i) zero y is = (is, λ e. omega (arith, e))
set_apart (x ∷ xs) (suc i) (suc k) y is = let rest = set_apart xs i k y is in (rest.0, λ e. rest.1 (omega (arith, e)))

-- another address's lease
other_lease : (ip written : Ip4) → (slot_of written ≡ slot_of ip → ⊥) → (b : Bool) → eq_by_cmp key_cmp (key.Lease ip) (key.Lease written) ≡ b → b ≡ false
other_lease ip written apart true same =
    let keys : key.Lease ip ≡ key.Lease written = same_key (key.Lease ip) (key.Lease written) same in
    let ips : ip ≡ written = cc in
    absurd (apart (ap slot_of (sym ips)))
other_lease ip written apart false same = refl

module _ (t : Tables) (write : Write) (slots : Slots) (other : touches_all (key_written write) ≡ false) (agreed : AllAgreed t slots) where
  stands_one : (slot : ℕ) (a : Agreement) → StandsRight t slot a → row_at (written t write) (key.Lease a.ip) ≡ row_at t (key.Lease a.ip) → StandsRight (written t write) slot a
  stands_one slot a right same = record {
    place = right.place;
    agrees = λ now before. agrees_stay t write other a.ip (leased_by t (written t write) a.ip same) now a.name a.modem a.subscriber ∙ right.agrees now before;
  }

  by_key : (k : Key) → key_written write ≡ k → AllAgreed (written t write) (without_row k slots)
  by_key (key.Lease ip) is = λ slot a there.
      let both = set_apart slots (slot_of ip) slot a there in
      let right = agreed slot a both.0 in
      stands_one slot a right
      (row_left t write (key.Lease a.ip)
      (ap (eq_by_cmp key_cmp (key.Lease a.ip)) is ∙ other_lease a.ip ip (λ same. both.1 (same ∙ right.place)) (eq_by_cmp key_cmp (key.Lease a.ip) (key.Lease ip)) refl))
  by_key k is = λ slot a there. stands_one slot a (agreed slot a there) (row_behind t write is_lease (key.Lease a.ip) refl (ap is_lease is))

  stay_one : AllAgreed (written t write) (without_row (key_written write) slots)
  stay_one = by_key (key_written write) refl

-- ---- all of them

neither : (a b : Bool) → (a || b) ≡ false → (a ≡ false) × (b ≡ false)
neither true b e = cc
neither false b e = (refl, e)

rows_stay : (writes : List Write) (t : Tables) (slots : Slots) → touch_all writes ≡ false → AllAgreed t slots → AllAgreed (write_all t writes) (without_rows writes slots)
rows_stay [] t slots none agreed = agreed
rows_stay (write ∷ writes) t slots none agreed =
    let both = neither (touches_all (key_written write)) (touch_all writes) none in
    rows_stay writes (written t write) (without_row (key_written write) slots) both.1 (stay_one t write slots both.0 agreed)

pub agreements_stay : (t : Tables) (writes : List Write) (slots : Slots) → AllAgreed t slots → AllAgreed (write_all t writes) (without_touched writes slots)
agreements_stay t writes slots agreed =
    elim (touch_all writes) as (λ b. touch_all writes ≡ b → AllAgreed (write_all t writes) (cond b none_remembered (without_rows writes slots))) [
      | true ↦ λ all. none_agreed (write_all t writes)
      | false ↦ λ none. rows_stay writes t slots none agreed
    ] refl
