-- What a device's message leaves of good tables is good: it writes devices' leases alone, each in a pool for devices.
use Rattle.std.proofs.Common.{◌≡◌, ℕ, true, not, ◌&&◌, eqb, Option, Some, None, option_map, option_and_then, List, [], ◌∷◌, ◌++◌, inl, inr, refl, sym, ap, subst, ◌∙◌}
use Rattle.std.proofs.lemmas.Bool.{and_parts, or_cases, eqb-true, not-true}
use Rattle.off_base.specs.declared.addresses.Ip4.{Ip4}
use Rattle.off_base.specs.declared.macs.Mac.{Mac}
use Rattle.off_defs.specs.declared.keys.Key.TheVariants as key
use Rattle.off_defs.specs.declared.tables.Row.TheVariants as row
use Rattle.off_defs.specs.declared.tables.Pool.{Pool}
use Rattle.off_defs.specs.declared.tables.DeviceLease.{DeviceLease}
use Rattle.off_defs.specs.declared.writes.Write.{Write}
use Rattle.off_defs.specs.declared.writes.Write.TheVariants.{Put, Drop}
use Rattle.off_defs.specs.State.{Tables}
use Rattle.off_defs.specs.Tables.{row_at, write_all}
use Rattle.off_dhcp.specs.Datagram.{Received}
use Rattle.off_account_rules.specs.Rows.{has_address, overlaps, device_in, device_pools, devices}
use Rattle.off_account_rules.specs.Good.{device_owner, Good}
use Rattle.off_table_laws.specs.Laws.{device_owner_in, OneAddress}
use Rattle.off_table_laws.proofs.ListLemmas.{In, found_passes}
use Rattle.off_table_laws.proofs.Rows.{Rows, drop_row, rows_after, all_written}
use Rattle.off_table_laws.proofs.GoodRows.{OnePoolOf, OwnedOnce, GoodRows}
use Rattle.off_table_laws.proofs.Judging.{good_rows, good_tables, raw_in_device_pool}
use Rattle.off_table_laws.proofs.PutLemmas.{put_device}
use Rattle.off_table_laws.proofs.DropLemmas.{drop_device}
use Rattle.off_table_laws.proofs.PoolLemmas.{share}
use Rattle.off_table_laws.proofs.Reading.{device_row, row_device, device_pools_raw}
use Rattle.off_table_laws.proofs.TableLaws.{device_owned, one_address_a_device}
use Rattle.off_asking.specs.Asking.{client}
use Rattle.off_asking.specs.Choice.{serves, pool_among, numbered_among}
use Rattle.off_cpe_rules.specs.Behind.{own_among}
use Rattle.off_cpe_rules.specs.Steps.{own_drop, own_elsewhere}
use Rattle.off_cpe_laws.specs.Laws.{StepKeepsGood, after_step}
use Rattle.off_cpe_laws.proofs.WriteLemmas.{nothing, gives, rests, frees, lies_in, wrote, one_address_stays, the_own}

-- leases of which no device has two are owned once
owner_here : (t : Tables) (address : Ip4) (lease : DeviceLease) (owner : Mac × Mac) → row_at t (key.Device address) ≡ Some (row.Device lease) → device_owner lease.hold ≡ Some owner
    → device_owner_in t address ≡ Some owner
owner_here t address lease owner e own = ap (option_and_then (λ (l : DeviceLease). device_owner l.hold)) (row_device t address lease e) ∙ own

once : (t : Tables) (writes : List Write) → OneAddress (write_all t writes) → OwnedOnce (rows_after (row_at t) writes)
once t writes one =
    let u = write_all t writes in
    let rows : OwnedOnce (row_at u) = λ first second lease left owner e f own also. one first second owner (owner_here u first lease owner e own) (owner_here u second left owner f also) in
    subst OwnedOnce (all_written t writes) rows

module _ (t : Tables) (good : Good t) where
  g : GoodRows (row_at t)
  g = good_rows t good.opens

  -- an address of a pool for devices lies in no other
  in_one_pool : (n : ℕ) (pool : Pool) (address : Ip4) → row_at t (key.DevicePool n) ≡ Some (row.Pool pool) → has_address pool address ≡ true → OnePoolOf key.DevicePool (row_at t) address
  in_one_pool n pool address there within = record {
    number = n;
    pool = pool;
    there = there;
    within = within;
    only = λ m other e w.
        elim (or_cases (eqb m n) (not (overlaps pool other) && not (eqb other.relay.0 pool.relay.0)) (g.devices.apart n pool m other there e)) as (λ c. m ≡ n) [
          | inl same ↦ eqb-true m n same
          | inr clear ↦
              let isnt = not-true (overlaps pool other) (and_parts (not (overlaps pool other)) (not (eqb other.relay.0 pool.relay.0)) clear).0 in
              let is = share pool other address within w in
              cc
        ];
  }

  -- the pool of a message is one of them
  pool_lies : (m : Received) (address : Ip4) → lies_in (pool_among (device_pools t) m) address ≡ true → OnePoolOf key.DevicePool (row_at t) address
  pool_lies m address lies = by_found (numbered_among (device_pools t) m) refl lies
    where
      by_found : (o : Option (ℕ × Pool)) → numbered_among (device_pools t) m ≡ o → lies_in (option_map (λ (entry : ℕ × Pool). entry.1) o) address ≡ true
          → OnePoolOf key.DevicePool (row_at t) address
      by_found None e f = cc
      by_found (Some entry) e f =
          let i = (found_passes (λ (other : ℕ × Pool). serves m other.1) (device_pools t) entry e).0 in
          in_one_pool entry.0 entry.1 address (raw_in_device_pool t entry.0 entry.1 (subst (λ (pools : List (ℕ × Pool)). In entry pools) (device_pools_raw t g.possible) i)) f

  after_good : (writes : List Write) → GoodRows (rows_after (row_at t) writes) → rows_after (row_at t) writes key.Site ≡ row_at t key.Site → Good (write_all t writes)
  after_good writes rows aside = record {
    opens = good_tables (write_all t writes) (subst (λ (r : Rows). GoodRows r) (sym (all_written t writes)) rows);
    no_site = ap (λ (r : Rows). r key.Site) (all_written t writes) ∙ aside ∙ good.no_site;
  }

  -- what is given up elsewhere doesn't change where the address lies
  given : (address : Ip4) (lease : DeviceLease) → OnePoolOf key.DevicePool (row_at t) address → (o : Option Ip4)
      → OneAddress (write_all t (own_drop o ++ Put (key.Device address) (row.Device lease) ∷ [])) → Good (write_all t (own_drop o ++ Put (key.Device address) (row.Device lease) ∷ []))
  given address lease one None single =
      let writes = Put (key.Device address) (row.Device lease) ∷ [] in
      after_good writes (put_device (row_at t) g address lease one (once t writes single)) refl
  given address lease one (Some other) single =
      let writes = Drop (key.Device other) ∷ Put (key.Device address) (row.Device lease) ∷ [] in
      after_good writes (put_device (drop_row (row_at t) (key.Device other)) (drop_device (row_at t) g other) address lease one (once t writes single)) refl

pub step_keeps_good : StepKeepsGood
step_keeps_good t now m modem good =
    let one = one_address_stays t now m modem (one_address_a_device t good) in
    elim (wrote t now m modem) as (λ w. Good (after_step t now m modem)) [
      | nothing e ↦ subst (λ (writes : List Write). Good (write_all t writes)) (sym e) good
      | gives a lease is within e ↦
          subst (λ (writes : List Write). Good (write_all t writes)) (sym e)
          (given t good a lease (pool_lies t good m a within) (own_elsewhere a (own_among modem (client m) (devices t))) (subst (λ (writes : List Write). OneAddress (write_all t writes)) e one))
      | rests a lease is own e ↦
          let there = device_owned (device_in t a) (modem, client m) (the_own t modem (client m) a own) in
          subst (λ (writes : List Write). Good (write_all t writes)) (sym e)
          (given t good a lease ((g t good).devices.one_pool a there.0 (device_row t a there.0 there.1)) None (subst (λ (writes : List Write). OneAddress (write_all t writes)) e one))
      | frees a e ↦
          subst (λ (writes : List Write). Good (write_all t writes)) (sym e) (after_good t good (Drop (key.Device a) ∷ []) (drop_device (row_at t) (g t good) a) refl)
    ]
