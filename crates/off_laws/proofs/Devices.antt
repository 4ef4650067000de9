-- What a message of a device behind a modem is, and that it leaves every row but leases of devices as it was.
use Rattle.std.proofs.Common.{◌≡◌, ℕ, true, Option, Some, None, option_map, option_and_then, Result, Ok, Err, List, [], ◌∷◌, ◌++◌, refl, ap, ◌∙◌}
use Rattle.off_base.specs.declared.addresses.Ip4.{Ip4}
use Rattle.off_base.specs.declared.macs.Mac.{Mac}
use Rattle.off_defs.specs.declared.keys.Key.{Key}
use Rattle.off_defs.specs.declared.keys.Key.TheVariants as key
use Rattle.off_defs.specs.declared.tables.Row.{Row}
use Rattle.off_defs.specs.declared.tables.Row.TheVariants as row
use Rattle.off_defs.specs.declared.writes.Write.{Write}
use Rattle.off_defs.specs.declared.writes.Write.TheVariants.{Put}
use Rattle.off_defs.specs.State.{Tables}
use Rattle.off_defs.specs.Tables.{row_at}
use Rattle.off_dhcp.specs.declared.faults.DhcpFault.{DhcpFault}
use Rattle.off_dhcp.specs.Datagram.{Received, message_of}
use Rattle.off_account_rules.specs.Rows.{possible, as_lease, lease_in, devices}
use Rattle.off_asking.specs.Asking.{client}
use Rattle.off_table_laws.proofs.Rows.{Rows, put_row, drop_row, rows_after, all_written}
use Rattle.off_order_laws.proofs.DevicePools.{is_no_device, drop_aside}
use Rattle.off_cpe_rules.specs.Behind.{own_among, modem_behind}
use Rattle.off_cpe_rules.specs.Steps.{own_drop, own_elsewhere, step_behind, device_step}
use Rattle.off_cpe_rules.specs.declared.results.DeviceStep.{DeviceStep}
use Rattle.off_cpe_laws.specs.Laws.{after_step}
use Rattle.off_cpe_laws.proofs.WriteLemmas.{nothing, gives, rests, frees, wrote}
use Rattle.off_book.specs.Dhcp.{device_read, device_of}

-- ---- the message, and the modem that it's behind

pub record IsDevices (t : Tables) (now : ℕ) (bytes : List ℕ) (step : DeviceStep) : Type 0 where
  pub message : Received
  pub modem : Mac
  pub read : message_of bytes ≡ Ok message
  pub behind : modem_behind t message ≡ Some modem
  pub does : step ≡ step_behind t now message modem

module _ (t : Tables) (now : ℕ) (bytes : List ℕ) (step : DeviceStep) where
  behind_told : (m : Received) (o : Option Mac) → message_of bytes ≡ Ok m → modem_behind t m ≡ o → option_map (step_behind t now m) o ≡ Some step → IsDevices t now bytes step
  behind_told m None read is e = cc
  behind_told m (Some modem) read is e = record { message = m; modem = modem; read = read; behind = is; does = cc }

  read_told : (read : Result Received DhcpFault) → message_of bytes ≡ read → device_read t now read ≡ Some step → IsDevices t now bytes step
  unfolding device_step
  read_told (Ok m) is e = behind_told m (modem_behind t m) is refl e
  read_told (Err fault) is e = cc

  pub device_told : device_of t now bytes ≡ Some step → IsDevices t now bytes step
  unfolding device_of
  device_told e = read_told (message_of bytes) refl e

-- a message that names the modem that it's behind is a device's, and one without is no device's
pub device_is : (t : Tables) (now : ℕ) (bytes : List ℕ) (m : Received) (modem : Mac) → message_of bytes ≡ Ok m → modem_behind t m ≡ Some modem
    → device_of t now bytes ≡ Some (step_behind t now m modem)
unfolding device_of device_step
device_is t now bytes m modem read behind = ap (device_read t now) read ∙ ap (option_map (step_behind t now m)) behind

none_read : (t : Tables) (now : ℕ) (m : Received) (read : Result Received DhcpFault) → read ≡ Ok m → modem_behind t m ≡ None → device_read t now read ≡ None
unfolding device_step
none_read t now m read is none = ap (device_read t now) is ∙ ap (option_map (step_behind t now m)) none

pub no_device : (t : Tables) (now : ℕ) (bytes : List ℕ) (m : Received) → message_of bytes ≡ Ok m → modem_behind t m ≡ None → device_of t now bytes ≡ None
unfolding device_of
no_device t now bytes m read none = none_read t now m (message_of bytes) read none

-- ---- what it writes

put_aside : (rows : Rows) (address : Ip4) (held : Row) (q : Key) → is_no_device q ≡ true → put_row rows (key.Device address) held q ≡ rows q
unfolding is_no_device
put_aside rows address held (key.Device other) h = cc
put_aside rows address held q h = refl

given_aside : (rows : Rows) (o : Option Ip4) (address : Ip4) (held : Row) (q : Key) → is_no_device q ≡ true
    → rows_after rows (own_drop o ++ Put (key.Device address) held ∷ []) q ≡ rows q
given_aside rows None address held q h = put_aside rows address held q h
given_aside rows (Some other) address held q h = put_aside (drop_row rows (key.Device other)) address held q h ∙ drop_aside rows other q h

module _ (t : Tables) (now : ℕ) (m : Received) (modem : Mac) where
  abbrev After : Key → List Write → Option Row
  After q writes = rows_after (row_at t) writes q

  pub row_aside : (q : Key) → is_no_device q ≡ true → row_at (after_step t now m modem) q ≡ row_at t q
  row_aside q h =
      ap (λ (rows : Rows). rows q) (all_written t (step_behind t now m modem).writes)
      ∙ elim (wrote t now m modem) as (λ w. After q (step_behind t now m modem).writes ≡ row_at t q) [
        | nothing e ↦ ap (After q) e
        | gives a lease is within e ↦ ap (After q) e ∙ given_aside (row_at t) (own_elsewhere a (own_among modem (client m) (devices t))) a (row.Device lease) q h
        | rests a lease is own e ↦ ap (After q) e ∙ put_aside (row_at t) a (row.Device lease) q h
        | frees a e ↦ ap (After q) e ∙ drop_aside (row_at t) a q h
      ]

  pub lease_aside : (address : Ip4) → lease_in (after_step t now m modem) address ≡ lease_in t address
  unfolding is_no_device
  lease_aside address = ap (λ (o : Option Row). option_and_then as_lease (possible (key.Lease address) o)) (row_aside (key.Lease address) refl)
