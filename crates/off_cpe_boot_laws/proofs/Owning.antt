-- The address that is a device's own behind a modem, and what writes make of a device's row.
use Rattle.std.proofs.Common.{◌≡◌, true, cond, Option, Some, None, option_map, [], ◌∷◌, ◌++◌, sym, ap, ◌∙◌}
use Rattle.off_base.specs.declared.addresses.Ip4.{Ip4}
use Rattle.off_base.specs.declared.macs.Mac.{Mac}
use Rattle.off_defs.specs.declared.keys.Key.TheVariants as key
use Rattle.off_defs.specs.declared.tables.Row.TheVariants as row
use Rattle.off_defs.specs.declared.tables.DeviceLease.{DeviceLease}
use Rattle.off_defs.specs.declared.writes.Write.TheVariants.{Put, Drop}
use Rattle.off_defs.specs.State.{Tables}
use Rattle.off_defs.specs.Tables.{without, write_all}
use Rattle.off_account_rules.specs.Rows.{passes, device_in, devices}
use Rattle.off_account_rules.specs.Good.{is_same_owner}
use Rattle.off_table_laws.specs.Laws.{device_owner_in, OneAddress}
use Rattle.off_table_laws.proofs.ListLemmas.{some_found}
use Rattle.off_account_rules.proofs.OwnerLemmas.{owner_own}
use Rattle.off_table_laws.proofs.TableLaws.{device_owned}
use Rattle.off_cpe_rules.specs.Behind.{is_owned, own_among}
use Rattle.off_cpe_rules.specs.Steps.{own_drop}
use Rattle.off_cpe_laws.proofs.RowLemmas.{own_ip, other_ip, device_with, device_without, device_listed}
use Rattle.off_cpe_laws.proofs.WriteLemmas.{the_own}

-- ---- its own address is found

module _ (t : Tables) (one : OneAddress t) (modem device : Mac) where
  pub own_is : (address : Ip4) → device_owner_in t address ≡ Some (modem, device) → own_among modem device (devices t) ≡ Some address
  own_is address own =
      let l = device_owned (device_in t address) (modem, device) own in
      let mine : is_owned modem device l.0 ≡ true = ap (passes (is_same_owner (modem, device))) l.2 ∙ owner_own (modem, device) in
      let found = some_found (λ (entry : Ip4 × DeviceLease). is_owned modem device entry.1) (devices t) (address, l.0) (device_listed t address l.0 l.1) mine in
      let first : own_among modem device (devices t) ≡ Some found.0.0 = ap (option_map (λ (entry : Ip4 × DeviceLease). entry.0)) found.1 in
      let same : found.0.0 ≡ address = one found.0.0 address (modem, device) (the_own t modem device found.0.0 first) own in
      first ∙ ap Some same

-- ---- a lease is put, and another row may be dropped before

module _ (t : Tables) (lease : DeviceLease) (address : Ip4) where
  pub given_here : (o : Option Ip4) → device_in (write_all t (own_drop o ++ Put (key.Device address) (row.Device lease) ∷ [])) address ≡ Some lease
  given_here None = device_with t address lease address ∙ ap (λ b. cond b (Some lease) (device_in t address)) (own_ip address)
  given_here (Some y) =
      device_with (without t (key.Device y)) address lease address
      ∙ ap (λ b. cond b (Some lease) (device_in (without t (key.Device y)) address)) (own_ip address)

  pub given_other : (o : Option Ip4) (x : Ip4) → (x ≡ address → ⊥) → (o ≡ Some x → ⊥)
      → device_in (write_all t (own_drop o ++ Put (key.Device address) (row.Device lease) ∷ [])) x ≡ device_in t x
  given_other None x apart aside = device_with t address lease x ∙ ap (λ b. cond b (Some lease) (device_in t x)) (other_ip address x apart)
  given_other (Some y) x apart aside =
      device_with (without t (key.Device y)) address lease x
      ∙ ap (λ b. cond b (Some lease) (device_in (without t (key.Device y)) x)) (other_ip address x apart)
      ∙ device_without t y x
      ∙ ap (λ b. cond b None (device_in t x)) (other_ip y x (λ same. aside (ap Some (sym same))))

  pub given_gone : (x : Ip4) → (x ≡ address → ⊥) → device_in (write_all t (own_drop (Some x) ++ Put (key.Device address) (row.Device lease) ∷ [])) x ≡ None
  given_gone x apart =
      device_with (without t (key.Device x)) address lease x
      ∙ ap (λ b. cond b (Some lease) (device_in (without t (key.Device x)) x)) (other_ip address x apart)
      ∙ device_without t x x
      ∙ ap (λ b. cond b None (device_in t x)) (own_ip x)

pub dropped_here : (t : Tables) (address : Ip4) → device_in (write_all t (Drop (key.Device address) ∷ [])) address ≡ None
dropped_here t address = device_without t address address ∙ ap (λ b. cond b None (device_in t address)) (own_ip address)

pub dropped_other : (t : Tables) (address x : Ip4) → (x ≡ address → ⊥) → device_in (write_all t (Drop (key.Device address) ∷ [])) x ≡ device_in t x
dropped_other t address x apart = device_without t address x ∙ ap (λ b. cond b None (device_in t x)) (other_ip address x apart)
