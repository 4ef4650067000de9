-- Worked examples, evaluated: the definitions say what was meant.
use Rattle.std.proofs.Common.{◌≡◌, refl, true, false}
use Rattle.off_defs.specs.declared.keys.Key.TheVariants as key
use Rattle.off_orders.specs.declared.orders.Command.TheVariants.{Remove, Show}
use Rattle.off_orders.specs.Sound.{is_sound}

lease_stays : is_sound (Remove (key.Lease (record { 0 = 1 }))) ≡ false
lease_stays = refl

hub_goes : is_sound (Remove (key.Hub 1)) ≡ true
hub_goes = refl

earlier_site_hidden : is_sound (Show key.Site) ≡ false
earlier_site_hidden = refl

lease_shown : is_sound (Show (key.Lease (record { 0 = 1 }))) ≡ true
lease_shown = refl
