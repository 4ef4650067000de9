-- What a change of one row takes from others: the addresses that a pool gives up, who held an
-- address, the add-ons of a subscriber.
use Rattle.std.specs.Prelude.{ℕ, Bool, false, not, ◌&&◌, List, [], ◌∷◌, map, Option, Some, None}
use Rattle.off_base.specs.declared.addresses.Ip4.{Ip4}
use Rattle.off_base.specs.declared.macs.Mac.{Mac}
use Rattle.off_defs.specs.Bounds.{add_on_numbers}
use Rattle.off_defs.specs.declared.keys.Key.{Key}
use Rattle.off_defs.specs.declared.keys.Key.TheVariants as key
use Rattle.off_defs.specs.declared.tables.Pool.{Pool}
use Rattle.off_defs.specs.declared.writes.Write.{Write}
use Rattle.off_defs.specs.declared.writes.Write.TheVariants.{Drop}
use Rattle.off_account_rules.specs.Rows.{has_address}

-- which addresses a pool gives up where another one or none takes its place
abbrev pub gives_up : Option Pool → Option Pool → Ip4 → Bool
gives_up None new address = false
gives_up (Some old) None address = has_address old address
gives_up (Some old) (Some new) address = has_address old address && not (has_address new address)

-- what drops the row of who holds an address
abbrev pub held_drop : Option Mac → List Write
held_drop None = []
held_drop (Some mac) = Drop (key.Held mac) ∷ []

-- the keys of a subscriber's add-ons
abbrev pub add_on_keys : ℕ → List Key
add_on_keys n = map (key.AddOn n) add_on_numbers
