-- What is known of modems, as a map by their hardware addresses: whatever the order in which it is
-- kept, it's one map.
use Rattle.std.specs.Prelude.{◌≡◌, List, [], ◌∷◌, option_map}
use Rattle.std.specs.declared.cmp.Ordering.{Ordering}
use Rattle.std.specs.FinMap as map
use Rattle.off_base.specs.declared.macs.Mac.{Mac}
use Rattle.off_defs.specs.declared.keys.Key.TheVariants as key
use Rattle.off_defs.specs.Keys.{key_cmp}
use Rattle.off_defs.specs.State.{Tables}
use Rattle.off_account_rules.specs.Rows.{modem_in}
use Rattle.off_users.specs.declared.named.Named.{Named}
use Rattle.off_users.specs.Users.{named_of}

-- modems are in the order of their keys
abbrev pub modem_cmp : Mac → Mac → Ordering
modem_cmp a b = key_cmp (key.Modem a) (key.Modem b)

abbrev pub NamedMap : Type 0
NamedMap = map.FinMap modem_cmp Named

abbrev pub map_of : List (Mac × Named) → NamedMap
map_of [] = map.empty
map_of (entry ∷ entries) = map.insert (map_of entries) entry.0 entry.1

-- it is what the modems of the tables name
abbrev pub Knows : NamedMap → Tables → Type 0
Knows known tables =
    (modem : Mac) → map.get known modem ≡ option_map named_of (modem_in tables modem)
