-- What a write makes of what modems name.
use Rattle.std.specs.Prelude.{ℕ, ◌+◌, List, [], ◌∷◌, Option, Some, None}
use Rattle.off_base.specs.declared.macs.Mac.{Mac}
use Rattle.off_defs.specs.declared.keys.Key.TheVariants as key
use Rattle.off_defs.specs.declared.tables.Row.{Row}
use Rattle.off_defs.specs.declared.tables.Row.TheVariants as row
use Rattle.off_defs.specs.declared.writes.Write.{Write}
use Rattle.off_defs.specs.declared.writes.Write.TheVariants.{Put, Drop}
use Rattle.off_users.specs.declared.named.Named.{Named}
use Rattle.off_users.specs.Users.{named_of}

abbrev pub named_in_row : Row → Option Named
named_in_row (row.Modem modem) = Some (named_of modem)
named_in_row held = None

abbrev pub named_write : Write → Option (Mac × Option Named)
named_write (Put (key.Modem modem) held) = Some (modem, named_in_row held)
named_write (Drop (key.Modem modem)) = Some (modem, None)
named_write write = None

-- how many modems are put
abbrev pub puts_modem : Write → ℕ
puts_modem (Put (key.Modem modem) held) = 1
puts_modem write = 0

abbrev pub modem_puts : List Write → ℕ
modem_puts [] = 0
modem_puts (write ∷ writes) = puts_modem write + modem_puts writes
