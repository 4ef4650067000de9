-- The names of the fields of bodies and replies: keys of JSON objects (RFC 8259, section 4).
use Rattle.std.specs.Prelude.{ℕ, List, codes}
use Rattle.off_clerk_rules.specs.declared.names.Name.{Name}
use Rattle.off_clerk_rules.specs.declared.names.Name.TheVariants as field

abbrev pub name_text : Name → List ℕ
name_text field.Server = codes "server"
name_text field.Secret = codes "secret"
name_text field.Offset = codes "offset"
name_text field.Lease = codes "lease"
name_text field.Log = codes "log"
name_text field.Active = codes "active"
name_text field.Cpes = codes "cpes"
name_text field.Name = codes "name"
name_text field.Settings = codes "settings"
name_text field.Subscriber = codes "subscriber"
name_text field.Class = codes "class"
name_text field.Serial = codes "serial"
name_text field.First = codes "first"
name_text field.Last = codes "last"
name_text field.Prefix = codes "prefix"
name_text field.Router = codes "router"
name_text field.Relay = codes "relay"
name_text field.Hub = codes "hub"
