-- What a request means: a command, or the first fault.
use Rattle.std.specs.Prelude.{◌≡◌, ℕ, ◌&&◌, List, codes, bytes_eq, is_some, Option, Some, None, Result, Ok, Err, MatchResult, if◌then◌else◌}
use Rattle.std.specs.Str.{is_utf8}
use Rattle.serde_json.specs.Data.{Data}
use Rattle.serde_json.specs.Read.{read}
use Rattle.serde_json.specs.Find.{as_object, as_bool}
use Rattle.off_base.specs.Tree.{Tree}
use Rattle.off_defs.specs.Bounds.{most_devices, least_prefix, most_prefix}
use Rattle.off_defs.specs.declared.keys.Key.{Key}
use Rattle.off_defs.specs.declared.keys.Key.TheVariants as key
use Rattle.off_defs.specs.declared.tables.Site.{Site}
use Rattle.off_defs.specs.declared.tables.Subscriber.{Subscriber}
use Rattle.off_defs.specs.declared.tables.Modem.{Modem}
use Rattle.off_defs.specs.declared.tables.Class.{Class}
use Rattle.off_defs.specs.declared.tables.Pool.{Pool}
use Rattle.off_defs.specs.declared.tables.ImportKind.{ImportKind}
use Rattle.off_orders.specs.declared.orders.Command.{Command}
use Rattle.off_orders.specs.declared.orders.Command.TheVariants.{PutHub, PutSubscriber, PutAddOn, PutModem, PutClass, PutPool, PutDevicePool, Remove, Show}
use Rattle.off_import_rules.specs.Reading.{import_in}
use Rattle.off_import_rules.specs.declared.faults.ImportFault.{ImportFault}
use Rattle.off_clerk_rules.specs.Paths.{path_of, place_at, last_number}
use Rattle.off_clerk_rules.specs.declared.places.Place.{Place}
use Rattle.off_clerk_rules.specs.declared.places.Place.TheVariants as at
use Rattle.off_clerk_rules.specs.Fields.{field_in, field_or, number_in, offset_in, text_in, address_in, relay_in, hex_in, settings_in}
use Rattle.off_clerk_rules.specs.declared.names.Name.TheVariants as field
use Rattle.off_clerk_rules.specs.declared.faults.ClerkErr.{ClerkErr}
use Rattle.off_clerk_rules.specs.declared.faults.ClerkErr.TheVariants.{NoPath, NoMethod, NotJson, Import}
use Rattle.off_clerk_rules.specs.declared.faults.CommandErr.{CommandErr}
use Rattle.off_clerk_rules.specs.declared.faults.CommandErr.TheVariants.{Fault, Memory}

-- the second step, if the first gave a value: `do` reads fields in order, and ends at the first
-- fault
infixl 10 ◌>>=◌
abbrev pub ◌>>=◌ : {A B : Type 0} → Result A ClerkErr → (A → Result B ClerkErr) → Result B ClerkErr
Ok x >>= f = f x
Err e >>= f = Err e

-- the bodies, their fields in order
abbrev pub site_in : Data → Result Site ClerkErr
site_in body = do
  server ← field_in field.Server address_in body
  secret ← field_in field.Secret (hex_in 64) body
  offset ← field_in field.Offset offset_in body
  lease ← field_in field.Lease (number_in 0 last_number) body
  log ← field_in field.Log address_in body
  Ok (record { server = server; secret = secret; offset = offset; lease = lease; log = log })

abbrev pub subscriber_in : Data → Result Subscriber ClerkErr
subscriber_in body = do
  active ← field_in field.Active as_bool body
  cpes ← field_in field.Cpes (number_in 1 most_devices) body
  text ← field_in field.Name text_in body
  Ok (record { active = active; cpes = cpes; name = text })

abbrev pub add_on_in : Data → Result (List Tree) ClerkErr
add_on_in body = field_in field.Settings settings_in body

abbrev pub modem_in : Data → Result Modem ClerkErr
modem_in body = do
  subscriber ← field_in field.Subscriber (number_in 0 last_number) body
  class ← field_in field.Class (number_in 0 last_number) body
  serial ← field_in field.Serial text_in body
  Ok (record { subscriber = subscriber; class = class; serial = serial })

abbrev pub class_in : Data → Result Class ClerkErr
class_in body = do
  text ← field_in field.Name text_in body
  settings ← field_in field.Settings settings_in body
  Ok (record { name = text; settings = settings })

abbrev pub pool_in : Data → Result Pool ClerkErr
pool_in body = do
  first ← field_in field.First address_in body
  last ← field_in field.Last address_in body
  prefix ← field_in field.Prefix (number_in least_prefix most_prefix) body
  router ← field_in field.Router address_in body
  relay ← field_in field.Relay relay_in body
  Ok (record { first = first; last = last; prefix = prefix; router = router; relay = relay })

-- a pool's hub is the last field of its body. A pool for devices has none: a device goes by the hub
-- of its modem's pool
abbrev pub hub_of_pool_in : Data → Result ℕ ClerkErr
hub_of_pool_in body = field_or 0 field.Hub (number_in 0 last_number) body

-- a body is one JSON object (RFC 8259) in UTF-8
abbrev pub object_if : Option Data → Result Data ClerkErr
object_if None = Err NotJson
object_if (Some d) = if is_some (as_object d) then Ok d else Err NotJson

abbrev pub json_in : List ℕ → Option Data
json_in body = if is_utf8 body then read body else None

abbrev pub object_in : List ℕ → Result Data ClerkErr
object_in body = object_if (json_in body)

-- what a PUT (RFC 9110, section 9.3.4) of a row means
abbrev pub put_read : Key → List ℕ → Result Command ClerkErr
put_read (key.Hub number) body = do
  fields ← object_in body
  site ← site_in fields
  Ok (PutHub number site)
put_read (key.Subscriber number) body = do
  fields ← object_in body
  subscriber ← subscriber_in fields
  Ok (PutSubscriber number subscriber)
put_read (key.AddOn owner number) body = do
  fields ← object_in body
  settings ← add_on_in fields
  Ok (PutAddOn owner number settings)
put_read (key.Modem mac) body = do
  fields ← object_in body
  modem ← modem_in fields
  Ok (PutModem mac modem)
put_read (key.Class number) body = do
  fields ← object_in body
  class ← class_in fields
  Ok (PutClass number class)
put_read (key.Pool number) body = do
  fields ← object_in body
  pool ← pool_in fields
  hub ← hub_of_pool_in fields
  Ok (PutPool number pool hub)
put_read (key.DevicePool number) body = do
  fields ← object_in body
  pool ← pool_in fields
  Ok (PutDevicePool number pool)
put_read key.Site body = Err NoMethod
put_read (key.Lease address) body = Err NoMethod
put_read (key.Held mac) body = Err NoMethod
put_read (key.Batch number) body = Err NoMethod
put_read (key.PoolHub pool) body = Err NoMethod
put_read (key.Device address) body = Err NoMethod

-- the body of an import isn't JSON
abbrev pub as_import : Result Command ImportFault → Result Command ClerkErr
as_import (Ok command) = Ok command
as_import (Err fault) = Err (Import fault)

-- GET and DELETE (RFC 9110, sections 9.3.1 and 9.3.5) have no body
abbrev pub asked_of : Place → List ℕ → List ℕ → Result Command ClerkErr
asked_of (at.Row row puts deletes) method body =
    if bytes_eq method (codes "GET") then Ok (Show row)
    else if bytes_eq method (codes "PUT") && puts then put_read row body
    else if bytes_eq method (codes "DELETE") && deletes then Ok (Remove row)
    else Err NoMethod
asked_of (at.Import kind batch) method body =
    if bytes_eq method (codes "PUT") then as_import (import_in kind batch body) else Err NoMethod

abbrev pub asked_at : Option Place → List ℕ → List ℕ → Result Command ClerkErr
asked_at None method body = Err NoPath
asked_at (Some place) method body = asked_of place method body

-- a request with this method, target and body
abbrev pub command_read : List ℕ → List ℕ → List ℕ → Result Command ClerkErr
command_read method target body = asked_at (place_at (path_of target)) method body

-- this is what was wanted, or memory was wanted
abbrev pub GivesFault : {A : Type 0} → Result A ClerkErr → CommandErr → Type 0
GivesFault wanted (Fault err) = wanted ≡ Err err
GivesFault wanted Memory = Unit {0}

abbrev pub GivesWanted : {A : Type 0} → Result A ClerkErr → Result A CommandErr → Type 0
GivesWanted wanted result = MatchResult result (λ x. wanted ≡ Ok x) (GivesFault wanted)
