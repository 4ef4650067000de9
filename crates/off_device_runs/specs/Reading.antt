-- What is taken for putting the rows of pools for devices and of the leases of devices.
use Rattle.std.specs.Prelude.{List, Option, None}
use Rattle.std.specs.List.{filter_map}
use Rattle.std.specs.FinMap as map
use Rattle.off_defs.specs.declared.keys.Key.{Key}
use Rattle.off_defs.specs.declared.keys.Key.TheVariants as key
use Rattle.off_defs.specs.declared.tables.Row.{Row}
use Rattle.off_defs.specs.declared.writes.Write.{Write}
use Rattle.off_defs.specs.declared.writes.Write.TheVariants.{Put}
use Rattle.off_defs.specs.State.{Tables}
use Rattle.off_device_runs.specs.Ground.{taken_for}

abbrev pub pool_put : Key × Row → Option Write
pool_put (key.DevicePool n, held) = taken_for (Put (key.DevicePool n) held)
pool_put entry = None

abbrev pub lease_put : Key × Row → Option Write
lease_put (key.Device a, held) = taken_for (Put (key.Device a) held)
lease_put entry = None

abbrev pub pools_put : Tables → List Write
pools_put t = filter_map pool_put (map.entries t)

abbrev pub leases_put : Tables → List Write
leases_put t = filter_map lease_put (map.entries t)
