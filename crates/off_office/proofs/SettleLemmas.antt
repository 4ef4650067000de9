-- The leases of devices behind writes.
use Rattle.std.proofs.Common.{◌≡◌, List, sym, subst}
use Rattle.off_defs.specs.declared.writes.Write.{Write}
use Rattle.off_defs.specs.State.{Tables}
use Rattle.off_defs.specs.Tables.{write_all}
use Rattle.off_account_rules.specs.Rows.{devices}
use Rattle.off_behind.specs.Buckets.{Bucket, Leases, Indexes, Keeps, leases_in}
use Rattle.off_behind.proofs.FollowLemmas.{keeps_stands, stands_keeps}
use Rattle.off_office.specs.Conditions.{KnowsDevices}

pub settled_devices : (old ready new : List Bucket) (t : Tables) (writes : List Write) → leases_in ready ≡ leases_in old
    → (Indexes ready (devices t) → Indexes new (devices (write_all t writes))) → KnowsDevices (leases_in old) t → KnowsDevices (leases_in new) (write_all t writes)
settled_devices old ready new t writes same follow knows =
    stands_keeps new (devices (write_all t writes))
    (follow (keeps_stands ready (devices t) (subst (λ (held : List Leases). Keeps held (devices t)) (sym same) knows)))
