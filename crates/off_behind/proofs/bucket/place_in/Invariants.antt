-- Those so far have lower addresses.
use Rattle.std.specs.Prelude.{◌≡◌, ◌≤◌, ◌+◌, ◌-◌, drop, vec_len}
use Rattle.off_behind.specs.Changes.{place_in}
use Rattle.off_behind.proofs.bucket.place_in.Given as goal

abbrev pub invariant-seek : goal.invariant-seek
invariant-seek l = (l.place + place_in l.address (drop l.place l.leases.items) ≡ place_in l.address l.leases.items) × (l.place ≤ vec_len l.leases)

abbrev pub decreases-seek : goal.decreases-seek
decreases-seek l = vec_len l.leases - l.place
