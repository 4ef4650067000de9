use Rattle.std.proofs.Common.{length, ◌-◌, ◌≤◌, ◌*◌, ◌+◌, drop}
use Rattle.off_tlv.specs.Fault.{Behind}
use Rattle.off_tlv.specs.Seen.{level_of}
use Rattle.off_tlv.proofs.extents.+front.Given as goal

abbrev pub decreases-check_value : goal.decreases-check_value
decreases-check_value l = 2 * length l.value.now + 1

abbrev pub decreases-front : goal.decreases-front
decreases-front l = 2 * length l.bytes.now

abbrev pub invariant-front-loop-place : goal.invariant-front-loop-place
invariant-front-loop-place l = Behind (level_of l.level) l.bytes l.place (drop l.place l.bytes) × (l.place ≤ length l.bytes)

abbrev pub decreases-front-loop-place : goal.decreases-front-loop-place
decreases-front-loop-place l = length l.bytes - l.place
