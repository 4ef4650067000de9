-- A request by the peer's transfer, and an acknowledgement, before anything is read for the peer.
use Rattle.std.specs.Prelude.{ℕ, ◌==◌, Bool, false, List, Option, Some, None, if◌then◌else◌}
use Rattle.std.specs.FinMap as map
use Rattle.off_base.specs.declared.addresses.Peer.{Peer}
use Rattle.off_defs.specs.State.{Transfer}
use Rattle.off_transfer_rules.specs.Steps.{is_repeated}
use Rattle.off_transfer_rules.specs.Transfers.{Transfers, has_no_room, is_at_last}
use Rattle.off_tftp.specs.declared.acknowledging.Stage.{Stage}
use Rattle.off_tftp.specs.declared.acknowledging.Stage.TheVariants as stage

-- the peer's transfer began with this request, and nothing was acknowledged since
abbrev pub repeats : List ℕ → Option Transfer → Bool
repeats bytes None = false
repeats bytes (Some x) = is_repeated bytes x

-- there is neither room nor a transfer to be replaced
abbrev pub lacks_room_by : Bool → Option Transfer → Bool
lacks_room_by full None = full
lacks_room_by full (Some x) = false

abbrev pub lacks_room : Transfers → Peer → Bool
lacks_room transfers peer = lacks_room_by (has_no_room transfers) (map.get transfers peer)

abbrev pub stage_of : ℕ → Option Transfer → Stage
stage_of number None = stage.Unknown
stage_of number (Some x) =
    if number == x.sent then (if is_at_last x then stage.Last else stage.Next) else stage.Stale
