-- How many calls of the keeper it takes to tell that a message is no device's, and how many one
-- that is a device's takes.
use Rattle.std.specs.Prelude.{◌≡◌, ℕ, ◌+◌, Bool, not, ◌||◌, Option, Some, None, is_some, Result, is_err, IfOk, if◌then◌else◌}
use Rattle.off_base.specs.declared.macs.Mac.{Mac}
use Rattle.off_dhcp.specs.Datagram.{Received}
use Rattle.off_asking.specs.Asking.{is_discover, is_request, is_release, relay_parts, relayed}
use Rattle.off_asking.specs.Claims.{refused_by}
use Rattle.off_defs.specs.State.{Tables}
use Rattle.off_cpe_rules.specs.Behind.{is_another, modem_behind}
use Rattle.off_outside.specs.declared.keeper.KeepErr.{KeepErr}
use Rattle.off_outside.specs.KeeperSeen.{KeeperSeen}
use Rattle.off_outside.specs.KeeperCalls.{Spent}
use Rattle.off_cpe.specs.Stages.{own_rules}
use Rattle.off_cpe.specs.declared.answering.DeviceAnswer.{DeviceAnswer}
use Rattle.off_cpe.specs.declared.modems.FoundModem.{FoundModem}

-- A message that says by itself that it's no device's asks none: the relay names the client itself,
-- or no modem, and then the message is about no lease
abbrev pub is_own_by : Received → Option Mac → Bool
is_own_by m (Some remote) = not (is_another m remote)
is_own_by m None = not (is_request m || is_release m)

-- or what the relay says is cut
abbrev pub is_own : Received → Bool
is_own m = is_err (relay_parts m) || is_own_by m (relayed m)

-- Each other message that by the tables is no device's asks one at most, and is found to be none,
-- whatever is known of the leases of devices.
abbrev pub LooksOnce : Received → KeeperSeen → KeeperSeen → Type 0
LooksOnce m old new = (t : Tables) → old.tables t → modem_behind t m ≡ None → Spent 1 old new

abbrev pub FindsNone : Result (Option DeviceAnswer) KeepErr → Received → KeeperSeen → Type 0
FindsNone result m old =
    (t : Tables) → old.tables t → modem_behind t m ≡ None → IfOk result (λ answer. answer ≡ None)

-- a device's message that is refused by what it says itself asks for its modem alone
abbrev pub is_refused : Received → Bool
is_refused m = is_some (refused_by (own_rules m))

-- To gather the rows takes four calls, and one more for a modem whose row isn't read yet.
abbrev pub gather_calls : FoundModem → ℕ
gather_calls found = if is_some found.subscriber then 4 else 5

-- To decide a message takes five calls for a DISCOVER, and six for others. A DISCOVER may write to
-- one address that isn't the device's own, and others to none.
abbrev pub most_deciding : Received → ℕ
most_deciding m = if is_discover m then 5 else 6

abbrev pub most_elsewhere : Received → ℕ
most_elsewhere m = if is_discover m then 1 else 0

-- So a device's message takes seven calls at most: those that decide it, one that reads which lease
-- such an address had, and the commit.
abbrev pub device_calls : ℕ
device_calls = 5 + 1 + 1
