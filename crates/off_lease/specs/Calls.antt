-- How many calls of the keeper a message makes at most, whatever the tables: none where the message
-- itself is refused; else one for the site of its hub and one for the address that the client
-- holds, for one that asks for an address one for its modem, and for an offer one for the lease of
-- its address.
use Rattle.std.specs.Prelude.{ℕ, is_some, if◌then◌else◌}
use Rattle.off_dhcp.specs.Datagram.{Received}
use Rattle.off_asking.specs.Asking.{asks, is_discover}
use Rattle.off_asking.specs.Claims.{refused_by}
use Rattle.off_lease.specs.Stages.{own_rules}

abbrev pub row_calls : Received → ℕ
row_calls m = if is_discover m then 4 else if asks m then 3 else 2

abbrev pub message_calls : Received → ℕ
message_calls m = if is_some (refused_by (own_rules m)) then 0 else row_calls m
