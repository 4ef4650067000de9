-- How many calls of the keeper an event asks at most.
use Rattle.std.specs.Prelude.{◌≡◌, ℕ, ◌+◌, Bool, true, false, List, [], ◌∷◌, ◌++◌, Option, Some, None, option_map, IfSome, Result, Ok, Err}
use Rattle.off_base.specs.declared.addresses.Peer.{Peer}
use Rattle.off_http.specs.Request.{Meaning, Waits, Refused, Asked, RequestIs}
use Rattle.off_orders.specs.declared.orders.Command.{Command}
use Rattle.off_orders.specs.declared.orders.Command.TheVariants.{PutHub, PutSubscriber, PutAddOn, PutModem, PutClass, PutPool, PutDevicePool, Remove, Show, Import}
use Rattle.off_defs.specs.declared.writes.Write.{Write}
use Rattle.off_defs.specs.declared.events.Service.TheVariants.{Dhcp, Time, Tftp}
use Rattle.off_defs.specs.declared.events.What.{What}
use Rattle.off_defs.specs.declared.events.What.TheVariants.{Datagram, Piece, Closed, Tick, End}
use Rattle.off_defs.specs.State.{Held, Tables}
use Rattle.off_dhcp.specs.Datagram.{Received, message_of}
use Rattle.off_dhcp.specs.declared.faults.DhcpFault.{DhcpFault}
use Rattle.off_query_rules.specs.Asked.{query_of}
use Rattle.off_cpe_rules.specs.Behind.{modem_behind}
use Rattle.off_cpe.specs.Calls.{is_own, device_calls}
use Rattle.off_lease.specs.Calls.{message_calls}
use Rattle.off_query.specs.Calls.{query_calls}
use Rattle.off_tftp.specs.Calls.{datagram_calls, UnaskedWhereAgreed, RememberedWhereGoneOn, RememberedWhereBegun}
use Rattle.off_clerk_rules.specs.declared.faults.ClerkErr.{ClerkErr}
use Rattle.off_clerk_rules.specs.Commands.{command_read}
use Rattle.off_book.specs.Http.{is_full, heard_of}
use Rattle.off_outside.specs.KeeperSeen.{KeeperSeen}
use Rattle.off_outside.specs.KeeperCalls.{Spent}
use Rattle.off_accounts.specs.Deciding.{most_calls}
use Rattle.off_accounts.specs.Walking.{walking_calls}
use Rattle.off_tftp.specs.Keeping.{FewWhereKept, FewWhereBegun}
use Rattle.off_office.specs.Desk.{Desk}

-- at most so many calls, where there is a bound
abbrev pub SpentWithin : Option ℕ → KeeperSeen → KeeperSeen → Type 0
SpentWithin most old new = IfSome most (λ n. Spent n old new)

-- writes ask one call, their commit, and none where nothing is written
abbrev pub commit_calls : List Write → ℕ
commit_calls [] = 0
commit_calls (write ∷ writes) = 1

-- a command that shows a row commits nothing
abbrev pub most_commits : Command → ℕ
most_commits (PutHub number site) = 1
most_commits (PutSubscriber number subscriber) = 1
most_commits (PutAddOn owner number settings) = 1
most_commits (PutModem mac modem) = 1
most_commits (PutClass number class) = 1
most_commits (PutPool number pool hub) = 1
most_commits (PutDevicePool number pool) = 1
most_commits (Remove removed) = 1
most_commits (Show shown) = 0
most_commits (Import kind batch digest rows) = 1

-- a command is decided, and committed
abbrev pub command_calls : Command → Option ℕ
command_calls command = option_map (λ n. n + most_commits command) (most_calls command)

-- and so is one that walks over pools or leases, whose calls hang on the tables that are told
abbrev pub walked_calls : Command → Tables → Option ℕ
walked_calls command t = option_map (λ n. n + most_commits command) (walking_calls command t)

abbrev pub CommandWalks : Command → KeeperSeen → KeeperSeen → Type 0
CommandWalks command old new =
    (t : Tables) → old.tables t → SpentWithin (walked_calls command t) old new

-- a request that is at fault by itself asks nothing
abbrev pub request_calls : Result Command ClerkErr → Option ℕ
request_calls (Ok command) = command_calls command
request_calls (Err err) = Some 0

-- nor does one that hasn't come whole
abbrev pub meaning_calls : Meaning → Option ℕ
meaning_calls Waits = Some 0
meaning_calls (Refused fault) = Some 0
meaning_calls (Asked method target body) = request_calls (command_read method target body)

-- a piece asks nothing where its connection is one too many, and else what the bytes so far say
abbrev pub PieceAsks : Bool → List ℕ → KeeperSeen → KeeperSeen → Type 0
PieceAsks true bytes old new = Spent 0 old new
PieceAsks false bytes old new =
    (meaning : Meaning) → RequestIs bytes meaning → SpentWithin (meaning_calls meaning) old new

-- A message that says by itself that it's no device's asks what deciding it does, and one call for
-- the commit. Each other one that by the tables is no device's asks one call more, which tells
-- that. None asks more than a device's may, which is seven, whatever the tables.
pub record MessageAsks (m : Received) (old new : KeeperSeen) : Type 0 where
  pub own : is_own m ≡ true → Spent (message_calls m + 1) old new
  pub others : (t : Tables) → old.tables t → modem_behind t m ≡ None →
      Spent (message_calls m + 2) old new
  pub any : Spent device_calls old new

-- what is no message asks nothing
abbrev pub ReadAsks : Result Received DhcpFault → KeeperSeen → KeeperSeen → Type 0
ReadAsks (Ok m) old new = MessageAsks m old new
ReadAsks (Err fault) old new = Spent 0 old new

-- a query asks what answering it does
abbrev pub DhcpAsks : Option (List ℕ) → Result Received DhcpFault → KeeperSeen → KeeperSeen → Type 0
DhcpAsks (Some query) read old new = Spent (query_calls query) old new
DhcpAsks None read old new = ReadAsks read old new

abbrev pub Asks : What → Held → KeeperSeen → KeeperSeen → Type 0
Asks (Datagram Dhcp from bytes) held old new =
    DhcpAsks (query_of bytes) (message_of bytes) old new
Asks (Datagram Time from bytes) held old new = Spent 0 old new
Asks (Datagram Tftp from bytes) held old new =
    Spent (datagram_calls held.transfers from bytes) old new
Asks (Piece conn piece) held old new =
    PieceAsks (is_full held.connections conn) (heard_of held conn ++ piece) old new
Asks (Closed conn) held old new = Spent 0 old new
Asks Tick held old new = Spent 0 old new
Asks End held old new = Spent 0 old new

-- A read request whose modem's body is kept asks three calls at most: where the tables are told, by
-- the lease of the address, which says whose it is; and whatever the tables, where a transfer has
-- begun with it. An acknowledgement asks nothing where it's remembered that the tables agree with its
-- transfer. Where a transfer went on, or began, that is remembered afterwards: so the next
-- acknowledgement asks nothing, unless a write, another address or the end of the lease came between.
pub record FewCalls (from : Peer) (bytes : List ℕ) (before after : Desk)
    (old new : KeeperSeen) : Type 0 where
  pub owner : FewWhereKept from.ip before.kept old new
  pub begun : FewWhereBegun from bytes after.held.transfers before.kept old new
  pub agreed : UnaskedWhereAgreed before.held.now from bytes before.held.transfers
      before.agreements old new
  pub remembered : RememberedWhereGoneOn before.held.now from before.held.transfers
      after.held.transfers after.agreements
  pub remembered_begun : RememberedWhereBegun before.held.now from bytes before.held.transfers
      after.held.transfers after.agreements

abbrev pub AsksFew : What → Desk → Desk → KeeperSeen → KeeperSeen → Type 0
AsksFew (Datagram Tftp from bytes) before after old new = FewCalls from bytes before after old new
AsksFew (Datagram Dhcp from bytes) before after old new = Unit {0}
AsksFew (Datagram Time from bytes) before after old new = Unit {0}
AsksFew (Piece conn piece) before after old new = Unit {0}
AsksFew (Closed conn) before after old new = Unit {0}
AsksFew Tick before after old new = Unit {0}
AsksFew End before after old new = Unit {0}
