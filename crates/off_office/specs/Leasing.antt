-- What comes of a datagram to the DHCP port.
use Rattle.std.specs.Prelude.{◌≡◌, ◌⊎◌, ℕ, List, codes, Option, Some, None, Result, MatchResult}
use Rattle.off_dhcp.specs.Datagram.{Received}
use Rattle.off_dhcp.specs.declared.faults.DhcpFault.{DhcpFault}
use Rattle.off_defs.specs.declared.writes.Write.{Write}
use Rattle.off_defs.specs.Told.{Told}
use Rattle.off_defs.specs.State.{Tables, Said}
use Rattle.off_defs.specs.Tables.{write_all}
use Rattle.off_defs.specs.declared.results.Outcome.{Outcome}
use Rattle.off_defs.specs.declared.results.Outcome.TheVariants as end
use Rattle.off_lease_rules.specs.declared.results.LeaseStep.{LeaseStep}
use Rattle.off_lease_rules.specs.Steps.{step_of, lease_step}
use Rattle.off_lease_rules.specs.declared.words.DhcpWord.{DhcpWord}
use Rattle.off_cpe_rules.specs.declared.results.DeviceStep.{DeviceStep}
use Rattle.off_cpe_rules.specs.declared.words.DeviceWord.{DeviceWord}
use Rattle.off_book.specs.Dhcp.{dhcp_said, dhcp_line, device_read, device_said, device_line}
use Rattle.off_outside.specs.declared.keeper.KeepErr.{KeepErr}
use Rattle.off_outside.specs.declared.keeper.KeepErr.TheVariants as keep
use Rattle.off_outside.specs.KeeperSeen.{KeeperSeen}
use Rattle.off_outside.specs.KeeperCalls.{IsWritten, Settled, NotCommitted}
use Rattle.off_office.specs.Desk.{Desk}
use Rattle.off_office.specs.Conditions.{Mirrors, Follows, any_tables}
use Rattle.off_sessions.specs.Answers.{failed_said}
use Rattle.off_office.specs.Querying.{ServesQuery}

-- what is said and written of a device's message, and of each other one
abbrev pub IsSaid : Tables → ℕ → Result Received DhcpFault → Said → List Write → Option DeviceStep
    → Type 0
IsSaid t now read said commit (Some step) = (said ≡ device_said step) × (commit ≡ step.writes)
IsSaid t now read said commit None =
    (said ≡ dhcp_said (step_of t now read)) × (commit ≡ (step_of t now read).writes)

abbrev pub writes_by : Tables → ℕ → Result Received DhcpFault → Option DeviceStep → List Write
writes_by t now read (Some step) = step.writes
writes_by t now read None = (step_of t now read).writes

-- the line of a modem's message, or of a device's
abbrev pub HasWord : List ℕ → Type 0
HasWord line =
    ((word : DhcpWord) × (line ≡ dhcp_line word))
    ⊎ ((word : DeviceWord) × (line ≡ device_line word))

-- what was read of it is done and said at a moment, as the book has it where the office mirrors the
-- tables
pub record DidMessage (read : Result Received DhcpFault) (before after : Desk) (said : Said)
    (old new : KeeperSeen) : Type 0 where
  pub commit : List Write
  pub tables : Told old.tables new.tables (λ t u.
      IsWritten commit t u × (Mirrors before t → IsSaid t before.held.now read said commit
      (device_read t before.held.now read)))
  pub follows : Follows old.tables before after before.counts commit
  pub settled : Settled commit old new
  -- its line has a word of the service, whatever the tables
  pub says : HasWord said.line

-- the tables that it would leave
abbrev pub MessageBegins : Result Received DhcpFault → Desk → Tables → Tables → Type 0
MessageBegins read desk t u =
    Mirrors desk t
    → u ≡ write_all t (writes_by t desk.held.now read (device_read t desk.held.now read))

-- it isn't, and the tables are as before
abbrev pub ServesMessage : Result (Unit {0}) KeepErr → Result Received DhcpFault → Desk → Desk
    → Said → KeeperSeen → KeeperSeen → Type 0
ServesMessage result read before after said old new =
    MatchResult result (λ _. DidMessage read before after said old new)
    (λ err. NotCommitted (MessageBegins read before) err old new)

-- a datagram is a relay's query, or it's taken as a client's message
abbrev pub ServesDatagram : Option (List ℕ) → Result (Unit {0}) KeepErr → Result Received DhcpFault
    → Desk → Desk → Said → KeeperSeen → KeeperSeen → Type 0
ServesDatagram (Some query) result read before after said old new =
    ServesQuery result query before after said old new
ServesDatagram None result read before after said old new =
    ServesMessage result read before after said old new

-- what a step says is in hand, and what it writes is committed
pub record DidStep (step : LeaseStep) (before after : Desk) (said : Said) (old new : KeeperSeen)
    : Type 0 where
  pub said_is : said ≡ dhcp_said step
  pub follows : Follows any_tables before after before.counts step.writes
  pub settled : Settled step.writes old new

-- what a modem's message is, whose step was decided of these tables
pub record DidModem (m : Received) (before after : Desk) (said : Said) (old new : KeeperSeen)
    : Type 0 where
  pub step : LeaseStep
  pub is : (t : Tables) → old.tables t → Mirrors before t → step ≡ lease_step t before.held.now m
  pub did : DidStep step before after said old new

abbrev pub ModemBegins : Received → Desk → Tables → Tables → Type 0
ModemBegins m desk t u = Mirrors desk t → u ≡ write_all t (lease_step t desk.held.now m).writes

abbrev pub ServesModem : Result (Unit {0}) KeepErr → Received → Desk → Desk → Said → KeeperSeen
    → KeeperSeen → Type 0
ServesModem result m before after said old new =
    MatchResult result (λ _. DidModem m before after said old new)
    (λ err. NotCommitted (ModemBegins m before) err old new)

-- likewise of a device's message, where the tables are told
pub record DidDevice (step : DeviceStep) (before after : Desk) (said : Said) (old new : KeeperSeen)
    : Type 0 where
  pub said_is : said ≡ device_said step
  pub follows : Follows old.tables before after before.counts step.writes
  pub settled : Settled step.writes old new

-- why a message couldn't be acted on is said
abbrev pub FailsMessage : KeepErr → Outcome → Said → Type 0
FailsMessage keep.Memory outcome said =
    (outcome ≡ end.Memory) × (said ≡ failed_said (codes "dhcp memory"))
FailsMessage keep.Failed outcome said =
    (outcome ≡ end.Keeper) × (said ≡ failed_said (codes "dhcp keeper"))
