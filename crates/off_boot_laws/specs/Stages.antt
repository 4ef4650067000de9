-- The stages of a modem's boot, each by itself: what it sends, what the office must have for it,
-- and how it's answered.
use Rattle.std.specs.Prelude.{◌≡◌, ◌≢◌, ◌⊎◌, ℕ, ◌<◌, ◌≤◌, true, IsTrue, List, [], ◌∷◌, Some, None, Ok, codes, MatchOption}
use Rattle.std.specs.FinMap as map
use Rattle.off_base.specs.declared.addresses.Ip4.{Ip4}
use Rattle.off_base.specs.declared.addresses.Peer.{Peer}
use Rattle.off_base.specs.declared.macs.Mac.{Mac}
use Rattle.off_defs.specs.declared.events.Service.TheVariants.{Tftp}
use Rattle.off_defs.specs.declared.events.What.TheVariants.{Datagram}
use Rattle.off_defs.specs.declared.tables.Site.{Site}
use Rattle.off_defs.specs.declared.tables.Pool.{Pool}
use Rattle.off_defs.specs.declared.tables.Modem.{Modem}
use Rattle.off_defs.specs.declared.tables.Lease.{Lease}
use Rattle.off_defs.specs.declared.tables.DeviceLease.{DeviceLease}
use Rattle.off_defs.specs.declared.tables.Hold.TheVariants.{Offered}
use Rattle.off_defs.specs.Clock.{later_by}
use Rattle.off_defs.specs.State.{Tables, State}
use Rattle.off_dhcp.specs.Datagram.{Received, option_in}
use Rattle.off_account_rules.specs.Rows.{site_of, modem_in, lease_in, held_in, device_in, has_address}
use Rattle.off_account_rules.specs.Good.{Good}
use Rattle.off_table_laws.specs.Laws.{owner_in}
use Rattle.off_file_rules.specs.Name.{name_of}
use Rattle.off_asking.specs.Asking.{ip, client, claimed, named_server, relayed}
use Rattle.off_asking.specs.declared.forms.Named.TheVariants.{Absent, At}
use Rattle.off_cpe_rules.specs.Behind.{modem_for}
use Rattle.off_lease_rules.specs.Free.{pool_for, site_for}
use Rattle.off_lease_rules.specs.Steps.{offer_to}
use Rattle.off_lease_laws.specs.Effects.{lease_until, IsLiveBound}
use Rattle.off_packets.specs.Packets.{Reads, packet_of}
use Rattle.off_packets.specs.declared.packets.Options.{Options}
use Rattle.off_transfer_rules.specs.Transfers.{Transfers, size_for, first_number, packet_of_number}
use Rattle.off_book.specs.Step.{Step}
use Rattle.off_book.specs.Run.{Turn, Run, effect_of, sent_in}
use Rattle.off_laws.specs.Leases.{TakesMessage, IsBoundUntil, moment_of}
use Rattle.off_transfer_runs.specs.Turns.{packets_to}
use Rattle.off_transfer_runs.specs.Served.{IsAccepted, FileIsServed}
use Rattle.off_boot_laws.specs.Known.{IsOfModem}
use Rattle.off_boot_laws.specs.Went.{GoesWell}

-- ---- it discovers: the pool has an address that is its own, or that is free, which has no lease
-- or one that has ended
abbrev pub IsFree : Tables → ℕ → Ip4 → Type 0
IsFree tables now address =
    (lease : Lease) → lease_in tables address ≡ Some lease → lease.expiry.0 ≤ now

pub record Discovers (s : State) (m : Received) (turn : Turn) : Type 0 where
  pub takes : TakesMessage m turn
  pub kind : m.kind ≡ 1
  pub known : IsOfModem s.tables m
  pub told : option_in 60 m.options ≢ None
  pub address : Ip4
  pub within : IsTrue (has_address known.pool address)
  pub opens : (held_in s.tables (client m) ≡ Some address)
      ⊎ IsFree s.tables (moment_of s turn) address

-- and is offered an address of that pool, the one that it holds where that lies there; it's its own
-- for two minutes, or bound to it already
pub record IsOffered (s : State) (m : Received) (turn : Turn) (after : State) : Type 0 where
  pub site : Site
  pub pool : Pool
  pub address : Ip4
  pub lease : Lease
  pub site_is : site_for s.tables m ≡ Some site
  pub pool_is : pool_for s.tables m ≡ Some pool
  pub within : IsTrue (has_address pool address)
  pub own : (held : Ip4) → held_in s.tables (client m) ≡ Some held → IsTrue (has_address pool held)
      → address ≡ held
  pub line : turn.said.line ≡ codes "dhcp offer"
  pub sent : sent_in turn ≡ offer_to 2 m site pool address ∷ []
  pub owned : owner_in after.tables address ≡ Some (client m)
  pub lease_is : lease_in after.tables address ≡ Some lease
  pub lasts : (lease ≡ lease_until (Offered (client m)) (later_by 120 (moment_of s turn)))
      ⊎ IsLiveBound (moment_of s turn) (client m) (Some lease)

abbrev pub DiscoversAreOffered : Type 0
DiscoversAreOffered =
    (s after : State) (turn : Turn) (m : Received) → Good s.tables
    → Step s turn.event turn.outcome (effect_of turn after) → GoesWell turn → Discovers s m turn
    → IsOffered s m turn after

-- ---- it requests an address of its relay's pool, in any of the forms, and of this server or none.
-- Where no relay names it, and it has no address yet, it isn't taken for a device: that has no lease
-- of 0.0.0.0.
pub record Requests (s : State) (m : Received) (turn : Turn) (address : Ip4) : Type 0 where
  pub takes : TakesMessage m turn
  pub kind : m.kind ≡ 3
  pub known : IsOfModem s.tables m
  pub server : (named_server m ≡ Absent) ⊎ (named_server m ≡ At known.site.server)
  pub claim : claimed m ≡ Some address
  pub within : IsTrue (has_address known.pool address)
  pub unset : relayed m ≡ None → m.ciaddr ≡ 0 → (lease : DeviceLease)
      → device_in s.tables (ip 0) ≡ Some lease → modem_for (client m) lease ≡ None

-- and is told that the address is its own for as long as the leases of its hub last
pub record IsAcknowledged (s : State) (m : Received) (turn : Turn) (address : Ip4) (after : State)
    : Type 0 where
  pub site : Site
  pub pool : Pool
  pub site_is : site_for s.tables m ≡ Some site
  pub line : turn.said.line ≡ codes "dhcp ack"
  pub sent : sent_in turn ≡ offer_to 5 m site pool address ∷ []
  pub bound : IsBoundUntil (client m) address (later_by site.lease (moment_of s turn)) after

-- where it holds that address
abbrev pub RequestsAreAcknowledged : Type 0
RequestsAreAcknowledged =
    (s after : State) (turn : Turn) (m : Received) (address : Ip4) → Good s.tables
    → Step s turn.event turn.outcome (effect_of turn after) → GoesWell turn
    → Requests s m turn address → held_in s.tables (client m) ≡ Some address
    → IsAcknowledged s m turn address after

-- ---- it asks for its file by the name that it was told. Fewer than 256 transfers are live, or one
-- is its own; that one has had an acknowledgement, or another request began it
abbrev pub HasPlace : Transfers → Peer → List ℕ → Type 0
HasPlace transfers peer bytes =
    MatchOption (map.get transfers peer) (map.len transfers < 256)
    (λ x. (x.is_acknowledged ≡ true) ⊎ (x.request ≢ bytes))

pub record AsksForFile (s : State) (mac : Mac) (peer : Peer) (name : List ℕ) (asked : Options)
    (turn : Turn) : Type 0 where
  pub bytes : List ℕ
  pub site : Site
  pub modem : Modem
  pub event : turn.event.what ≡ Datagram Tftp peer bytes
  pub read : packet_of bytes ≡ Ok (Reads name asked)
  pub site_is : site_of s.tables peer.ip ≡ Some site
  pub modem_is : modem_in s.tables mac ≡ Some modem
  pub named : name ≡ name_of site.secret mac peer.ip
  pub place : HasPlace s.held.transfers peer bytes

-- and is given it, in blocks, of which the first packet goes at once
pub record IsGivenFile (s : State) (mac : Mac) (peer : Peer) (name : List ℕ) (asked : Options)
    (turn : Turn) (later : List Turn) : Type 0 where
  pub accepts : IsAccepted peer name asked turn
  pub served : FileIsServed s.tables (moment_of s turn) peer name asked turn later
  pub own : served.modem ≡ mac
  pub sent : packets_to peer (sent_in turn)
      ≡ packet_of_number asked served.file (size_for asked) (first_number asked) ∷ []

-- where the address from which it asks is bound to it
abbrev pub ReadsAreAccepted : Type 0
ReadsAreAccepted =
    (s last : State) (turn : Turn) (later : List Turn) (mac : Mac) (peer : Peer) (name : List ℕ)
    (asked : Options) (expiry : ℕ) → Good s.tables → Run s (turn ∷ later) last → GoesWell turn
    → AsksForFile s mac peer name asked turn
    → IsBoundUntil mac peer.ip expiry s → moment_of s turn < expiry
    → IsGivenFile s mac peer name asked turn later
