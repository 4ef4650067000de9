-- How a device gets its address, each stage by itself: what it sends, what the office must have for
-- it, and how it's answered.
use Rattle.std.specs.Prelude.{◌≡◌, ◌⊎◌, ℕ, ◌<◌, ◌≤◌, IsTrue, [], ◌∷◌, replicate, Some, codes}
use Rattle.off_base.specs.declared.addresses.Ip4.{Ip4}
use Rattle.off_defs.specs.declared.results.Sent.{Sent}
use Rattle.off_defs.specs.declared.tables.Site.{Site}
use Rattle.off_defs.specs.declared.tables.Pool.{Pool}
use Rattle.off_defs.specs.declared.tables.DeviceHold.{DeviceHold}
use Rattle.off_defs.specs.declared.tables.DeviceHold.TheVariants.{Offered, Bound}
use Rattle.off_defs.specs.declared.tables.DeviceLease.{DeviceLease}
use Rattle.off_defs.specs.Clock.{later_by}
use Rattle.off_defs.specs.State.{Tables, State}
use Rattle.off_dhcp.specs.Datagram.{Received}
use Rattle.off_account_rules.specs.Rows.{device_in, has_address}
use Rattle.off_account_rules.specs.Good.{Good}
use Rattle.off_table_laws.specs.Laws.{device_owner_in}
use Rattle.off_asking.specs.Asking.{client, claimed, named_server}
use Rattle.off_asking.specs.Sending.{offer_named, reply_to}
use Rattle.off_asking.specs.declared.forms.Named.TheVariants.{Absent, At}
use Rattle.off_book.specs.Step.{Step}
use Rattle.off_book.specs.Run.{Turn, effect_of, sent_in}
use Rattle.off_laws.specs.Leases.{TakesMessage, moment_of}
use Rattle.off_boot_laws.specs.Went.{GoesWell}
use Rattle.off_cpe_boot_laws.specs.Known.{IsOfDevice, IsBelowLimit}

-- a lease that ends at a moment
abbrev pub device_until : DeviceHold → ℕ → DeviceLease
device_until hold expiry = record { hold = hold; expiry = record { 0 = expiry } }

-- an OFFER or an ACK of an address. A device has no boot file, so its name is all zeros
abbrev pub reply_of : ℕ → Received → Site → Pool → Ip4 → Sent
reply_of kind m site pool address =
    reply_to m (offer_named kind site pool (replicate 32 0) address)

-- ---- it discovers: the pool has an address that is its own behind the modem, or that is free,
-- which has no lease or one that has ended
abbrev pub IsFreeForAny : Tables → ℕ → Ip4 → Type 0
IsFreeForAny tables now address =
    (lease : DeviceLease) → device_in tables address ≡ Some lease → lease.expiry.0 ≤ now

pub record DeviceDiscovers (s : State) (m : Received) (turn : Turn) : Type 0 where
  pub takes : TakesMessage m turn
  pub kind : m.kind ≡ 1
  pub known : IsOfDevice s.tables (moment_of s turn) m
  pub below : IsBelowLimit s.tables (moment_of s turn) m known
  pub address : Ip4
  pub within : IsTrue (has_address known.pool address)
  pub opens : (device_owner_in s.tables address ≡ Some (known.modem, client m))
      ⊎ IsFreeForAny s.tables (moment_of s turn) address

-- and is offered an address of that pool, the one that is its own where that lies there; it's its
-- own for two minutes, or bound to it already
pub record IsOfferedAddress (s : State) (m : Received) (turn : Turn)
    (known : IsOfDevice s.tables (moment_of s turn) m) (after : State) : Type 0 where
  pub address : Ip4
  pub expiry : ℕ
  pub within : IsTrue (has_address known.pool address)
  pub own : (held : Ip4) → device_owner_in s.tables held ≡ Some (known.modem, client m)
      → IsTrue (has_address known.pool held) → address ≡ held
  pub line : turn.said.line ≡ codes "dhcp cpe-offer"
  pub sent : sent_in turn ≡ reply_of 2 m known.site known.pool address ∷ []
  pub lasts : ((expiry ≡ later_by 120 (moment_of s turn))
      × (device_in after.tables address
      ≡ Some (device_until (Offered known.modem (client m)) expiry)))
      ⊎ ((moment_of s turn < expiry)
      × (device_in after.tables address
      ≡ Some (device_until (Bound known.modem (client m)) expiry)))

abbrev pub DevicesAreOffered : Type 0
DevicesAreOffered =
    (s after : State) (turn : Turn) (m : Received) → Good s.tables
    → Step s turn.event turn.outcome (effect_of turn after) → GoesWell turn
    → (d : DeviceDiscovers s m turn) → IsOfferedAddress s m turn d.known after

-- ---- it requests an address of the pool, in any of the forms, and of this server or none
pub record DeviceRequests (s : State) (m : Received) (turn : Turn) (address : Ip4) : Type 0 where
  pub takes : TakesMessage m turn
  pub kind : m.kind ≡ 3
  pub known : IsOfDevice s.tables (moment_of s turn) m
  pub server : (named_server m ≡ Absent) ⊎ (named_server m ≡ At known.site.server)
  pub claim : claimed m ≡ Some address
  pub within : IsTrue (has_address known.pool address)

-- and is told that the address is its own for as long as the leases of the modem's hub last
pub record IsGrantedAddress (s : State) (m : Received) (turn : Turn) (address : Ip4)
    (known : IsOfDevice s.tables (moment_of s turn) m) (after : State) : Type 0 where
  pub line : turn.said.line ≡ codes "dhcp cpe-ack"
  pub sent : sent_in turn ≡ reply_of 5 m known.site known.pool address ∷ []
  pub bound : device_in after.tables address
      ≡ Some (device_until (Bound known.modem (client m))
      (later_by known.site.lease (moment_of s turn)))

-- where it's its own, and fewer others have addresses than may have
abbrev pub DevicesAreAcknowledged : Type 0
DevicesAreAcknowledged =
    (s after : State) (turn : Turn) (m : Received) (address : Ip4) → Good s.tables
    → Step s turn.event turn.outcome (effect_of turn after) → GoesWell turn
    → (r : DeviceRequests s m turn address)
    → IsBelowLimit s.tables (moment_of s turn) m r.known
    → device_owner_in s.tables address ≡ Some (r.known.modem, client m)
    → IsGrantedAddress s m turn address r.known after
