-- What is sent for a message: to the relay's server port, or to the client's own port (RFC 2131
-- section 4.1).
use Rattle.std.specs.Prelude.{ℕ, ◌==◌, List, if◌then◌else◌}
use Rattle.off_base.specs.declared.addresses.Ip4.{Ip4}
use Rattle.off_base.specs.declared.addresses.Peer.{Peer}
use Rattle.off_defs.specs.declared.events.Service.TheVariants as service
use Rattle.off_defs.specs.declared.tables.Site.{Site}
use Rattle.off_defs.specs.declared.tables.Pool.{Pool}
use Rattle.off_defs.specs.declared.results.Sent.{Sent}
use Rattle.off_defs.specs.declared.results.Sent.TheVariants as sent
use Rattle.off_dhcp.specs.declared.offers.Offer.{Offer}
use Rattle.off_dhcp.specs.Datagram.{Received}
use Rattle.off_dhcp.specs.Reply.{nak_bytes, reply_bytes}
use Rattle.off_asking.specs.Asking.{ip}

abbrev pub peer_at : Ip4 → ℕ → Peer
peer_at address port = record { ip = address; port = port }

abbrev pub destination : Received → Ip4 → Peer
destination m direct = if m.giaddr == 0 then peer_at direct 68 else peer_at (ip m.giaddr) 67

abbrev pub nak_to : Received → Site → Sent
nak_to m site =
    sent.Datagram service.Dhcp (destination m (ip 0xffffffff)) (nak_bytes m site.server.0)

-- what an address is offered or bound with, and the name of the client's boot file
abbrev pub offer_named : ℕ → Site → Pool → List ℕ → Ip4 → Offer
offer_named kind site pool name address =
    record { kind = kind; yiaddr = address; site = site; pool = pool; name = name }

-- without a relay it is an ACK, since no pool serves a DISCOVER then
abbrev pub reply_to : Received → Offer → Sent
reply_to m offer = sent.Datagram service.Dhcp (destination m (ip m.ciaddr)) (reply_bytes m offer)
