-- What comes from a peer: a datagram, the read request that may stand in it, and whose file that
-- opens.
use Rattle.std.specs.Prelude.{ℕ, List}
use Rattle.off_base.specs.declared.addresses.Peer.{Peer}
use Rattle.off_base.specs.declared.macs.Mac.{Mac}
use Rattle.off_packets.specs.declared.packets.Options.{Options}

-- from whom it came, and when, and its bytes
pub record Datagram : Type 0 where
  pub from : Peer
  pub at : ℕ
  pub bytes : List ℕ

abbrev pub datagram_at : ℕ → Peer → List ℕ → Datagram
datagram_at at from bytes = record { from = from; at = at; bytes = bytes }

-- the name of a file, and the options with which it's asked for
pub record ReadRequest : Type 0 where
  pub name : List ℕ
  pub options : Options

abbrev pub request_for : List ℕ → Options → ReadRequest
request_for name options = record { name = name; options = options }

-- whose file it is: a modem's, and its subscriber's
pub record FileOwner : Type 0 where
  pub modem : Mac
  pub subscriber : ℕ

abbrev pub file_owner : Mac → ℕ → FileOwner
file_owner modem subscriber = record { modem = modem; subscriber = subscriber }
