-- From where a transfer comes that a datagram leaves: it was there before, for the same file, or
-- the datagram is its read request. And when the next block goes.
use Rattle.std.specs.Prelude.{◌≡◌, suc, false, Some, Ok}
use Rattle.std.specs.FinMap as map
use Rattle.off_base.specs.declared.addresses.Peer.{Peer}
use Rattle.off_defs.specs.State.{Tables, Transfer}
use Rattle.off_file_rules.specs.File.{IsFile}
use Rattle.off_packets.specs.Packets.{Acknowledges, packet_of}
use Rattle.off_transfer_rules.specs.Requests.{Datagram, file_owner}
use Rattle.off_transfer_rules.specs.Transfers.{Transfers, is_at_last, gone_on}
use Rattle.off_transfer_rules.specs.Steps.{Given, gives, with_transfer, last_to, TftpStep}
use Rattle.off_transfer_rules.specs.declared.words.TftpWord.TheVariants as word
use Rattle.off_transfer_laws.specs.Agreement.{Agreement}

-- what a transfer never changes
pub record SameServed (x y : Transfer) : Type 0 where
  pub names : y.name ≡ x.name
  pub modems : y.modem ≡ x.modem
  pub owners : y.subscriber ≡ x.subscriber
  pub files : y.file ≡ x.file
  pub sizes : y.size ≡ x.size
  pub requests : y.request ≡ x.request

-- it was accepted just now: the tables agree with it, and its file is the modem's
pub record IsNew (tables : Tables) (datagram : Datagram) (x : Transfer) : Type 0 where
  pub agreed : Agreement tables datagram.at datagram.from.ip x.name
      (file_owner x.modem x.subscriber)
  pub own_file : IsFile tables x.modem datagram.at datagram.from.ip x.file
  pub request : x.request ≡ datagram.bytes
  pub unacknowledged : x.is_acknowledged ≡ false
  pub sent_now : x.last_send ≡ datagram.at
  pub resends : x.resends ≡ 0

pub data Origin (tables : Tables) (transfers : Transfers) (datagram : Datagram)
    (peer : Peer) (y : Transfer) : Type 0 where
  stood : (x : Transfer) → map.get transfers peer ≡ Some x → SameServed x y
      → Origin tables transfers datagram peer y
  began : peer ≡ datagram.from → IsNew tables datagram y
      → Origin tables transfers datagram peer y

abbrev pub EachHasAnOrigin : Type 0
EachHasAnOrigin =
    (tables : Tables) (transfers : Transfers) (datagram : Datagram) (given : Given)
    → TftpStep tables transfers datagram given
    → (peer : Peer) (y : Transfer) → map.get given.transfers peer ≡ Some y
    → Origin tables transfers datagram peer y

-- where the packet that was sent last is acknowledged, isn't the last of the file, and the tables
-- agree, the next block is sent
abbrev pub NextBlockGoes : Type 0
NextBlockGoes =
    (tables : Tables) (transfers : Transfers) (datagram : Datagram) (given : Given) (x : Transfer)
    → map.get transfers datagram.from ≡ Some x
    → packet_of datagram.bytes ≡ Ok (Acknowledges x.sent)
    → is_at_last x ≡ false
    → Agreement tables datagram.at datagram.from.ip x.name (file_owner x.modem x.subscriber)
    → TftpStep tables transfers datagram given
    → given
    ≡ gives (with_transfer transfers datagram.from (gone_on datagram.at x))
    (last_to datagram.from (gone_on datagram.at x)) (word.Block (suc x.sent))
