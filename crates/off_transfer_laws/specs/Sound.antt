-- What holds of each transfer from its read request to its end, so that a block's number fits in
-- two bytes and its size in a datagram.
use Rattle.std.specs.Prelude.{◌≡◌, ℕ, zero, suc, ◌*◌, ◌≤◌, false, List, length, Some}
use Rattle.std.specs.FinMap as map
use Rattle.off_base.specs.declared.addresses.Peer.{Peer}
use Rattle.off_defs.specs.declared.results.Sent.{Sent}
use Rattle.off_defs.specs.State.{Tables, Transfer}
use Rattle.off_file_rules.specs.File.{most_file_bytes}
use Rattle.off_transfer_rules.specs.Requests.{Datagram}
use Rattle.off_transfer_rules.specs.Transfers.{Transfers}
use Rattle.off_transfer_rules.specs.Steps.{Given, TftpStep}
use Rattle.off_transfer_rules.specs.Ticks.{TickStep}
use Rattle.off_transfer_rules.specs.declared.ticks.Ticked.{Ticked}

-- a block begins within the file, or at its end
abbrev pub BeginsWithin : List ℕ → ℕ → ℕ → Type 0
BeginsWithin file size zero = Unit {0}
BeginsWithin file size (suc before) = before * size ≤ length file

-- its last block begins within its file; and before anything was acknowledged nothing but its
-- first packet was sent
pub record IsSound (x : Transfer) : Type 0 where
  pub short : length x.file ≤ most_file_bytes
  pub least_size : 8 ≤ x.size
  pub most_size : x.size ≤ 1428
  pub within : BeginsWithin x.file x.size x.sent
  pub few_resends : x.resends ≤ 5
  pub first_only : x.is_acknowledged ≡ false → x.sent ≤ 1

abbrev pub AllSound : Transfers → Type 0
AllSound transfers = (peer : Peer) (x : Transfer) → map.get transfers peer ≡ Some x → IsSound x

abbrev pub StepKeepsSound : Type 0
StepKeepsSound =
    (tables : Tables) (transfers : Transfers) (datagram : Datagram) (given : Given)
    → TftpStep tables transfers datagram given → AllSound transfers
    → AllSound given.transfers

abbrev pub TickKeepsSound : Type 0
TickKeepsSound =
    (now : ℕ) (old new : Transfers) (items : List Sent) (ticked : Ticked)
    → TickStep now old new items ticked → AllSound old → AllSound new

abbrev pub NumbersFit : Type 0
NumbersFit = (x : Transfer) → IsSound x → x.sent ≤ 776
