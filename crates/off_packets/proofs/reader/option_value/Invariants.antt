-- No option of the name stands before what is left.
use Rattle.std.proofs.Common.{◌≡◌, length}
use Rattle.off_packets.specs.Packets.{value_of, ended_texts}
use Rattle.off_packets.proofs.reader.option_value.Given as goal

abbrev pub invariant-options : goal.invariant-options
invariant-options l = value_of l.name (ended_texts l.left) ≡ value_of l.name (ended_texts l.options)

abbrev pub decreases-options : goal.decreases-options
decreases-options l = length l.left
