-- What is sent again of those so far.
use Rattle.std.proofs.Common.{◌≡◌, take}
use Rattle.std.specs.List.{flat_map}
use Rattle.off_transfer_rules.specs.Ticks.{tick_items}
use Rattle.off_tftp.specs.Ticking.{says_items}
use Rattle.off_tftp.proofs.ticking.due_packets.Given as goal

abbrev pub invariant-loop-place : goal.invariant-loop-place
invariant-loop-place l = l.packets ≡ says_items (flat_map (tick_items l.now.0) (take l.place l.entries.items))
