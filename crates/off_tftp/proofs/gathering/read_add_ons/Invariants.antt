-- The add-ons of the numbers so far are read.
use Rattle.std.proofs.Common.{◌≡◌, take}
use Rattle.std.specs.List.{filter_map}
use Rattle.off_defs.specs.Bounds.{add_on_numbers}
use Rattle.off_file_rules.specs.Profile.{numbered_add_on}
use Rattle.off_outside.specs.KeeperCalls.{Reads, Spent}
use Rattle.off_tftp.proofs.gathering.read_add_ons.Given as goal

abbrev pub invariant-loop-number : goal.invariant-loop-number
invariant-loop-number g l =
    Reads (λ t. l.add_ons ≡ filter_map (numbered_add_on t l.subscriber) (take l.number add_on_numbers)) (g.K.Keeper.seen l.fn.keeper) (g.K.Keeper.seen l.keeper)
    × Spent l.number (g.K.Keeper.seen l.fn.keeper) (g.K.Keeper.seen l.keeper)
