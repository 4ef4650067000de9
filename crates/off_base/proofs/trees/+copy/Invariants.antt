use Rattle.std.proofs.Common.{◌≡◌, take, map}
use Rattle.off_base.specs.Setting.{tree_of}
use Rattle.off_base.proofs.trees.+copy.Given as goal

abbrev pub invariant-Settings::copy-loop-setting : goal.invariant-Settings::copy-loop-setting
invariant-Settings::copy-loop-setting l = l.copy ≡ map tree_of (take l.setting-index l.setting-items)
