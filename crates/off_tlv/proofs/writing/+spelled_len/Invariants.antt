use Rattle.std.proofs.Common.{◌≡◌, ◌+◌, ◌*◌, ◌-◌, min, length, take}
use Rattle.off_base.specs.Number.{greatest_u64}
use Rattle.off_base.specs.Tree.{spelling, AllFit, tree_size, trees_size}
use Rattle.off_base.specs.Setting.{tree_of}
use Rattle.off_tlv.proofs.writing.+spelled_len.Given as goal

abbrev pub decreases-spelled_len : goal.decreases-spelled_len
decreases-spelled_len l = 2 * trees_size l.settings.now + 1

abbrev pub decreases-value_len : goal.decreases-value_len
decreases-value_len l = 2 * tree_size (tree_of l.setting.now)

abbrev pub invariant-spelled_len-loop-place : goal.invariant-spelled_len-loop-place
invariant-spelled_len-loop-place l = AllFit (take l.place l.settings) × (l.sum ≡ min (length (spelling (take l.place l.settings))) greatest_u64)
