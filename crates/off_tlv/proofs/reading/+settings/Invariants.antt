use Rattle.std.proofs.Common.{◌≡◌, length, ◌-◌, ◌≤◌, ◌*◌, ◌+◌, ◌++◌, drop}
use Rattle.off_base.specs.Tree.{spelling}
use Rattle.off_tlv.specs.Grammar.{AllStand}
use Rattle.off_tlv.specs.Front.{IsSpelled}
use Rattle.off_tlv.specs.Seen.{level_of}
use Rattle.off_tlv.proofs.reading.+settings.Given as goal

abbrev pub decreases-setting_of : goal.decreases-setting_of
decreases-setting_of l = 2 * length l.value.now + 1

abbrev pub decreases-settings_of : goal.decreases-settings_of
decreases-settings_of l = 2 * length l.bytes.now

abbrev pub invariant-settings_of-loop-place : goal.invariant-settings_of-loop-place
invariant-settings_of-loop-place l =
    AllStand (level_of l.level) l.settings × (l.bytes ≡ spelling l.settings ++ drop l.place l.bytes) × (l.place ≤ length l.bytes) × IsSpelled (level_of l.level) (drop l.place l.bytes)

abbrev pub decreases-settings_of-loop-place : goal.decreases-settings_of-loop-place
decreases-settings_of-loop-place l = length l.bytes - l.place
