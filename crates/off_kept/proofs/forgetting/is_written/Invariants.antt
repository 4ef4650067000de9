use Rattle.std.proofs.Common.{◌≡◌, false, length, take}
use Rattle.std.specs.List.{list_any}
use Rattle.off_kept.specs.Entries.{stands_in}
use Rattle.off_defs.specs.Tables.{key_written}
use Rattle.off_kept.proofs.forgetting.is_written.Given as goal

abbrev pub invariant-loop-i : goal.invariant-loop-i
invariant-loop-i l = (list_any (λ write. stands_in (key_written write) (l.modem, l.kept)) (take l.i l.writes) ≡ false) × (l.i-end ≡ length l.writes)
