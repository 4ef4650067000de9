-- Those so far are forgotten.
use Rattle.std.proofs.Common.{◌≡◌, ℕ, ◌<◌, None, length, get_or}
use Rattle.off_tftp.proofs.agreements.forget_all.Given as goal

abbrev pub invariant-loop-slot : goal.invariant-loop-slot
invariant-loop-slot l = record {
  none : (k : ℕ) → k < l.slot-index → get_or l.slot-items k None ≡ None;
  len : length l.slot-items ≡ length l.fn.slots.items;
}
