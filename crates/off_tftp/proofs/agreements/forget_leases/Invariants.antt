-- The leases so far have ended what stood in their slots.
use Rattle.std.proofs.Common.{◌≡◌, length, take}
use Rattle.off_tftp.specs.Agreements.{without_rows}
use Rattle.off_tftp.proofs.agreements.forget_leases.Given as goal

abbrev pub invariant-loop-place : goal.invariant-loop-place
invariant-loop-place l = record {
  rows : l.slots.items ≡ without_rows (take l.place l.writes) l.fn.slots.items;
  len : length l.slots.items ≡ 512;
  end : l.place-end ≡ length l.writes;
}
