-- The writes so far are taken, and there is room for those ahead.
use Rattle.std.proofs.Common.{◌≡◌, ◌-◌, length, take, vec_len}
use Rattle.off_defs.specs.State.{Tables}
use Rattle.off_defs.specs.Tables.{write_all}
use Rattle.off_account_rules.specs.Rows.{devices}
use Rattle.off_behind.specs.Buckets.{Indexes}
use Rattle.off_behind.specs.Changes.{olds_of, HasRoomFor}
use Rattle.off_behind.proofs.writing.take_writes.Given as goal

abbrev pub invariant-loop-place : goal.invariant-loop-place
invariant-loop-place l = record {
  len : vec_len l.buckets ≡ 16384;
  stands : (t : Tables) → l.olds.items ≡ olds_of t l.writes → Indexes l.fn.buckets.items (devices t) → Indexes l.buckets.items (devices (write_all t (take l.place l.writes)));
  room : HasRoomFor (length l.writes - l.place) l.writes l.buckets.items;
}
