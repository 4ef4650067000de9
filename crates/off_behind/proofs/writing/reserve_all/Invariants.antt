-- No lease has changed, and there is room for the writes so far.
use Rattle.std.proofs.Common.{◌≡◌, ℕ, take, vec_len}
use Rattle.off_behind.specs.Buckets.{bucket_at}
use Rattle.off_behind.specs.Changes.{HasRoomFor}
use Rattle.off_behind.proofs.writing.reserve_all.Given as goal

abbrev pub invariant-loop-place : goal.invariant-loop-place
invariant-loop-place l = record {
  len : vec_len l.buckets ≡ 16384;
  same : (place : ℕ) → bucket_at l.buckets.items place ≡ bucket_at l.fn.buckets.items place;
  room : HasRoomFor l.more (take l.place l.writes) l.buckets.items;
}
