-- The buckets so far have no lease of the address; those ahead are as they were.
use Rattle.std.proofs.Common.{◌≡◌, ◌<◌, ◌≤◌, ℕ, length, vec_len}
use Rattle.off_behind.specs.Buckets.{bucket_at, room_at}
use Rattle.off_behind.specs.Changes.{without_address}
use Rattle.off_behind.proofs.writing.forget_everywhere.Given as goal

abbrev pub invariant-loop-place : goal.invariant-loop-place
invariant-loop-place l = record {
  len : vec_len l.buckets ≡ 16384;
  behind : (p : ℕ) → p < l.place → bucket_at l.buckets.items p ≡ without_address l.address (bucket_at l.fn.buckets.items p);
  ahead : (p : ℕ) → l.place ≤ p → bucket_at l.buckets.items p ≡ bucket_at l.fn.buckets.items p;
  few : (p : ℕ) → length (bucket_at l.buckets.items p) ≤ length (bucket_at l.fn.buckets.items p);
  rooms : (p : ℕ) → room_at l.fn.buckets.items p ≤ room_at l.buckets.items p;
}
