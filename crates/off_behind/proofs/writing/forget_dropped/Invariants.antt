-- The buckets so far have no lease that is dropped; those ahead are as they were.
use Rattle.std.proofs.Common.{◌≡◌, ◌<◌, ◌≤◌, ℕ, vec_len}
use Rattle.off_behind.specs.Buckets.{bucket_at}
use Rattle.off_behind.specs.Drops.{without_dropped}
use Rattle.off_behind.proofs.writing.forget_dropped.Given as goal

abbrev pub invariant-loop-place : goal.invariant-loop-place
invariant-loop-place l = record {
  len : vec_len l.buckets ≡ 16384;
  behind : (p : ℕ) → p < l.place → bucket_at l.buckets.items p ≡ without_dropped l.writes l.ends (bucket_at l.fn.buckets.items p);
  ahead : (p : ℕ) → l.place ≤ p → bucket_at l.buckets.items p ≡ bucket_at l.fn.buckets.items p;
}
