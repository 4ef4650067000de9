-- The buckets so far have no leases.
use Rattle.std.proofs.Common.{◌≡◌, ℕ, [], vec_len}
use Rattle.off_behind.specs.Buckets.{bucket_at}
use Rattle.off_behind.proofs.buckets.empty.Given as goal

abbrev pub invariant-loop-place : goal.invariant-loop-place
invariant-loop-place l = record {
  len : vec_len l.buckets ≡ l._place;
  none : (place : ℕ) → bucket_at l.buckets.items place ≡ [];
}
