-- Worked examples of the heights of lists of bytes.
use Rattle.std.proofs.Common.{◌≡◌, ◌<◌, ◌+◌, ◌*◌, [], ◌∷◌, refl, arith}
use Rattle.off_defs.specs.declared.keys.Key.TheVariants as key
use Rattle.off_rows.specs.KeyBytes.{key_bytes}
use Rattle.off_readers.specs.Walks.{height}

-- a list that goes on is above one that ends, also by a 0
shortest : height 2 [] ≡ 0
unfolding height
shortest = refl

one_byte : height 2 (3 ∷ []) ≡ 4 * 257
unfolding height
one_byte = refl

two_bytes : height 2 (3 ∷ 0 ∷ []) ≡ 4 * 257 + 1
unfolding height
two_bytes = refl

-- of a pool and a lease
pool_below_lease : height 9 (key_bytes (key.Pool 4294967295)) < height 9 (key_bytes (key.Lease (record { 0 = 0 })))
unfolding height
pool_below_lease = omega arith
