-- The vectors of RFC 2202 against the definition of the keyed digest, and the order of the termination system's digest.
use Rattle.std.proofs.Common.{◌≡◌, [], ◌∷◌, replicate, codes, refl}
use Rattle.md5.specs.Md5.{block_words, rounds, compress, hash_after, digest_bytes, md5}
use Rattle.off_base.specs.Tree.{leaf}
use Rattle.off_mic.specs.Hmac.{hmac}
use Rattle.off_mic.specs.Mic.{digest_text}

jefe : hmac (codes "Jefe") (codes "what do ya want for nothing?") ≡ 117 ∷ 12 ∷ 120 ∷ 62 ∷ 106 ∷ 176 ∷ 181 ∷ 3 ∷ 234 ∷ 168 ∷ 110 ∷ 49 ∷ 10 ∷ 93 ∷ 183 ∷ 56 ∷ []
unfolding block_words rounds compress hash_after digest_bytes md5 hmac
jefe = refl

long_key : hmac (replicate 80 170) (codes "Test Using Larger Than Block-Size Key - Hash Key First")
    ≡ 107 ∷ 26 ∷ 183 ∷ 254 ∷ 75 ∷ 215 ∷ 191 ∷ 143 ∷ 11 ∷ 98 ∷ 230 ∷ 206 ∷ 97 ∷ 185 ∷ 208 ∷ 205 ∷ []
unfolding block_words rounds compress hash_after digest_bytes md5 hmac
long_key = refl

-- setting 17 is taken before setting 6, and setting 11 isn't taken
order : digest_text (leaf 6 (9 ∷ []) ∷ leaf 11 (0 ∷ []) ∷ leaf 17 [] ∷ leaf 3 (1 ∷ []) ∷ []) ≡ 3 ∷ 1 ∷ 1 ∷ 17 ∷ 0 ∷ 6 ∷ 1 ∷ 9 ∷ []
unfolding digest_text
order = refl
