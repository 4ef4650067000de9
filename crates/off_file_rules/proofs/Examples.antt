-- Worked examples, evaluated: the definitions say what was meant.
use Rattle.std.proofs.Common.{◌≡◌, true, false, [], ◌∷◌, refl, codes}
use Rattle.md5.specs.Md5.{block_words, rounds, compress, hash_after, digest_bytes, md5}
use Rattle.hex.proofs.OnLiterals.{hex_on_literals}
use Rattle.off_base.specs.Tree.{leaf, group, no_more, followed, spelling}
use Rattle.off_mic.specs.Hmac.{hmac}
use Rattle.off_file_rules.specs.Name.{name_of}
use Rattle.off_file_rules.specs.Profile.{profile_of}
use Rattle.off_file_rules.specs.File.{with_stamps}
use Rattle.off_file_rules.specs.Block.{block}

-- the name of modem 02aabbccddee at 10.64.0.10 under the secret `secret`, as another program's HMAC gives it
name : name_of (codes "secret") (record { 0 = 2 ∷ 0xaa ∷ 0xbb ∷ 0xcc ∷ 0xdd ∷ 0xee ∷ [] }) (record { 0 = 0x0a40000a }) ≡ codes "02aabbccddee-82d91cd0f5ff2dc7.cm"
unfolding block_words rounds compress hash_after digest_bytes md5 hmac name_of hex_on_literals
name = refl

-- An active subscriber with two devices and no add-on, whose class has a flow of each direction, stamped in November 2023
profile : spelling
    (with_stamps
    (profile_of true 2
    (group 24 (followed (leaf 1 (0 ∷ 1 ∷ [])) (followed (leaf 6 (7 ∷ [])) no_more)) ∷ group 25 (followed (leaf 1 (0 ∷ 2 ∷ [])) (followed (leaf 6 (7 ∷ [])) no_more)) ∷ []) [])
    1700000000 (record { 0 = 0x0a40000a }))
    ≡ 3 ∷ 1 ∷ 1 ∷ 24 ∷ 7 ∷ 1 ∷ 2 ∷ 0 ∷ 1 ∷ 6 ∷ 1 ∷ 7 ∷ 25 ∷ 7 ∷ 1 ∷ 2 ∷ 0 ∷ 2 ∷ 6 ∷ 1 ∷ 7 ∷ 18 ∷ 1 ∷ 2 ∷ 19 ∷ 4 ∷ 0xe8 ∷ 0xfe ∷ 0x6f ∷ 0x80 ∷ 20 ∷ 4 ∷ 0x0a ∷ 0x40 ∷ 0 ∷ 0x0a ∷ []
profile = refl

-- behind setting 18 stands add-on 0 with a flow 5 and a classifier 3 of that flow: they are 261 and 131 here
with_add_on : spelling
    (profile_of true 2 []
    ((
      0,
      group 24 (followed (leaf 1 (0 ∷ 5 ∷ [])) (followed (leaf 6 (7 ∷ [])) no_more)) ∷ group 22 (followed (leaf 1 (3 ∷ [])) (followed (leaf 3 (0 ∷ 5 ∷ [])) no_more)) ∷ [],
    )
    ∷ []
    ))
    ≡ 3 ∷ 1 ∷ 1 ∷ 18 ∷ 1 ∷ 2 ∷ 24 ∷ 7 ∷ 1 ∷ 2 ∷ 1 ∷ 5 ∷ 6 ∷ 1 ∷ 7 ∷ 22 ∷ 7 ∷ 1 ∷ 1 ∷ 0x83 ∷ 3 ∷ 2 ∷ 1 ∷ 5 ∷ []
with_add_on = refl

-- a suspended subscriber has neither class nor add-ons
suspended : spelling (profile_of false 2 (leaf 29 (1 ∷ []) ∷ []) []) ≡ 3 ∷ 1 ∷ 0 ∷ 24 ∷ 7 ∷ 1 ∷ 2 ∷ 0 ∷ 1 ∷ 6 ∷ 1 ∷ 7 ∷ 25 ∷ 7 ∷ 1 ∷ 2 ∷ 0 ∷ 2 ∷ 6 ∷ 1 ∷ 7 ∷ 18 ∷ 1 ∷ 2 ∷ []
suspended = refl

-- five bytes in blocks of two: the third has one
second : block (1 ∷ 2 ∷ 3 ∷ 4 ∷ 5 ∷ []) 2 2 ≡ 3 ∷ 4 ∷ []
second = refl

third : block (1 ∷ 2 ∷ 3 ∷ 4 ∷ 5 ∷ []) 2 3 ≡ 5 ∷ []
third = refl

-- four bytes in blocks of two: the third is empty
empty : block (1 ∷ 2 ∷ 3 ∷ 4 ∷ []) 2 3 ≡ []
empty = refl
