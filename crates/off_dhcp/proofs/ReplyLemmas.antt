-- Option 82 piece by piece.
use Rattle.std.proofs.Common.{◌≡◌, ℕ, zero, suc, ◌+◌, true, false, List, [], ◌∷◌, ◌++◌, ◌≤◌, length, take, Option, Some, None, refl, sym, ap, ◌∙◌, arith, add-zero, append_assoc}
use Rattle.std.specs.Prelude.{is_some}
use Rattle.std.specs.List.{flat_map, range_with_len}
use Rattle.std.proofs.lemmas.List.{append-nil, take_all}
use Rattle.std.proofs.lemmas.Grind.{flat_map-append}
use Rattle.off_base.specs.Parts.{bytes_of}
use Rattle.off_dhcp.specs.Reply.{relayed, relay_options, option, piece, pieces}

range_more : (a n : ℕ) → range_with_len a (suc n) ≡ range_with_len a n ++ (a + n) ∷ []
range_more a zero = ap (λ k. k ∷ []) (sym (add-zero a))
range_more a (suc n) =
    let next : a + 1 + n ≡ a + suc n = omega arith in
    ap (λ rest. a ∷ rest) (range_more (a + 1) n ∙ ap (λ k. range_with_len (a + 1) n ++ k ∷ []) next)

pub relayed_none : (value : List ℕ) → relayed value 0 ≡ []
relayed_none value = refl

pub relayed_more : (value : List ℕ) (k : ℕ) → relayed value (k + 1) ≡ relayed value k ++ option 82 (piece value k)
relayed_more value k =
    let one : k + 1 ≡ suc k = omega arith in
    let here : 0 + k ≡ k = omega arith in
    let f : ℕ → List ℕ = λ j. option 82 (piece value j) in
    ap (relayed value) one
    ∙ ap (flat_map f) (range_more 0 k ∙ ap (λ j. range_with_len 0 k ++ j ∷ []) here)
    ∙ flat_map-append f (range_with_len 0 k) (k ∷ [])
    ∙ ap (λ xs. flat_map f (range_with_len 0 k) ++ xs) (append-nil (f k))

pub relay_there : (o : Option (List ℕ)) → is_some o ≡ true → relay_options o ≡ relayed (bytes_of o) (pieces (length (bytes_of o)))
unfolding relay_options
relay_there (Some value) there = refl
relay_there None there = cc

pub relay_missing : (o : Option (List ℕ)) → is_some o ≡ false → relay_options o ≡ []
unfolding relay_options
relay_missing (Some value) missing = cc
relay_missing None missing = refl

pieces_one : (len : ℕ) → len ≤ 255 → pieces len ≡ 1
pieces_one len few = omega (arith, few)

-- a value that one option can have
pub relay_whole : (o : Option (List ℕ)) (value : List ℕ) → is_some o ≡ true → value ≡ bytes_of o → length value ≤ 255 → relay_options o ≡ option 82 value
relay_whole o value there is few =
    let short : length (bytes_of o) ≤ 255 = rw is at few in
    let one : relayed (bytes_of o) 1 ≡ option 82 (take 255 (bytes_of o)) = append-nil (option 82 (piece (bytes_of o) 0)) in
    relay_there o there
    ∙ ap (relayed (bytes_of o)) (pieces_one (length (bytes_of o)) short)
    ∙ one
    ∙ ap (option 82) (take_all 255 (bytes_of o) short ∙ sym is)

-- one more piece behind those so far
pub relay_step : (new out old value shown items : List ℕ) (k : ℕ) → new ≡ out ++ option 82 shown → shown ≡ items → items ≡ piece value k
    → out ≡ old ++ relayed value k → new ≡ old ++ relayed value (k + 1)
relay_step new out old value shown items k pushed is cut so_far =
    pushed ∙ rw (is, cut, so_far) (append_assoc old (relayed value k) (option 82 (piece value k))) ∙ ap (λ xs. old ++ xs) (sym (relayed_more value k))
