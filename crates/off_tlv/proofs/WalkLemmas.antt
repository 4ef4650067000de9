-- A setting at a place of the bytes: short, or whole.
use Rattle.std.proofs.Common.{◌≡◌, ℕ, ◌+◌, ◌-◌, ◌^◌, ◌<◌, ◌≤◌, List, [], ◌∷◌, ◌++◌, length, get_or, take, drop, sym, ap, subst, ◌∙◌, arith, length-drop, length-take, take-append-drop}
use Rattle.std.proofs.lemmas.List.{drop_more, drop_all, drop-drop}
use Rattle.off_tlv.specs.Fault.{IsShort}
use Rattle.off_tlv.specs.Walk.{TakesAt}

-- two bytes and what follows them
two_more : (bytes : List ℕ) (place : ℕ) → place + 2 ≤ length bytes → drop place bytes ≡ get_or bytes place 0 ∷ get_or bytes (place + 1) 0 ∷ drop (place + 2) bytes
two_more bytes place h =
    let next : drop (place + 1) bytes ≡ get_or bytes (place + 1) 0 ∷ drop (place + 1 + 1) bytes = drop_more bytes (place + 1) 0 (omega arith) in
    let two : place + 1 + 1 ≡ place + 2 = omega arith in
    drop_more bytes place 0 (omega arith) ∙ ap (λ (x : List ℕ). get_or bytes place 0 ∷ x) (next ∙ ap (λ (n : ℕ). get_or bytes (place + 1) 0 ∷ drop n bytes) two)

pub short_code : (bytes : List ℕ) (place : ℕ) → place + 1 ≡ length bytes → IsShort (drop place bytes)
short_code bytes place h =
    let one : drop place bytes ≡ get_or bytes place 0 ∷ [] =
    drop_more bytes place 0 (omega arith) ∙ ap (λ (x : List ℕ). get_or bytes place 0 ∷ x) (drop_all (place + 1) bytes (omega arith)) in
    subst IsShort (sym one) tt

pub short_value : (bytes : List ℕ) (place n : ℕ) → place + 2 ≤ length bytes → n ≡ get_or bytes (place + 1) 0 → length bytes - (place + 2) < n → IsShort (drop place bytes)
short_value bytes place n h is short =
    subst IsShort (sym (two_more bytes place h)) (omega (arith, length-drop (place + 2) bytes))

pub whole_value : (bytes : List ℕ) (place n m : ℕ) → place + 2 ≤ length bytes → n ≡ get_or bytes (place + 1) 0 → n ≤ length bytes - (place + 2)
    → m ≡ n → n < 2 ^ 8 → TakesAt bytes place (take m (drop (place + 2) bytes))
whole_value bytes place n m h is fits e small =
    let value : List ℕ = take m (drop (place + 2) bytes) in
    let long : length (take m (drop (place + 2) bytes)) ≡ m = length-take m (drop (place + 2) bytes) ∙ omega (arith, length-drop (place + 2) bytes) in
    let both : take m (drop (place + 2) bytes) ++ drop (place + 2 + m) bytes ≡ drop (place + 2) bytes =
    ap (λ (x : List ℕ). take m (drop (place + 2) bytes) ++ x) (sym (drop-drop m (place + 2) bytes)) ∙ take-append-drop m (drop (place + 2) bytes) in
    let same : get_or bytes (place + 1) 0 ≡ m = omega arith in
    record {
      spelled = rw long (two_more bytes place h ∙ ap (λ (x : ℕ). get_or bytes place 0 ∷ x ∷ drop (place + 2) bytes) same ∙ ap (λ (x : List ℕ). get_or bytes place 0 ∷ m ∷ x) (sym both));
      fits = omega (arith, long);
      byte = omega (arith, long);
    }
