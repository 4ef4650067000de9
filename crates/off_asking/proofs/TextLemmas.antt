-- Whether a text stands at a place of a value, byte by byte.
use Rattle.std.proofs.Common.{◌≡◌, ℕ, ◌+◌, ◌<◌, ◌≤◌, true, false, List, length, take, drop, get_or, sym, ap, ◌∙◌, arith, length-drop}
use Rattle.std.specs.Str.{bytes_eq}
use Rattle.std.proofs.lemmas.Bool.{false_from_ne_true}
use Rattle.std.proofs.lemmas.List.{get_or-take, get_or-drop, take_more_same, take_all}
use Rattle.std.proofs.lemmas.Slice.Eq.{bytes_eq-Decides}

pub one_more : (value text : List ℕ) (at i : ℕ) → i < length text → at + length text ≤ length value → take i (drop at value) ≡ take i text
    → get_or value (at + i) 0 ≡ get_or text i 0 → take (i + 1) (drop at value) ≡ take (i + 1) text
one_more value text at i within there so_far same =
    let behind = length-drop at value in
    take_more_same (drop at value) text i 0 (omega arith) within so_far (get_or-drop at value i 0 ∙ same)

pub one_differs : (value text : List ℕ) (at i : ℕ) → i < length text → (get_or value (at + i) 0 ≡ get_or text i 0 → ⊥)
    → bytes_eq (take (length text) (drop at value)) text ≡ false
one_differs value text at i within differs =
    false_from_ne_true (bytes_eq (take (length text) (drop at value)) text) (λ same.
    let all : take (length text) (drop at value) ≡ text = (bytes_eq-Decides (take (length text) (drop at value)) text).0 same in
    differs (sym (get_or-drop at value i 0) ∙ sym (get_or-take (length text) (drop at value) i 0 within) ∙ ap (λ (xs : List ℕ). get_or xs i 0) all))

pub all_same : (value text : List ℕ) (at : ℕ) → take (length text) (drop at value) ≡ take (length text) text
    → bytes_eq (take (length text) (drop at value)) text ≡ true
all_same value text at same =
    (bytes_eq-Decides (take (length text) (drop at value)) text).1 (same ∙ take_all (length text) text (omega arith))
