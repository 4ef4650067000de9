-- Arrays of settings, element by element.
use Rattle.std.proofs.Common.{◌≡◌, ℕ, zero, suc, ◌+◌, List, [], ◌∷◌, ◌++◌, length, take, map, codes, decimal, refl, sym, ap, ◌∙◌, arith, append_assoc, Some}
use Rattle.std.specs.List.{slice_get, join_with_byte}
use Rattle.off_base.specs.Tree.{Tree, group, row_of}
use Rattle.off_base.proofs.TreeLemmas.{taken}
use Rattle.off_clerk.specs.Commas.{comma_before}
use Rattle.off_clerk_rules.specs.Replies.{tree_text, part_texts, array_text, settings_text}

pub part_texts-row_of : (ts : List Tree) → part_texts (row_of ts) ≡ map tree_text ts
part_texts-row_of [] = refl
part_texts-row_of (t ∷ ts) = ap (λ (x : List (List ℕ)). tree_text t ∷ x) (part_texts-row_of ts)

comma_later : (n : ℕ) → comma_before (suc n) ≡ codes ","
comma_later n = grind arith

-- an element behind the others, with a comma between
join_last : (ts : List Tree) (t : Tree) → join_with_byte 44 (map tree_text (ts ++ t ∷ [])) ≡ join_with_byte 44 (map tree_text ts) ++ (comma_before (length ts) ++ tree_text t)
join_last [] t = refl
join_last (u ∷ []) t = refl
join_last (u ∷ v ∷ ts) t =
    ap (λ (x : List ℕ). tree_text u ++ 44 ∷ x) (join_last (v ∷ ts) t)
    ∙ ap (λ (x : List ℕ). tree_text u ++ 44 ∷ (join_with_byte 44 (map tree_text (v ∷ ts)) ++ (x ++ tree_text t))) (comma_later (length ts) ∙ sym (comma_later (suc (length ts))))
    ∙ sym (append_assoc (tree_text u) (44 ∷ join_with_byte 44 (map tree_text (v ∷ ts))) (comma_before (length (u ∷ v ∷ ts)) ++ tree_text t))

length_taken : (ts : List Tree) (i : ℕ) (t : Tree) → slice_get ts i ≡ Some t → length (take i ts) ≡ i
length_taken [] i t e = cc
length_taken (u ∷ ts) zero t e = refl
length_taken (u ∷ ts) (suc i) t e = ap suc (length_taken ts i t e)

-- one turn of the loop
pub element_more : (ts : List Tree) (i : ℕ) (t : Tree) (first old between new : List ℕ) → slice_get ts i ≡ Some t
    → old ≡ first ++ join_with_byte 44 (map tree_text (take i ts)) → between ≡ old ++ comma_before i → new ≡ between ++ tree_text t
    → new ≡ first ++ join_with_byte 44 (map tree_text (take (i + 1) ts))
element_more ts i t first old between new e o b n =
    let before = join_with_byte 44 (map tree_text (take i ts)) in
    n ∙ ap (λ (x : List ℕ). x ++ tree_text t) (b ∙ ap (λ (x : List ℕ). x ++ comma_before i) o)
    ∙ append_assoc (first ++ before) (comma_before i) (tree_text t)
    ∙ append_assoc first before (comma_before i ++ tree_text t)
    ∙ ap (λ (x : ℕ). first ++ (before ++ (comma_before x ++ tree_text t))) (sym (length_taken ts i t e))
    ∙ ap (λ (x : List ℕ). first ++ x) (sym (join_last (take i ts) t))
    ∙ ap (λ (x : List Tree). first ++ join_with_byte 44 (map tree_text x)) (sym (taken ts i t e))

pub group_text : (code : ℕ) (parts : List Tree) (t : Tree) → t ≡ group code (row_of parts)
    → tree_text t ≡ codes "{\"code\":" ++ decimal code ++ codes ",\"parts\":" ++ settings_text parts ++ codes "}"
group_text code parts t is =
    ap tree_text is ∙ ap (λ (x : List (List ℕ)). codes "{\"code\":" ++ decimal code ++ codes ",\"parts\":" ++ array_text x ++ codes "}") (part_texts-row_of parts)
