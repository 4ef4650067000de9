-- Loops over settings, one setting on.
use Rattle.std.proofs.Common.{◌≡◌, ℕ, ◌+◌, List, [], ◌∷◌, ◌++◌, map, take, sym, ap, refl, ◌∙◌, append_assoc, append-nil, Some}
use Rattle.std.specs.List.{slice_get}
use Rattle.std.proofs.lemmas.List.{map-append}
use Rattle.std.proofs.lemmas.List.Concat.{flat_map-append}
use Rattle.off_base.specs.Tree.{Tree, row_of, followed}
use Rattle.off_base.proofs.TreeLemmas.{taken}
use Rattle.off_file_rules.specs.Profile.{raised, raised_part, raised_parts, all_raised}

-- a setting is copied
pub copied_more : (old out new xs : List Tree) (i : ℕ) (x made : Tree) → slice_get xs i ≡ Some x → out ≡ old ++ take i xs → made ≡ x → new ≡ out ++ made ∷ [] → new ≡ old ++ take (i + 1) xs
copied_more old out new xs i x made e so is n =
    n ∙ ap (λ (y : List Tree). y ++ made ∷ []) so ∙ append_assoc old (take i xs) (made ∷ []) ∙ ap (λ (y : Tree). old ++ (take i xs ++ y ∷ [])) is
    ∙ ap (λ (y : List Tree). old ++ y) (sym (taken xs i x e))

-- one is made of it
pub made_more : (f : Tree → Tree) (old out new xs : List Tree) (i : ℕ) (x made : Tree) → slice_get xs i ≡ Some x → out ≡ old ++ map f (take i xs) → made ≡ f x → new ≡ out ++ made ∷ []
    → new ≡ old ++ map f (take (i + 1) xs)
made_more f old out new xs i x made e so is n =
    n ∙ ap (λ (y : List Tree). y ++ made ∷ []) so ∙ append_assoc old (map f (take i xs)) (made ∷ []) ∙ ap (λ (y : Tree). old ++ (map f (take i xs) ++ y ∷ [])) is
    ∙ ap (λ (y : List Tree). old ++ y) (sym (ap (map f) (taken xs i x e) ∙ map-append f (take i xs) (x ∷ [])))

-- the settings of an add-on are appended
pub raised_more : (old out new : List Tree) (xs : List (ℕ × List Tree)) (i : ℕ) (x : ℕ × List Tree) → slice_get xs i ≡ Some x → out ≡ old ++ all_raised (take i xs)
    → new ≡ out ++ map (raised x.0) x.1 → new ≡ old ++ all_raised (take (i + 1) xs)
raised_more old out new xs i x e so n =
    let more : all_raised (take (i + 1) xs) ≡ all_raised (take i xs) ++ map (raised x.0) x.1 =
    ap all_raised (taken xs i x e) ∙ flat_map-append (λ (y : ℕ × List Tree). map (raised y.0) y.1) (take i xs) (x ∷ []) ∙ ap (λ (y : List Tree). all_raised (take i xs) ++ y) (append-nil (map (raised x.0) x.1)) in
    n ∙ ap (λ (y : List Tree). y ++ map (raised x.0) x.1) so ∙ append_assoc old (all_raised (take i xs)) (map (raised x.0) x.1) ∙ ap (λ (y : List Tree). old ++ y) (sym more)

-- the parts of a group, raised as a list and as a row
pub raised_row : (k code : ℕ) (parts : List Tree) → row_of (map (raised_part k code) parts) ≡ raised_parts k code (row_of parts)
raised_row k code [] = refl
raised_row k code (t ∷ ts) = ap (followed (raised_part k code t)) (raised_row k code ts)
