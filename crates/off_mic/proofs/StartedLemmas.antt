-- The termination system's order in two parts: the first codes, of which the settings behind have none, and the others.
use Rattle.std.proofs.Common.{◌≡◌, ℕ, List, [], ◌∷◌, ◌++◌, refl, sym, ap, ◌∙◌, append-nil}
use Rattle.std.proofs.lemmas.List.Concat.{flat_map-append}
use Rattle.off_base.specs.Tree.{Tree, spelled, spelling}
use Rattle.off_mic.specs.Mic.{of_code, text_of_codes, digest_text}
use Rattle.off_mic.specs.Started.{codes_first, codes_later, NoneFirst}
use Rattle.off_mic.proofs.SealLemmas.{of_code-append}

both_empty : (a b : List ℕ) → a ++ b ≡ [] → (a ≡ []) × (b ≡ [])
both_empty [] b e = (refl, e)
both_empty (x ∷ a) b e = cc

-- settings of none of the codes behind others add nothing
none_behind : (codes : List ℕ) (front back : List Tree) → text_of_codes codes back ≡ [] → text_of_codes codes (front ++ back) ≡ text_of_codes codes front
none_behind [] front back none = refl
none_behind (c ∷ codes) front back none =
    let both = both_empty (spelling (of_code c back)) (text_of_codes codes back) none in
    let one : spelling (of_code c (front ++ back)) ≡ spelling (of_code c front) =
    ap spelling (of_code-append c front back) ∙ flat_map-append spelled (of_code c front) (of_code c back)
    ∙ ap (λ (x : List ℕ). spelling (of_code c front) ++ x) both.0 ∙ append-nil (spelling (of_code c front)) in
    ap (λ (x : List ℕ). x ++ text_of_codes codes (front ++ back)) one ∙ ap (λ (x : List ℕ). spelling (of_code c front) ++ x) (none_behind codes front back both.1)

-- the first codes of the settings in front, then the others of all
pub digest_in_two : (front back : List Tree) → NoneFirst back → text_of_codes codes_first front ++ text_of_codes codes_later (front ++ back) ≡ digest_text (front ++ back)
unfolding digest_text
digest_in_two front back none =
    ap (λ (x : List ℕ). x ++ text_of_codes codes_later (front ++ back)) (sym (none_behind codes_first front back none))
    ∙ sym (flat_map-append (λ (code : ℕ). spelling (of_code code (front ++ back))) codes_first codes_later)
