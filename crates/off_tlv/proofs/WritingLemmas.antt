-- Spelling settings one by one.
use Rattle.std.proofs.Common.{◌≡◌, ℕ, zero, suc, ◌+◌, ◌-◌, ◌<◌, ◌≤◌, min, List, [], ◌∷◌, ◌++◌, length, take, sym, ap, subst, ◌∙◌, arith, append_assoc, length-append, Option, Some, None, MatchOption}
use Rattle.std.specs.List.{slice_get}
use Rattle.off_base.specs.Number.{greatest_u64}
use Rattle.off_base.specs.Tree.{Tree, group, row_of, spelled, spelled_row, spelling, Fits, RowFits, AllFit}
use Rattle.off_base.proofs.TreeLemmas.{spelled_row-row_of, RowFits-row_of, taken}
use Rattle.off_tlv.specs.Front.{BeginsWith}
use Rattle.off_tlv.proofs.FrontLemmas.{spelling-push}

pub fits_at : (ts : List Tree) (i : ℕ) (t : Tree) → slice_get ts i ≡ Some t → AllFit ts → Fits t
fits_at [] i t e fits = cc
fits_at (u ∷ ts) zero t e fits = let same : u ≡ t = cc in subst Fits same fits.0
fits_at (u ∷ ts) (suc i) t e fits = fits_at ts i t e fits.1

fit_push : (ts : List Tree) (t : Tree) → AllFit ts → Fits t → AllFit (ts ++ t ∷ [])
fit_push [] t fits one = (one, tt)
fit_push (u ∷ ts) t fits one = (fits.0, fit_push ts t fits.1 one)

pub fits_more : (ts : List Tree) (i : ℕ) (t : Tree) → slice_get ts i ≡ Some t → AllFit (take i ts) → Fits t → AllFit (take (i + 1) ts)
fits_more ts i t e fits one = subst AllFit (sym (taken ts i t e)) (fit_push (take i ts) t fits one)

pub spelled_more : (ts : List Tree) (i : ℕ) (t : Tree) → slice_get ts i ≡ Some t → spelling (take (i + 1) ts) ≡ spelling (take i ts) ++ spelled t
spelled_more ts i t e = ap spelling (taken ts i t e) ∙ spelling-push (take i ts) t

pub length_more : (ts : List Tree) (i n : ℕ) (t : Tree) → slice_get ts i ≡ Some t → length (spelled t) ≡ 2 + n → length (spelling (take (i + 1) ts)) ≡ length (spelling (take i ts)) + (2 + n)
length_more ts i n t e long = ap length (spelled_more ts i t e) ∙ length-append (spelling (take i ts)) (spelled t) ∙ omega (arith, long)

parts_fit : (ts : List Tree) → RowFits (row_of ts) → AllFit ts
parts_fit [] fits = tt
parts_fit (t ∷ ts) fits = (fits.0, parts_fit ts fits.1)

pub group_parts_fit : (code : ℕ) (parts : List Tree) → Fits (group code (row_of parts)) → AllFit parts × (length (spelling parts) ≤ 255)
group_parts_fit code parts fits = (parts_fit parts fits.1, omega (arith, fits.0, ap length (spelled_row-row_of parts)))

pub group_fits : (code n : ℕ) (parts : List Tree) → AllFit parts → n ≡ min (length (spelling parts)) greatest_u64 → n ≤ 255
    → Fits (group code (row_of parts)) × (n ≤ 255) × (length (spelled (group code (row_of parts))) ≡ 2 + n)
group_fits code n parts fits is small =
    let same : length (spelled_row (row_of parts)) ≡ length (spelling parts) = ap length (spelled_row-row_of parts) in
    ((omega arith, RowFits-row_of parts fits), small, omega arith)

pub group_unfit : (code n : ℕ) (parts : List Tree) → n ≡ min (length (spelling parts)) greatest_u64 → 255 < n → Fits (group code (row_of parts)) → ⊥
group_unfit code n parts is large fits = omega (arith, (group_parts_fit code parts fits).1)

pub group_spelling : (code : ℕ) (parts : List Tree) → spelled (group code (row_of parts)) ≡ code ∷ length (spelling parts) ∷ spelling parts
group_spelling code parts = ap (λ (x : List ℕ). code ∷ length x ∷ x) (spelled_row-row_of parts)

pub begins_on : (old out new : List ℕ) (front : List ℕ) → out ≡ old ++ front → BeginsWith out new → BeginsWith old new
begins_on old out new front e b = (front ++ b.0, b.1 ∙ ap (λ (x : List ℕ). x ++ b.0) e ∙ append_assoc old front b.0)

-- the same of a setting of the code, which is a group
module _ (code : ℕ) (parts : List Tree) (t : Tree) (is : t ≡ group code (row_of parts)) where
  pub parts_of_fit : Fits t → AllFit parts × (length (spelling parts) ≤ 255)
  parts_of_fit fits = group_parts_fit code parts (subst Fits is fits)

  pub spelled_group : spelled t ≡ code ∷ length (spelling parts) ∷ spelling parts
  spelled_group = ap spelled is ∙ group_spelling code parts

  -- what is answered for a group's value, by the number of bytes of its parts
  pub group_answers : (n : ℕ) (result : Option ℕ) → AllFit parts × (n ≡ min (length (spelling parts)) greatest_u64) → MatchOption result (255 < n) (λ m. (m ≡ n) × (m ≤ 255))
      → MatchOption result (Fits t → ⊥) (λ m. Fits t × (m ≤ 255) × (length (spelled t) ≡ 2 + m))
  group_answers n None known r = λ fits. group_unfit code n parts known.1 r (subst Fits is fits)
  group_answers n (Some m) known r =
      let found = group_fits code m parts known.0 (r.0 ∙ known.1) r.1 in
      (subst Fits (sym is) found.0, found.1, ap (λ (x : Tree). length (spelled x)) is ∙ found.2)

  -- its code, its length and its parts are appended
  pub group_pushed : (old head new : List ℕ) (n : ℕ) → n ≡ length (spelling parts) → head ≡ old ++ code ∷ n ∷ [] → new ≡ head ++ spelling parts → new ≡ old ++ spelled t
  group_pushed old head new n long h e =
      e ∙ ap (λ (x : List ℕ). x ++ spelling parts) h ∙ append_assoc old (code ∷ n ∷ []) (spelling parts)
      ∙ ap (λ (x : ℕ). old ++ code ∷ x ∷ spelling parts) long ∙ ap (λ (x : List ℕ). old ++ x) (sym spelled_group)

pub sum_more : (old n m long new : ℕ) → old ≡ min m greatest_u64 → new ≡ min (old + (2 + n)) greatest_u64 → long ≡ m + (2 + n) → new ≡ min long greatest_u64
sum_more old n m long new a b e = omega arith
