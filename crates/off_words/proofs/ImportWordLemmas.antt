-- The words of `import`.
use Rattle.std.proofs.Common.{◌≡◌, ℕ, true, cond, List, [], ◌∷◌, get_or, length, Option, None, refl, sym, ap, ◌∙◌, arith}
use Rattle.off_base.specs.Number.{number_read, greatest_u64}
use Rattle.off_defs.specs.declared.tables.ImportKind.{ImportKind}
use Rattle.off_book.specs.Words.{import_of, import_by, kind_of}
use Rattle.off_words.specs.Reading.{import_flags_stand}

-- the words of `import` have five places
pub import_of_short : (words : List (List ℕ)) → (length words ≡ 5 → ⊥) → import_of words ≡ None
unfolding import_of
import_of_short [] other = refl
import_of_short (a ∷ []) other = refl
import_of_short (a ∷ b ∷ []) other = refl
import_of_short (a ∷ b ∷ c ∷ []) other = refl
import_of_short (a ∷ b ∷ c ∷ d ∷ []) other = refl
import_of_short (a ∷ b ∷ c ∷ d ∷ e ∷ []) other = absurd (other refl)
import_of_short (a ∷ b ∷ c ∷ d ∷ e ∷ f ∷ rest) other = refl

pub import_of_five : (words : List (List ℕ)) → length words ≡ 5
    → import_of words ≡ cond (import_flags_stand words) (import_by (get_or words 2 []) (kind_of (get_or words 3 [])) (number_read greatest_u64 (get_or words 4 []))) None
unfolding import_of
import_of_five [] five = absurd (omega arith)
import_of_five (a ∷ []) five = absurd (omega arith)
import_of_five (a ∷ b ∷ []) five = absurd (omega arith)
import_of_five (a ∷ b ∷ c ∷ []) five = absurd (omega arith)
import_of_five (a ∷ b ∷ c ∷ d ∷ []) five = absurd (omega arith)
import_of_five (a ∷ b ∷ c ∷ d ∷ e ∷ []) five = refl
import_of_five (a ∷ b ∷ c ∷ d ∷ e ∷ f ∷ rest) five = absurd (omega arith)

-- what each part of the words comes to, from their texts
pub record Read (words : List (List ℕ)) (store : List ℕ) (kind : Option ImportKind) (batch : Option ℕ) : Type 0 where
  pub five : length words ≡ 5
  pub flags : import_flags_stand words ≡ true
  pub store_is : get_or words 2 [] ≡ store
  pub kind_is : kind ≡ kind_of (get_or words 3 [])
  pub batch_is : batch ≡ number_read greatest_u64 (get_or words 4 [])

pub import_of_read : {words : List (List ℕ)} {store : List ℕ} {kind : Option ImportKind} {batch : Option ℕ} → Read words store kind batch → import_of words ≡ import_by store kind batch
import_of_read {words} {store} {kind} {batch} read =
    import_of_five words read.five
    ∙ (ap (λ b. cond b (import_by (get_or words 2 []) (kind_of (get_or words 3 [])) (number_read greatest_u64 (get_or words 4 []))) None) read.flags
    ∙ (ap (λ s. import_by s (kind_of (get_or words 3 [])) (number_read greatest_u64 (get_or words 4 []))) read.store_is
    ∙ (ap (λ k. import_by store k (number_read greatest_u64 (get_or words 4 []))) (sym read.kind_is)
    ∙ ap (λ n. import_by store kind n) (sym read.batch_is))))
