-- Numbers of settings: one setting on, for any way to read a number of a setting.
use Rattle.std.proofs.Common.{◌≡◌, ◌≢◌, ◌≤◌, replicate, true≢false, inl, inr, ℕ, zero, suc, ◌+◌, ◌<◌, Bool, true, false, cond, eqb, List, [], ◌∷◌, ◌++◌, length, get_or, take, drop, refl, sym, ap, subst, ◌∙◌, append-nil, arith, Option, Some, None}
use Rattle.std.specs.Prelude.{◌||◌}
use Rattle.std.specs.List.{slice_get, slice_set}
use Rattle.std.proofs.lemmas.List.{get_or-set_other, get_or-replicate}
use Rattle.std.proofs.lemmas.Grind.{get_or-set_at}
use Rattle.std.proofs.lemmas.Bool.{ne_eqb, eq-eqb, cases_Bool, eqb-true, or_right}
use Rattle.std.proofs.lemmas.List.Concat.{flat_map-append}
use Rattle.std.proofs.lemmas.Option.{slice_get-get_or}
use Rattle.off_base.specs.Tree.{Tree, leaf}
use Rattle.std.specs.Option.{option_or}
use Rattle.off_tree.specs.Fault.{contains, as_list, numbers, first_repeat}
use Rattle.off_tree.specs.Reference.{repeat_here, is_same, Marks}
use Rattle.off_base.proofs.TreeLemmas.{taken, dropped}

pub front_by : (b x y : Bool) → (b || x) ≡ true → (x ≡ true → y ≡ true) → (b || y) ≡ true
front_by true x y h f = refl
front_by false x y h f = f h

pub contains_front : (n : ℕ) (xs ys : List ℕ) → contains n xs ≡ true → contains n (xs ++ ys) ≡ true
contains_front n [] ys h = cc
contains_front n (x ∷ xs) ys h = front_by (eqb x n) (contains n xs) (contains n (xs ++ ys)) h (contains_front n xs ys)

pub contains_back : (n : ℕ) (xs ys : List ℕ) → contains n ys ≡ true → contains n (xs ++ ys) ≡ true
contains_back n [] ys h = h
contains_back n (x ∷ xs) ys h = or_right (eqb x n) (contains n (xs ++ ys)) (contains_back n xs ys h)

pub neither_by : (b x y : Bool) → (b || x) ≡ false → (x ≡ false → y ≡ false) → (b || y) ≡ false
neither_by true x y h f = h
neither_by false x y h f = f h

contains_neither : (n : ℕ) (xs ys : List ℕ) → contains n xs ≡ false → contains n ys ≡ false → contains n (xs ++ ys) ≡ false
contains_neither n [] ys h k = k
contains_neither n (x ∷ xs) ys h k = neither_by (eqb x n) (contains n xs) (contains n (xs ++ ys)) h (λ rest. contains_neither n xs ys rest k)

same_in : (n : ℕ) (o : Option ℕ) → is_same n o ≡ true → contains n (as_list o) ≡ true
same_in n None h = cc
same_in n (Some m) h = ap (λ (b : Bool). b || false) h

other_out : (n : ℕ) (o : Option ℕ) → is_same n o ≡ false → contains n (as_list o) ≡ false
other_out n None h = refl
other_out n (Some m) h = ap (λ (b : Bool). b || false) h

-- ---- marks

contains_apart : (n m : ℕ) (ns : List ℕ) → m ≢ n → contains n (ns ++ m ∷ []) ≡ contains n ns
contains_apart n m [] apart = ap (λ (b : Bool). b || false) (ne_eqb m n apart)
contains_apart n m (x ∷ ns) apart = ap (λ (b : Bool). eqb x n || b) (contains_apart n m ns apart)

pub marks_nothing : Marks (replicate 256 false) []
marks_nothing = λ n within. get_or-replicate 256 n false false within

-- a number that is too great to be marked
pub marks_far : (marks : List Bool) (ns : List ℕ) (m : ℕ) → 256 ≤ m → Marks marks ns → Marks marks (ns ++ m ∷ [])
marks_far marks ns m far had = λ n within. had n within ∙ sym (contains_apart n m ns (λ e. absurd (omega (arith, e))))

pub marks_one : (marks : List Bool) (ns : List ℕ) (m : ℕ) → length marks ≡ 256 → m < 256 → Marks marks ns → Marks (slice_set marks m true) (ns ++ m ∷ [])
marks_one marks ns m all near had = λ n within. elim (cases_Bool (eqb m n)) [
  | inl same ↦
      let e : m ≡ n = eqb-true m n same in
      get_or-set_at marks m n true false (sym e) (omega (arith, all)) ∙ sym (contains_back n ns (m ∷ []) (ap (λ (b : Bool). b || false) same))
  | inr other ↦
      let apart : m ≢ n = λ e. true≢false (sym (eq-eqb m n e) ∙ other) in
      get_or-set_other marks m n true false (λ e. apart (sym e)) ∙ had n within ∙ sym (contains_apart n m ns apart)
]

repeat_by : (before rest : List ℕ) (n : ℕ) (b : Bool) → cond b (Some n) (first_repeat (before ++ n ∷ []) rest) ≡ option_or (cond b (Some n) None) (first_repeat (before ++ n ∷ []) rest)
repeat_by before rest n true = refl
repeat_by before rest n false = refl

module _ (f : Tree → Option ℕ) where
  pub numbers_push : (ts : List Tree) (i : ℕ) (t : Tree) → slice_get ts i ≡ Some t → numbers f (take (i + 1) ts) ≡ numbers f (take i ts) ++ as_list (f t)
  numbers_push ts i t e =
      ap (numbers f) (taken ts i t e) ∙ flat_map-append (λ (x : Tree). as_list (f x)) (take i ts) (t ∷ []) ∙ ap (λ (x : List ℕ). numbers f (take i ts) ++ x) (append-nil (as_list (f t)))

  -- the number of one setting more is marked
  pub marks_push : (ts : List Tree) (i : ℕ) (t : Tree) (o : Option ℕ) (old new : List Bool) → slice_get ts i ≡ Some t → o ≡ f t → Marks old (numbers f (take i ts))
      → ((ns : List ℕ) → Marks old ns → Marks new (ns ++ as_list o)) → Marks new (numbers f (take (i + 1) ts))
  marks_push ts i t o old new e is had step =
      subst (λ (ns : List ℕ). Marks new ns) (ap (λ (x : Option ℕ). numbers f (take i ts) ++ as_list x) is ∙ sym (numbers_push ts i t e)) (step (numbers f (take i ts)) had)

  pub number_found : (ts : List Tree) (i end : ℕ) (t : Tree) (n : ℕ) → slice_get ts i ≡ Some t → i < end → is_same n (f t) ≡ true → contains n (numbers f (take end ts)) ≡ true
  number_found [] i end t n e lt is = cc
  number_found (u ∷ ts) i zero t n e lt is = absurd (omega arith)
  number_found (u ∷ ts) zero (suc end) t n e lt is =
      let same : u ≡ t = cc in
      contains_front n (as_list (f u)) (numbers f (take end ts)) (same_in n (f u) (ap (λ (x : Tree). is_same n (f x)) same ∙ is))
  number_found (u ∷ ts) (suc i) (suc end) t n e lt is = contains_back n (as_list (f u)) (numbers f (take end ts)) (number_found ts i end t n e (omega arith) is)

  pub number_more : (ts : List Tree) (i : ℕ) (t : Tree) (n : ℕ) → slice_get ts i ≡ Some t → contains n (numbers f (take i ts)) ≡ false → is_same n (f t) ≡ false
      → contains n (numbers f (take (i + 1) ts)) ≡ false
  number_more ts i t n e so_far other =
      subst (λ (x : List ℕ). contains n x ≡ false) (sym (numbers_push ts i t e)) (contains_neither n (numbers f (take i ts)) (as_list (f t)) so_far (other_out n (f t) other))

  repeat_on : (before rest : List ℕ) (o : Option ℕ) → first_repeat before (as_list o ++ rest) ≡ option_or (repeat_here before o) (first_repeat (before ++ as_list o) rest)
  repeat_on before rest None = ap (λ (x : List ℕ). first_repeat x rest) (sym (append-nil before))
  repeat_on before rest (Some n) = repeat_by before rest n (contains n before)

  repeat_step : (ts : List Tree) (i : ℕ) (t : Tree) → slice_get ts i ≡ Some t
      → first_repeat (numbers f (take i ts)) (numbers f (drop i ts))
      ≡ option_or (repeat_here (numbers f (take i ts)) (f t)) (first_repeat (numbers f (take (i + 1) ts)) (numbers f (drop (i + 1) ts)))
  repeat_step ts i t e =
      ap (λ (x : List Tree). first_repeat (numbers f (take i ts)) (numbers f x)) (dropped ts i t e)
      ∙ repeat_on (numbers f (take i ts)) (numbers f (drop (i + 1) ts)) (f t)
      ∙ ap (λ (x : List ℕ). option_or (repeat_here (numbers f (take i ts)) (f t)) (first_repeat x (numbers f (drop (i + 1) ts)))) (sym (numbers_push ts i t e))

  pub repeat_found : (ts : List Tree) (i n : ℕ) → i < length ts → first_repeat (numbers f (take i ts)) (numbers f (drop i ts)) ≡ first_repeat [] (numbers f ts)
      → ((t : Tree) → slice_get ts i ≡ Some t → Some n ≡ repeat_here (numbers f (take i ts)) (f t)) → Some n ≡ first_repeat [] (numbers f ts)
  repeat_found ts i n at so_far here =
      let e : slice_get ts i ≡ Some (get_or ts i (leaf 0 [])) = slice_get-get_or ts i (leaf 0 []) at in
      ap (λ (x : Option ℕ). option_or x (first_repeat (numbers f (take (i + 1) ts)) (numbers f (drop (i + 1) ts)))) (here (get_or ts i (leaf 0 [])) e)
      ∙ sym (repeat_step ts i (get_or ts i (leaf 0 [])) e) ∙ so_far

  pub repeat_none : (ts : List Tree) (i : ℕ) → i < length ts → first_repeat (numbers f (take i ts)) (numbers f (drop i ts)) ≡ first_repeat [] (numbers f ts)
      → ((t : Tree) → slice_get ts i ≡ Some t → None ≡ repeat_here (numbers f (take i ts)) (f t))
      → first_repeat (numbers f (take (i + 1) ts)) (numbers f (drop (i + 1) ts)) ≡ first_repeat [] (numbers f ts)
  repeat_none ts i at so_far here =
      let e : slice_get ts i ≡ Some (get_or ts i (leaf 0 [])) = slice_get-get_or ts i (leaf 0 []) at in
      ap (λ (x : Option ℕ). option_or x (first_repeat (numbers f (take (i + 1) ts)) (numbers f (drop (i + 1) ts)))) (here (get_or ts i (leaf 0 [])) e)
      ∙ sym (repeat_step ts i (get_or ts i (leaf 0 [])) e) ∙ so_far

-- a search over settings for the first that has something
module _ {X : Type 0} (g : Tree → Option X) (search_in : List Tree → Option X) (opens : (t : Tree) (ts : List Tree) → search_in (t ∷ ts) ≡ option_or (g t) (search_in ts)) where
  pub search_found : (ts : List Tree) (i : ℕ) (t : Tree) (x : X) → slice_get ts i ≡ Some t → search_in (drop i ts) ≡ search_in ts → Some x ≡ g t → Some x ≡ search_in ts
  search_found ts i t x e so_far here =
      ap (λ (o : Option X). option_or o (search_in (drop (i + 1) ts))) here ∙ sym (opens t (drop (i + 1) ts)) ∙ ap search_in (sym (dropped ts i t e)) ∙ so_far

  pub search_none : (ts : List Tree) (i : ℕ) (t : Tree) → slice_get ts i ≡ Some t → search_in (drop i ts) ≡ search_in ts → None ≡ g t → search_in (drop (i + 1) ts) ≡ search_in ts
  search_none ts i t e so_far here =
      ap (λ (o : Option X). option_or o (search_in (drop (i + 1) ts))) here ∙ sym (opens t (drop (i + 1) ts)) ∙ ap search_in (sym (dropped ts i t e)) ∙ so_far
