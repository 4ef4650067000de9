-- What tests, filters and counts over a list say of the elements that are in it.
use Rattle.std.proofs.Common.{◌≡◌, ◌+◌, Bool, true, false, cond, Option, Some, None, List, [], ◌∷◌, ◌⊎◌, inl, inr, refl, sym, ap, subst, ◌∙◌, arith}
use Rattle.std.proofs.lemmas.Bool.{and_parts, and_from, or_parts, or_from, or_left, or_right}
use Rattle.std.proofs.lemmas.List.Sums.{sum_by-cons}
use Rattle.std.specs.List.{filter, filter_map, find, list_all, list_any, count_by, cons_option}

-- an element of a list
abbrev pub In : {A : Type 0} → A → List A → Type 0
In x [] = ⊥
In x (y ∷ ys) = (x ≡ y) ⊎ In x ys

-- no element stands twice
abbrev pub Distinct : {A : Type 0} → List A → Type 0
Distinct [] = Unit {0}
Distinct (x ∷ xs) = (In x xs → ⊥) × Distinct xs

module _ {A : Type 0} (p : A → Bool) where
  -- a test of all
  pub all_in : (xs : List A) → list_all p xs ≡ true → (x : A) → In x xs → p x ≡ true
  all_in [] h x i = elim i [ ]
  all_in (y ∷ ys) h x (inl e) = ap p e ∙ (and_parts (p y) (list_all p ys) h).0
  all_in (y ∷ ys) h x (inr i) = all_in ys (and_parts (p y) (list_all p ys) h).1 x i

  pub in_all : (xs : List A) → ((x : A) → In x xs → p x ≡ true) → list_all p xs ≡ true
  in_all [] h = refl
  in_all (y ∷ ys) h = and_from (p y) (list_all p ys) (h y (inl refl)) (in_all ys (λ x i. h x (inr i)))

  -- a test that no element passes
  pub none_in : (xs : List A) → list_any p xs ≡ false → (x : A) → In x xs → p x ≡ false
  none_in [] h x i = elim i [ ]
  none_in (y ∷ ys) h x (inl e) = ap p e ∙ (or_parts (p y) (list_any p ys) h).0
  none_in (y ∷ ys) h x (inr i) = none_in ys (or_parts (p y) (list_any p ys) h).1 x i

  pub in_any : (xs : List A) (x : A) → In x xs → p x ≡ true → list_any p xs ≡ true
  in_any [] x i h = absurd i
  in_any (y ∷ ys) x (inl e) h = or_left (p y) (list_any p ys) (ap p (sym e) ∙ h)
  in_any (y ∷ ys) x (inr i) h = or_right (p y) (list_any p ys) (in_any ys x i h)

  pub any_none : (xs : List A) → ((x : A) → In x xs → p x ≡ false) → list_any p xs ≡ false
  any_none [] h = refl
  any_none (y ∷ ys) h = or_from (p y) (list_any p ys) (h y (inl refl)) (any_none ys (λ x i. h x (inr i)))

  pub none_found : (xs : List A) → find p xs ≡ None → (x : A) → In x xs → p x ≡ false
  none_found [] h x i = elim i [ ]
  none_found (y ∷ ys) h x i =
      elim (p y) as (λ b. p y ≡ b → cond b (Some y) (find p ys) ≡ None → p x ≡ false) [
        | true ↦ λ e f. cc
        | false ↦ λ e f. elim i as (λ j. p x ≡ false) [ inl same ↦ ap p same ∙ e | inr rest ↦ none_found ys f x rest ]
      ] refl h

  -- what is found passes, and is in the list; and where one is in it that passes, one is found
  pub found_passes : (xs : List A) (x : A) → find p xs ≡ Some x → In x xs × (p x ≡ true)
  found_passes [] x e = cc
  found_passes (y ∷ ys) x e =
      elim (p y) as (λ b. p y ≡ b → cond b (Some y) (find p ys) ≡ Some x → In x (y ∷ ys) × (p x ≡ true)) [
        | true ↦ λ h f. let same : x ≡ y = cc in (inl same, ap p same ∙ h)
        | false ↦ λ h f. let rest = found_passes ys x f in (inr rest.0, rest.1)
      ] refl e

  pub some_found : (xs : List A) (x : A) → In x xs → p x ≡ true → (y : A) × (find p xs ≡ Some y) × In y xs × (p y ≡ true)
  some_found xs x i h =
      elim (find p xs) as (λ o. find p xs ≡ o → (y : A) × (find p xs ≡ Some y) × In y xs × (p y ≡ true)) [
        | None ↦ λ e. let none = none_found xs e x i in cc
        | Some y ↦ λ e. let f = found_passes xs y e in (y, e, f.0, f.1)
      ] refl

  -- what a filter keeps
  pub kept_in : (xs : List A) (x : A) → In x (filter p xs) → In x xs × (p x ≡ true)
  kept_in [] x i = elim i [ ]
  kept_in (y ∷ ys) x i =
      elim (p y) as (λ b. p y ≡ b → In x (cond b (y ∷ filter p ys) (filter p ys)) → In x (y ∷ ys) × (p x ≡ true)) [
        | true ↦ λ e j. elim j as (λ j. In x (y ∷ ys) × (p x ≡ true)) [ inl same ↦ (inl same, ap p same ∙ e) | inr rest ↦ let k = kept_in ys x rest in (inr k.0, k.1) ]
        | false ↦ λ e j. let k = kept_in ys x j in (inr k.0, k.1)
      ] refl i

  pub in_kept : (xs : List A) (x : A) → In x xs → p x ≡ true → In x (filter p xs)
  in_kept [] x i h = elim i [ ]
  in_kept (y ∷ ys) x i h =
      elim (p y) as (λ b. p y ≡ b → In x (cond b (y ∷ filter p ys) (filter p ys))) [
        | true ↦ λ e. elim i as (λ j. In x (y ∷ filter p ys)) [ inl same ↦ inl same | inr rest ↦ inr (in_kept ys x rest h) ]
        | false ↦ λ e. elim i as (λ j. In x (filter p ys)) [ inl same ↦ absurd (let f : p x ≡ false = ap p same ∙ e in cc) | inr rest ↦ in_kept ys x rest h ]
      ] refl

  -- a count of none, and of one
  pub count_first : (y : A) (ys : List A) → count_by p (y ∷ ys) ≡ cond (p y) 1 0 + count_by p ys
  count_first y ys = sum_by-cons (λ x. cond (p x) 1 0) y ys

  uncounted : (xs : List A) → count_by p xs ≡ 0 → (x : A) → In x xs → p x ≡ true → ⊥
  uncounted [] h x i t = i
  uncounted (y ∷ ys) h x (inl e) t =
      let s : count_by p (y ∷ ys) ≡ 1 + count_by p ys = count_first y ys ∙ ap (λ b. cond b 1 0 + count_by p ys) (sym (ap p e) ∙ t) in
      omega arith
  uncounted (y ∷ ys) h x (inr i) t =
      let s = count_first y ys in
      let n : count_by p ys ≡ 0 = omega arith in
      uncounted ys n x i t

  pub counted_none : (xs : List A) → ((x : A) → In x xs → p x ≡ true → ⊥) → count_by p xs ≡ 0
  counted_none [] h = refl
  counted_none (y ∷ ys) h =
      elim (p y) as (λ b. p y ≡ b → count_by p (y ∷ ys) ≡ 0) [
        | true ↦ λ e. absurd (h y (inl refl) e)
        | false ↦ λ e. count_first y ys ∙ ap (λ b. cond b 1 0 + count_by p ys) e ∙ (let n = counted_none ys (λ x i. h x (inr i)) in omega arith)
      ] refl

  -- the one element that passes
  abbrev pub IsOnly : List A → A → Type 0
  IsOnly xs x = record { inside : In x xs; passes : p x ≡ true; only : (y : A) → In y xs → p y ≡ true → y ≡ x }

  pub one_counted : (xs : List A) → count_by p xs ≡ 1 → (x : A) × IsOnly xs x
  one_counted [] h = absurd (omega (arith, h))
  one_counted (y ∷ ys) h =
      elim (p y) as (λ b. p y ≡ b → (x : A) × IsOnly (y ∷ ys) x) [
        | true ↦ λ e.
            let s : count_by p (y ∷ ys) ≡ 1 + count_by p ys = count_first y ys ∙ ap (λ b. cond b 1 0 + count_by p ys) e in
            let n : count_by p ys ≡ 0 = omega arith in
            (y, record { inside = inl refl; passes = e; only = λ x i t. elim i as (λ j. x ≡ y) [ inl same ↦ same | inr rest ↦ absurd (uncounted ys n x rest t) ] })
        | false ↦ λ e.
            let s : count_by p (y ∷ ys) ≡ 0 + count_by p ys = count_first y ys ∙ ap (λ b. cond b 1 0 + count_by p ys) e in
            let n : count_by p ys ≡ 1 = omega arith in
            let one = one_counted ys n in (
              one.0,
              record {
                inside = inr one.1.inside;
                passes = one.1.passes;
                only = λ x i t. elim i as (λ j. x ≡ one.0) [ inl same ↦ absurd (let f : p x ≡ false = ap p same ∙ e in cc) | inr rest ↦ one.1.only x rest t ];
              },
            )
      ] refl

  pub counted_one : (xs : List A) → Distinct xs → (x : A) → IsOnly xs x → count_by p xs ≡ 1
  counted_one [] d x one = absurd one.inside
  counted_one (y ∷ ys) d x one =
      elim (p y) as (λ b. p y ≡ b → count_by p (y ∷ ys) ≡ 1) [
        | true ↦ λ e.
            let is : y ≡ x = one.only y (inl refl) e in
            let n : count_by p ys ≡ 0 = counted_none ys (λ z i t. d.0 (subst (λ w. In w ys) (one.only z (inr i) t ∙ sym is) i)) in
            count_first y ys ∙ ap (λ b. cond b 1 0 + count_by p ys) e ∙ omega (arith, n)
        | false ↦ λ e.
            let n : count_by p ys ≡ 1 = counted_one ys d.1 x (record {
              inside = elim one.inside as (λ j. In x ys) [ inl same ↦ absurd (let t = one.passes in let f : p x ≡ false = ap p same ∙ e in cc) | inr rest ↦ rest ];
              passes = one.passes;
              only = λ z i t. one.only z (inr i) t;
            })
            in
            count_first y ys ∙ ap (λ b. cond b 1 0 + count_by p ys) e ∙ omega (arith, n)
      ] refl

module _ {A B : Type 0} (h : A → Option B) where
  -- what is made of the elements
  pub in_made : (xs : List A) (x : A) (y : B) → In x xs → h x ≡ Some y → In y (filter_map h xs)
  in_made [] x y i e = i
  in_made (z ∷ zs) x y i e =
      elim (h z) as (λ o. h z ≡ o → In y (cons_option o (filter_map h zs))) [
        | None ↦ λ f. elim i as (λ j. In y (filter_map h zs)) [ inl same ↦ absurd (let g : h x ≡ None = ap h same ∙ f in cc) | inr rest ↦ in_made zs x y rest e ]
        | Some w ↦ λ f. elim i as (λ j. In y (w ∷ filter_map h zs)) [
          | inl same ↦ inl (let g : h x ≡ Some w = ap h same ∙ f in cc)
          | inr rest ↦ inr (in_made zs x y rest e)
        ]
      ] refl

  pub made_in : (xs : List A) (y : B) → In y (filter_map h xs) → (x : A) × In x xs × (h x ≡ Some y)
  made_in [] y i = absurd i
  made_in (z ∷ zs) y i =
      elim (h z) as (λ o. h z ≡ o → In y (cons_option o (filter_map h zs)) → (x : A) × In x (z ∷ zs) × (h x ≡ Some y)) [
        | None ↦ λ f j. let m = made_in zs y j in (m.0, inr m.1, m.2)
        | Some w ↦ λ f j. elim j as (λ j. (x : A) × In x (z ∷ zs) × (h x ≡ Some y)) [
          | inl same ↦ (z, inl refl, f ∙ ap Some (sym same))
          | inr rest ↦ let m = made_in zs y rest in (m.0, inr m.1, m.2)
        ]
      ] refl i

  pub distinct_made : (xs : List A) → ((a b : A) (y : B) → h a ≡ Some y → h b ≡ Some y → a ≡ b) → Distinct xs → Distinct (filter_map h xs)
  distinct_made [] one d = tt
  distinct_made (z ∷ zs) one d =
      let rest = distinct_made zs one d.1 in
      elim (h z) as (λ o. h z ≡ o → Distinct (cons_option o (filter_map h zs))) [
        | None ↦ λ f. rest
        | Some w ↦ λ f. (λ i. let m = made_in zs w i in d.0 (subst (λ v. In v zs) (one m.0 z w m.2 f) m.1), rest)
      ] refl

-- two ways to make that agree on each element make the same
pub made_same : {A B : Type 0} (g h : A → Option B) (xs : List A) → ((x : A) → In x xs → g x ≡ h x) → filter_map g xs ≡ filter_map h xs
made_same g h [] e = refl
made_same g h (x ∷ xs) e = ap (λ o. cons_option o (filter_map g xs)) (e x (inl refl)) ∙ ap (cons_option (h x)) (made_same g h xs (λ y i. e y (inr i)))
