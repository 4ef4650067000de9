-- Lists of entries in the order of their keys, over any total order: how a walk goes on, and what is left without a key.
use Rattle.std.proofs.Common.{◌≡◌, Bool, true, false, cond, not, ◌&&◌, Option, Some, None, unwrap_or, List, [], ◌∷◌, refl, sym, ap, subst, ◌∙◌}
use lib.Dec.{T}
use Rattle.std.specs.List.{filter, find}
use Rattle.std.specs.Ordering.{is_lt, is_eq, eq_by_cmp, ordering_reverse}
use Rattle.std.specs.Cmp.{IsTotalOrder, tied_itself, eq_by_cmp_equiv}
use Rattle.std.specs.declared.cmp.Ordering.{Ordering}
use Rattle.std.specs.declared.cmp.Ordering.TheVariants.{Less, Equal, Greater}
use Rattle.std.specs.FinMap as map
use Rattle.std.specs.FinMap.Entries as list

pub is_equal : (r : Ordering) → is_eq r ≡ true → r ≡ Equal
is_equal Less h = cc
is_equal Equal h = refl
is_equal Greater h = cc

pub is_less : (r : Ordering) → is_lt r ≡ true → r ≡ Less
is_less Less h = refl
is_less Equal h = cc
is_less Greater h = cc

pub holds : (b : Bool) → T b → b ≡ true
holds true h = refl
holds false h = absurd h

pub held : (b : Bool) → b ≡ true → T b
held true h = tt
held false h = cc

pub first : (a b : Bool) → T (a && b) → T a
first true b p = tt
first false b p = p

pub second : (a b : Bool) → T (a && b) → T b
second true b p = p
second false b p = absurd p

pub both : (a b : Bool) → T a → T b → T (a && b)
both true b p q = q
both false b p q = absurd p

-- nothing passes where nothing is found
pub filter_none : {A : Type 0} (p : A → Bool) (xs : List A) → find p xs ≡ None → filter p xs ≡ []
filter_none p [] f = refl
filter_none p (x ∷ xs) f =
    elim (p x) as (λ b. cond b (Some x) (find p xs) ≡ None → cond b (x ∷ filter p xs) (filter p xs) ≡ []) [
      | true ↦ λ f. cc
      | false ↦ λ f. filter_none p xs f
    ] f

-- what a filter loses at its first element
filter_lost : {A : Type 0} (p : A → Bool) (x : A) (xs : List A) → p x ≡ false → filter p (x ∷ xs) ≡ filter p xs
filter_lost p x xs e = ap (λ b. cond b (x ∷ filter p xs) (filter p xs)) e

filter_kept : {A : Type 0} (p : A → Bool) (x : A) (xs : List A) → p x ≡ true → filter p (x ∷ xs) ≡ x ∷ filter p xs
filter_kept p x xs e = ap (λ b. cond b (x ∷ filter p xs) (filter p xs)) e

module _ {K X : Type 0} (R : K → K → Ordering) where
  -- a key below all entries has none of them
  pub none_below : (k : K) (es : List (K × X)) → T (list.below_all R k es) → list.find R k es ≡ None
  none_below k [] h = refl
  none_below k (e ∷ es) h =
      ap (λ r. cond (is_eq r) (Some e.1) (list.find R k es)) (is_less (R k e.0) (holds _ (first _ _ h))) ∙ none_below k es (second _ _ h)

  -- whether an entry lies behind a place of a walk
  abbrev pub after_by : Option K → K × X → Bool
  after_by None entry = true
  after_by (Some key) entry = is_lt (R key entry.0)

  module _ (o : IsTotalOrder R) where
    after_up : (k : Option K) (x e : K × X) → after_by k x ≡ true → R x.0 e.0 ≡ Less → after_by k e ≡ true
    after_up None x e p h = refl
    after_up (Some k) x e p h = ap is_lt (o.trans k x.0 e.0 (is_less (R k x.0) p) h)

    -- in a list whose keys lie above an entry behind the place, all entries lie behind it
    all_pass : (k : Option K) (x : K × X) (es : List (K × X)) → after_by k x ≡ true → T (list.below_all R x.0 es) → filter (after_by k) es ≡ es
    all_pass k x [] p h = refl
    all_pass k x (e ∷ es) p h =
        let one = after_up k x e p (is_less (R x.0 e.0) (holds _ (first _ _ h))) in
        filter_kept (after_by k) e es one ∙ ap (λ (v : List (K × X)). e ∷ v) (all_pass k x es p (second _ _ h))

    all_above : (x : K) (es : List (K × X)) → T (list.below_all R x es) → filter (after_by (Some x)) es ≡ es
    all_above x [] h = refl
    all_above x (e ∷ es) h =
        filter_kept (after_by (Some x)) e es (holds _ (first _ _ h)) ∙ ap (λ (v : List (K × X)). e ∷ v) (all_above x es (second _ _ h))

    found_above : (p : K × X → Bool) (x : K) (e : K × X) (es : List (K × X)) → T (list.below_all R x es) → find p es ≡ Some e → R x e.0 ≡ Less
    found_above p x e [] h f = cc
    found_above p x e (y ∷ es) h f =
        elim (p y) as (λ b. cond b (Some y) (find p es) ≡ Some e → R x e.0 ≡ Less) [
          | true ↦ λ f. subst (λ (v : K × X). R x v.0 ≡ Less) (ap (λ (v : Option (K × X)). unwrap_or v y) f) (is_less (R x y.0) (holds _ (first _ _ h)))
          | false ↦ λ f. found_above p x e es (second _ _ h) f
        ] f

    -- no entry lies behind its own key
    not_own : (x : K × X) → after_by (Some x.0) x ≡ false
    not_own x = ap is_lt (tied_itself o x.0)

    not_back : (x e : K × X) → R x.0 e.0 ≡ Less → after_by (Some e.0) x ≡ false
    not_back x e h = ap is_lt (o.antisymm e.0 x.0 ∙ ap ordering_reverse h)

    first_next : (k : Option K) (x : K × X) (es : List (K × X)) → T (list.below_all R x.0 es) → after_by k x ≡ true
        → x ∷ filter (after_by k) es ≡ x ∷ filter (after_by (Some x.0)) (x ∷ es)
    first_next k x es h p =
        ap (λ (v : List (K × X)). x ∷ v)
        (all_pass k x es p h ∙ sym (filter_lost (after_by (Some x.0)) x es (not_own x) ∙ all_above x.0 es h))

    -- what is left of a walk is its next entry, and what is left behind that
    pub walk_goes : (k : Option K) (e : K × X) (es : List (K × X)) → T (list.is_sorted R es) → find (after_by k) es ≡ Some e
        → filter (after_by k) es ≡ e ∷ filter (after_by (Some e.0)) es
    walk_goes k e [] h f = cc
    walk_goes k e (x ∷ es) h f =
        elim (after_by k x) as (λ b. after_by k x ≡ b → cond b (Some x) (find (after_by k) es) ≡ Some e
        → cond b (x ∷ filter (after_by k) es) (filter (after_by k) es) ≡ e ∷ filter (after_by (Some e.0)) (x ∷ es)) [
          | true ↦ λ p f. subst (λ (v : K × X). x ∷ filter (after_by k) es ≡ v ∷ filter (after_by (Some v.0)) (x ∷ es))
              (ap (λ (v : Option (K × X)). unwrap_or v x) f) (first_next k x es (first _ _ h) p)
          | false ↦ λ p f.
              walk_goes k e es (second _ _ h) f
              ∙ ap (λ (v : List (K × X)). e ∷ v) (sym (filter_lost (after_by (Some e.0)) x es (not_back x e (found_above (after_by k) x.0 e es (first _ _ h) f))))
        ] refl f

    turned : (key q : K) (a b : Option X) → a ≡ b → cond (not (eq_by_cmp R key q)) b None ≡ cond (eq_by_cmp R q key) None a
    turned key q a b e = subst (λ (t : Bool). cond (not (eq_by_cmp R key q)) b None ≡ cond t None a) ((eq_by_cmp_equiv o).symm key q)
        (elim (eq_by_cmp R key q) as (λ t. cond (not t) b None ≡ cond t None a) [ true ↦ refl | false ↦ sym e ])

    -- the entries that a removal leaves are the same, in the same order, but for the one of the key
    pub entries_left : map.IsAntisymmetric R → (t : map.FinMap R X) (key : K) → map.entries (map.remove t key) ≡ filter (λ e. not (eq_by_cmp R key e.0)) (map.entries t)
    entries_left exact t key =
        let es = map.entries t in
        let left : List (K × X) = filter (λ e. not (eq_by_cmp R key e.0)) es in
        let sorted : T (list.is_sorted R left) = list.is_sorted-where_key R (λ x. not (eq_by_cmp R key x)) es (map.entries_sorted t) in
        let same : map.remove t key ≡ map.from_sorted left = map.same_map o exact (map.remove t key) (map.from_sorted left) (λ q.
        map.get-remove o t key q
        ∙ sym (map.get-from_sorted R left q sorted
        ∙ list.find-where_key R (λ x. not (eq_by_cmp R key x)) q (λ x tied. ap (λ (k : K). not (eq_by_cmp R key k)) (sym (exact q x tied))) es
        ∙ turned key q (map.get t q) (list.find R q es) (map.get-entries t q)))
        in
        ap (λ (u : map.FinMap R X). map.entries u) same ∙ map.entries-from_sorted R left sorted
