-- Two runs in a row are one, where no writes wait between them.
use Rattle.std.proofs.Common.{◌≡◌, ℕ, ◌+◌, ◌-◌, ◌<◌, ◌≤◌, ◌⊎◌, Bool, false, List, [], ◌∷◌, ◌++◌, length, take, All, refl, sym, ap, ◌∙◌, subst, inl, inr, arith, append_assoc, length-append}
use Rattle.std.proofs.lemmas.Bool.{cases_lt}
use Rattle.std.proofs.lemmas.List.Elements.{All-same, All-append}
use Rattle.std.proofs.Math.Seq.{take-append-add}
use Rattle.off_defs.specs.State.{Tables, State}
use Rattle.off_book.specs.Crashes.{Steps, WroteNothing, OneMore, LeftBy, Saves}
use Rattle.off_book.proofs.LeftLemmas.{one_grow, one_next, left_grow, none_of_all}
use Rattle.off_book.proofs.SavesLemmas.{by_side, side_late, most_at}

rises_then : (p q : ℕ → ℕ) (at n m k : ℕ) → ((i j : ℕ) → i ≤ j → p i ≤ p j) → ((i : ℕ) → p i ≤ n) → ((i j : ℕ) → i ≤ j → q i ≤ q j) → m ≤ k
    → (a : (m < at) ⊎ (at ≤ m)) (b : (k < at) ⊎ (at ≤ k)) → by_side a (p m) (n + q m) ≤ by_side b (p k) (n + q k)
rises_then p q at n m k one few two order (inl x) (inl y) = one m k order
rises_then p q at n m k one few two order (inl x) (inr y) = omega (arith, few m)
rises_then p q at n m k one few two order (inr x) (inl y) = absurd (omega arith)
rises_then p q at n m k one few two order (inr x) (inr y) = omega (arith, two m k order)

top_then : (p q : ℕ → ℕ) (at n m to : ℕ) → at ≤ to → ((i : ℕ) → p i ≤ n) → ((i : ℕ) → q i ≤ q to)
    → (a : (m < at) ⊎ (at ≤ m)) (b : (to < at) ⊎ (at ≤ to)) → by_side a (p m) (n + q m) ≤ by_side b (p to) (n + q to)
top_then p q at n m to later few top a (inl never) = absurd (omega arith)
top_then p q at n m to later few top (inl x) (inr y) = omega (arith, few m)
top_then p q at n m to later few top (inr x) (inr y) = omega (arith, top m)

module _ {X : Type 0} (steps : Steps X) {first before : Tables → Type 0} {s mid : State} {done : List X} (more : List X) (joins : (front : List X) (v : State) → steps.run mid front v → steps.run s (done ++ front) v)
    (doubts : (u : Tables) → before u → LeftBy steps first s done (length done) (length done) u) where
  -- where the second run had begun
  left_after : (k l : ℕ) {u : Tables} (front rest : List X) → front ++ rest ≡ more → length front ≤ l → All (WroteNothing steps) (take (k - length front) rest) → (v : State) → steps.run mid front v
      → (u ≡ v.tables) ⊎ OneMore steps first v (done ++ front) rest u → LeftBy steps first s (done ++ more) (length done + k) (length done + l) u
  left_after k l front rest parts few none v run is =
      let size : length (done ++ front) ≡ length done + length front = length-append done front in
      let same : k - length front ≡ length done + k - length (done ++ front) = omega (arith, size) in
      record {
        front = done ++ front;
        rest = rest;
        parts = append_assoc done front rest ∙ ap (λ v. done ++ v) parts;
        few = omega (arith, size, few);
        none_lost = subst (λ n. All (WroteNothing steps) (take n rest)) same none;
        mid = v;
        run = joins front v run;
        is = is;
      }

  -- what was in doubt between them, of the second of which so many first steps wrote nothing
  left_before : (k l : ℕ) {u : Tables} → All (WroteNothing steps) (take k more) → LeftBy steps first s done (length done) (length done) u
      → LeftBy steps first s (done ++ more) (length done + k) (length done + l) u
  left_before k l {u} none left =
      let both : length left.front + length left.rest ≡ length done = sym (length-append left.front left.rest) ∙ ap (λ (v : List X). length v) left.parts in
      let size : length done + k - length left.front ≡ length left.rest + k = omega (arith, both) in
      record {
        front = left.front;
        rest = left.rest ++ more;
        parts = sym (append_assoc left.front left.rest more) ∙ ap (λ v. v ++ more) left.parts;
        few = omega (arith, left.few);
        none_lost = All-same (WroteNothing steps) (take (length done + k - length left.front) (left.rest ++ more)) (left.rest ++ take k more)
            (ap (λ n. take n (left.rest ++ more)) size ∙ take-append-add left.rest more k)
            (All-append (WroteNothing steps) left.rest (take k more) (none_of_all steps refl left) none);
        mid = left.mid;
        run = left.run;
        is = elim left.is [ inl same ↦ inl same | inr one ↦ inr (one_grow steps first left.mid left.front left.rest more u one) ];
      }

  left_by : (k l : ℕ) {u : Tables} (front rest : List X) → front ++ rest ≡ more → length front ≤ l → All (WroteNothing steps) (take (k - length front) rest) → (v : State) → steps.run mid front v
      → (u ≡ v.tables) ⊎ OneMore steps before v front rest u → LeftBy steps first s (done ++ more) (length done + k) (length done + l) u
  left_by k l front rest parts few none v run (inl same) = left_after k l front rest parts few none v run (inl same)
  left_by k l {u = u} (step ∷ front) rest parts few none v run (inr next) = left_after k l (step ∷ front) rest parts few none v run (inr (one_next steps first v (done ++ step ∷ front) rest u next))
  left_by k l {u = u} [] rest parts few none v run (inr (inl next)) = left_after k l [] rest parts few none v run (inr (one_next steps first v (done ++ []) rest u next))
  left_by k l {u = u} [] rest parts few none v run (inr (inr doubt)) =
      let same : k - 0 ≡ k = omega arith in
      left_before k l (subst (λ v. All (WroteNothing steps) (take k v)) parts (subst (λ n. All (WroteNothing steps) (take n rest)) same none)) (doubts u doubt)

  left_then : {k l : ℕ} {u : Tables} → LeftBy steps before mid more k l u → LeftBy steps first s (done ++ more) (length done + k) (length done + l) u
  left_then {k} {l} left = left_by k l left.front left.rest left.parts left.few left.none_lost left.mid left.run left.is

module _ {X : Type 0} {steps : Steps X} {first before behind : Tables → Type 0} {old new : ℕ → Tables → Type 0} {s mid last : State} {done more : List X} {from at to : ℕ} {wait : Bool} where
  pub saves_then : ((front : List X) (v : State) → steps.run mid front v → steps.run s (done ++ front) v) → Saves steps first from s done old before false at mid
      → ((m : ℕ) (u : Tables) → m ≤ at → new m u → old m u) → Saves steps before at mid more new behind wait to last → Saves steps first from s (done ++ more) new behind wait to last
  saves_then joins p past q =
      let all : p.safe at ≡ length done = p.all refl in
      let here = side_late to at (p.safe to) (length done + q.safe to) q.later (cases_lt to at) in
      let size : length (done ++ more) ≡ length done + length more = length-append done more in
      let few : (m : ℕ) → p.safe m ≤ length done = λ m. omega (arith, p.top m, p.most) in
      let doubts : (u : Tables) → before u → LeftBy steps first s done (length done) (length done) u =
      λ u doubt. subst (λ k. LeftBy steps first s done k (length done) u) all (p.doubts u doubt) in
      record {
        run = joins more last q.run;
        later = omega (arith, p.later, q.later);
        safe = λ m. by_side (cases_lt m at) (p.safe m) (length done + q.safe m);
        taken = λ m. by_side (cases_lt m at) (p.taken m) (length done + q.taken m);
        rises = λ m n order. rises_then p.safe q.safe at (length done) m n p.rises few q.rises order (cases_lt m at) (cases_lt n at);
        top = λ m. top_then p.safe q.safe at (length done) m to q.later few q.top (cases_lt m at) (cases_lt to at);
        most = omega (arith, here, size, q.most);
        within = λ m. most_at m at (p.taken m) (length done + q.taken m) (length (done ++ more)) (omega (arith, size, p.within m)) (omega (arith, size, q.within m)) (cases_lt m at);
        leaves = λ m u early upto shown. leaves_either joins p past q doubts m u early upto shown (cases_lt m at);
        doubts = λ u doubt.
            subst (λ k. LeftBy steps first s (done ++ more) k (length (done ++ more)) u) (sym here)
            (subst (λ k. LeftBy steps first s (done ++ more) (length done + q.safe to) k u) (sym size) (left_then steps more joins doubts (q.doubts u doubt)));
        all = λ none. let whole = q.all none in omega (arith, here, size, whole);
      }
    where
      leaves_either : (joins : (front : List X) (v : State) → steps.run mid front v → steps.run s (done ++ front) v) (p : Saves steps first from s done old before false at mid)
          → ((m : ℕ) (u : Tables) → m ≤ at → new m u → old m u) → (q : Saves steps before at mid more new behind wait to last)
          → ((u : Tables) → before u → LeftBy steps first s done (length done) (length done) u)
          → (m : ℕ) (u : Tables) → from ≤ m → m ≤ to → new m u → (a : (m < at) ⊎ (at ≤ m))
          → LeftBy steps first s (done ++ more) (by_side a (p.safe m) (length done + q.safe m)) (by_side a (p.taken m) (length done + q.taken m)) u
      leaves_either joins p past q doubts m u early upto shown (inl x) =
          left_grow steps more (omega (arith, p.top m, p.most)) (p.leaves m u early (omega arith) (past m u (omega arith) shown))
      leaves_either joins p past q doubts m u early upto shown (inr x) = left_then steps more joins doubts (q.leaves m u x upto shown)
