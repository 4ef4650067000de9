-- What a crash may leave of a run: where fewer steps are safe, where there are more steps, and after the last step.
use Rattle.std.proofs.Common.{◌≡◌, ℕ, ◌+◌, ◌-◌, ◌≤◌, ◌⊎◌, List, [], ◌∷◌, ◌++◌, length, take, All, refl, sym, ap, ◌∙◌, subst, inl, inr, arith, append_assoc, append-nil, length-append}
use mathlib.Core.Logic.{⊎_map}
use Rattle.std.proofs.lemmas.List.{take_all, take-take, take-append-le}
use Rattle.std.proofs.lemmas.List.Elements.{All-nil, All-cons, All-same, All-take, All-push}
use Rattle.off_defs.specs.State.{Tables, State}
use Rattle.off_book.specs.Crashes.{unless_memory, Steps, WroteNothing, NextBegins, OneMore, LeftBy}

module _ {X : Type 0} (steps : Steps X) where
  -- ---- none of the safe steps is lost

  pub few_none : (m n : ℕ) (rest : List X) → m ≤ n → All (WroteNothing steps) (take n rest) → All (WroteNothing steps) (take m rest)
  few_none m n rest few none = All-same (WroteNothing steps) (take m rest) (take m (take n rest)) (sym (take-take m n rest few)) (All-take (WroteNothing steps) m (take n rest) none)

  pub none_behind : (k : ℕ) → All (WroteNothing steps) (take k [])
  none_behind k = All-take (WroteNothing steps) k [] (All-nil (WroteNothing steps))

  none_taken : (k : ℕ) (rest : List X) → k ≡ 0 → All (WroteNothing steps) (take k rest)
  none_taken k rest none = subst (λ n. All (WroteNothing steps) (take n rest)) (sym none) (All-nil (WroteNothing steps))

  none_one : (k : ℕ) (step : X) → steps.commit step ≡ [] → All (WroteNothing steps) (take k (step ∷ []))
  none_one k step nothing = All-take (WroteNothing steps) k (step ∷ []) (All-cons (WroteNothing steps) step [] nothing (All-nil (WroteNothing steps)))

  -- ---- one commit more

  next_grow : (mid : State) (rest more : List X) (u : Tables) → NextBegins steps mid rest u → NextBegins steps mid (rest ++ more) u
  next_grow mid [] more u begins = absurd begins
  next_grow mid (step ∷ rest) more u begins = begins

  pub one_grow : (first : Tables → Type 0) (mid : State) (front rest more : List X) (u : Tables) → OneMore steps first mid front rest u → OneMore steps first mid front (rest ++ more) u
  one_grow first mid [] rest more u one = ⊎_map (next_grow mid rest more u) (λ is. is) one
  one_grow first mid (step ∷ front) rest more u one = next_grow mid rest more u one

  pub one_next : (first : Tables → Type 0) (mid : State) (front rest : List X) (u : Tables) → NextBegins steps mid rest u → OneMore steps first mid front rest u
  one_next first mid [] rest u begins = inl begins
  one_next first mid (step ∷ front) rest u begins = begins

  one_wider : (first more : Tables → Type 0) (mid : State) (front rest : List X) (u : Tables) → (first u → more u) → OneMore steps first mid front rest u → OneMore steps more mid front rest u
  one_wider first more mid [] rest u wider one = ⊎_map (λ begins. begins) wider one
  one_wider first more mid (step ∷ front) rest u wider one = one

  -- ---- what is left

  -- where fewer steps are safe, and more are taken
  pub left_fewer : {first : Tables → Type 0} {s : State} {done : List X} {m n k l : ℕ} {u : Tables} → m ≤ n → k ≤ l → LeftBy steps first s done n k u → LeftBy steps first s done m l u
  left_fewer {first} {s} {done} {m} {n} {k} {l} {u} few more left = record {
    front = left.front;
    rest = left.rest;
    parts = left.parts;
    few = omega (arith, left.few, more);
    none_lost = few_none (m - length left.front) (n - length left.front) left.rest (omega (arith, few)) left.none_lost;
    mid = left.mid;
    run = left.run;
    is = left.is;
  }

  -- where more was in doubt when the run began
  pub left_wider : {first more : Tables → Type 0} {s : State} {done : List X} {safe taken : ℕ} {u : Tables} → (first u → more u) → LeftBy steps first s done safe taken u → LeftBy steps more s done safe taken u
  left_wider {first} {more} {u = u} wider left = record {
    front = left.front;
    rest = left.rest;
    parts = left.parts;
    few = left.few;
    none_lost = left.none_lost;
    mid = left.mid;
    run = left.run;
    is = ⊎_map (λ same. same) (one_wider first more left.mid left.front left.rest u wider) left.is;
  }

  sizes : {first : Tables → Type 0} {s : State} {done : List X} {safe taken : ℕ} {u : Tables} → (left : LeftBy steps first s done safe taken u) → length left.front + length left.rest ≡ length done
  sizes left = sym (length-append left.front left.rest) ∙ ap (λ (v : List X). length v) left.parts

  -- with more steps, none of which is safe yet
  pub left_grow : {first : Tables → Type 0} {s : State} {done : List X} {safe taken : ℕ} {u : Tables} → (more : List X) → safe ≤ length done → LeftBy steps first s done safe taken u → LeftBy steps first s (done ++ more) safe taken u
  left_grow {first} {s} {done} {safe} {taken} {u} more most left =
      let both = sizes left in
      record {
        front = left.front;
        rest = left.rest ++ more;
        parts = sym (append_assoc left.front left.rest more) ∙ ap (λ v. v ++ more) left.parts;
        few = left.few;
        none_lost = All-same (WroteNothing steps) (take (safe - length left.front) (left.rest ++ more)) (take (safe - length left.front) left.rest)
            (take-append-le (safe - length left.front) left.rest more (omega (arith, both, most)))
            left.none_lost;
        mid = left.mid;
        run = left.run;
        is = ⊎_map (λ same. same) (one_grow first left.mid left.front left.rest more u) left.is;
      }

  -- where all steps are safe, none of the rest wrote anything
  pub none_of_all : {first : Tables → Type 0} {s : State} {done : List X} {safe taken : ℕ} {u : Tables} → safe ≡ length done → (left : LeftBy steps first s done safe taken u) → All (WroteNothing steps) left.rest
  none_of_all {safe = safe} all left =
      let both = sizes left in
      All-same (WroteNothing steps) left.rest (take (safe - length left.front) left.rest) (sym (take_all (safe - length left.front) left.rest (omega (arith, both, all)))) left.none_lost

  -- with one more step that wrote nothing, where all were safe: all are
  pub left_nothing : {first : Tables → Type 0} {s : State} {done : List X} {safe taken : ℕ} {u : Tables} → (step : X) → safe ≡ length done → steps.commit step ≡ []
      → LeftBy steps first s done safe taken u → LeftBy steps first s (done ++ step ∷ []) (length done + 1) taken u
  left_nothing {first} {s} {done} {safe} {taken} {u} step all nothing left = record {
    front = left.front;
    rest = left.rest ++ step ∷ [];
    parts = sym (append_assoc left.front left.rest (step ∷ [])) ∙ ap (λ v. v ++ step ∷ []) left.parts;
    few = left.few;
    none_lost = All-take (WroteNothing steps) (length done + 1 - length left.front) (left.rest ++ step ∷ []) (All-push (WroteNothing steps) left.rest step (none_of_all all left) nothing);
    mid = left.mid;
    run = left.run;
    is = ⊎_map (λ same. same) (one_grow first left.mid left.front left.rest (step ∷ []) u) left.is;
  }

  -- before the first step
  pub left_start : {first : Tables → Type 0} {u : Tables} → (s : State) (done : List X) → steps.run s [] s → (u ≡ s.tables) ⊎ OneMore steps first s [] done u → LeftBy steps first s done 0 0 u
  left_start s done none is = record {
    front = [];
    rest = done;
    parts = refl;
    few = omega arith;
    none_lost = none_taken (0 - 0) done (omega arith);
    mid = s;
    run = none;
    is = is;
  }

  -- the tables after all steps
  pub left_last : {first : Tables → Type 0} {s : State} {u : Tables} → (done : List X) (safe taken : ℕ) (last : State) → length done ≤ taken → steps.run s done last → u ≡ last.tables → LeftBy steps first s done safe taken u
  left_last {first} {s} {u} done safe taken last few run same = record {
    front = done;
    rest = [];
    parts = append-nil done;
    few = few;
    none_lost = none_behind (safe - length done);
    mid = last;
    run = run;
    is = inl same;
  }

  -- what the last step began
  pub left_begun : {first : Tables → Type 0} {s : State} {u : Tables} → (done : List X) (safe taken : ℕ) (mid : State) (step : X) → safe ≤ length done → length done ≤ taken → steps.run s done mid
      → unless_memory (steps.outcome step) (steps.begins mid step u) → LeftBy steps first s (done ++ step ∷ []) safe taken u
  left_begun {first} {s} {u} done safe taken mid step most few run begun = record {
    front = done;
    rest = step ∷ [];
    parts = refl;
    few = few;
    none_lost = none_taken (safe - length done) (step ∷ []) (omega (arith, most));
    mid = mid;
    run = run;
    is = inr (one_next first mid done (step ∷ []) u begun);
  }

  -- what the last step began, which wrote nothing
  pub left_failed : {first : Tables → Type 0} {s : State} {u : Tables} → (done : List X) (safe taken : ℕ) (mid : State) (step : X) → steps.commit step ≡ [] → length done ≤ taken → steps.run s done mid
      → unless_memory (steps.outcome step) (steps.begins mid step u) → LeftBy steps first s (done ++ step ∷ []) safe taken u
  left_failed {first} {s} {u} done safe taken mid step nothing few run begun = record {
    front = done;
    rest = step ∷ [];
    parts = refl;
    few = few;
    none_lost = none_one (safe - length done) step nothing;
    mid = mid;
    run = run;
    is = inr (one_next first mid done (step ∷ []) u begun);
  }
