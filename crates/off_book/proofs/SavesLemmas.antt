-- A run of which a keeper tells what a crash leaves: where it begins, and with more steps, or more calls, at its end.
use Rattle.std.proofs.Common.{◌≡◌, ℕ, ◌<◌, ◌≤◌, ◌⊎◌, Bool, false, List, [], length, refl, sym, ◌∙◌, subst, inl, inr, arith}
use mathlib.Core.Logic.{⊎_map}
use Rattle.std.proofs.lemmas.Bool.{cases_lt}
use Rattle.off_defs.specs.State.{Tables, State}
use Rattle.off_book.specs.Crashes.{Steps, LeftBy, Saves}
use Rattle.off_book.proofs.LeftLemmas.{left_fewer, left_wider, left_start, left_last}

-- a number that is another one from a moment on
abbrev pub by_side : {m n : ℕ} → (m < n) ⊎ (n ≤ m) → ℕ → ℕ → ℕ
by_side (inl first) a b = a
by_side (inr second) a b = b

pub side_late : (m n a b : ℕ) → n ≤ m → (d : (m < n) ⊎ (n ≤ m)) → by_side d a b ≡ b
side_late m n a b late (inl early) = absurd (omega arith)
side_late m n a b late (inr here) = refl

pub most_at : (m n a b most : ℕ) → a ≤ most → b ≤ most → (d : (m < n) ⊎ (n ≤ m)) → by_side d a b ≤ most
most_at m n a b most x y (inl first) = x
most_at m n a b most x y (inr second) = y

keeps_at : (m n a b : ℕ) → a ≤ b → (d : (m < n) ⊎ (n ≤ m)) → a ≤ by_side d a b
keeps_at m n a b x (inl first) = omega arith
keeps_at m n a b x (inr second) = x

rises_at : (safe : ℕ → ℕ) (to raised after m n : ℕ) → ((i j : ℕ) → i ≤ j → safe i ≤ safe j) → ((i : ℕ) → safe i ≤ safe to) → safe to ≤ raised → m ≤ n
    → (a : (m < after) ⊎ (after ≤ m)) (b : (n < after) ⊎ (after ≤ n)) → by_side a (safe m) raised ≤ by_side b (safe n) raised
rises_at safe to raised after m n rises top grows order (inl x) (inl y) = rises m n order
rises_at safe to raised after m n rises top grows order (inl x) (inr y) = omega (arith, top m, grows)
rises_at safe to raised after m n rises top grows order (inr x) (inl y) = absurd (omega arith)
rises_at safe to raised after m n rises top grows order (inr x) (inr y) = omega arith

top_at : (safe : ℕ → ℕ) (to raised after m : ℕ) → ((i : ℕ) → safe i ≤ safe to) → safe to ≤ raised → (a : (m < after) ⊎ (after ≤ m)) (b : (after < after) ⊎ (after ≤ after))
    → by_side a (safe m) raised ≤ by_side b (safe after) raised
top_at safe to raised after m top grows a (inl never) = absurd (omega arith)
top_at safe to raised after m top grows (inl x) (inr y) = omega (arith, top m, grows)
top_at safe to raised after m top grows (inr x) (inr y) = omega arith

module _ {X : Type 0} {steps : Steps X} where
  -- no step yet
  pub saves_none : {opened : ℕ → Tables → Type 0} {doubt : Tables → Type 0} {at : ℕ} (s : State) → steps.run s [] s → ((u : Tables) → opened at u → (u ≡ s.tables) ⊎ doubt u)
      → Saves steps doubt at s [] opened doubt false at s
  saves_none {opened} {doubt} {at} s none rests = record {
    run = none;
    later = omega arith;
    safe = λ m. 0;
    taken = λ m. 0;
    rises = λ m n order. omega arith;
    top = λ m. omega arith;
    most = omega arith;
    within = λ m. omega arith;
    leaves = λ m u early upto shown.
        let same : m ≡ at = omega arith in
        left_start steps s [] none (⊎_map (λ is. is) inr (rests u (subst (λ n. opened n u) same shown)));
    doubts = λ u doubt. left_start steps s [] none (inr (inr doubt));
    all = λ none. refl;
  }

  -- calls that only read, before the run: what was in doubt before them may be so when it begins
  pub saves_doubt : {first more : Tables → Type 0} {from : ℕ} {s : State} {done : List X} {opened : ℕ → Tables → Type 0} {doubt : Tables → Type 0} {waits : Bool} {to : ℕ} {last : State}
      → ((u : Tables) → first u → more u) → Saves steps first from s done opened doubt waits to last → Saves steps more from s done opened doubt waits to last
  saves_doubt wider saves = record {
    run = saves.run;
    later = saves.later;
    safe = saves.safe;
    taken = saves.taken;
    rises = saves.rises;
    top = saves.top;
    most = saves.most;
    within = saves.within;
    leaves = λ m u early upto shown. left_wider steps (wider u) (saves.leaves m u early upto shown);
    doubts = λ u doubt. left_wider steps (wider u) (saves.doubts u doubt);
    all = saves.all;
  }

-- What a keeper tells over some calls, from the moment `to` to `after`: where so many of these steps were safe, and then `raised` are.
pub record Goes {X : Type 0} (steps : Steps X) (first : Tables → Type 0) (s : State) (done : List X) (safe raised : ℕ) (old new : ℕ → Tables → Type 0) (behind : Tables → Type 0) (to after : ℕ)
    : Type 0 where
  pub later : to ≤ after
  pub past : (m : ℕ) (u : Tables) → m ≤ to → new m u → old m u
  pub within : (m : ℕ) (u : Tables) → to < m → m ≤ after → new m u → LeftBy steps first s done safe (length done) u
  pub rests : (u : Tables) → new after u → LeftBy steps first s done raised (length done) u
  pub doubts : (u : Tables) → behind u → LeftBy steps first s done raised (length done) u
  pub grows : safe ≤ raised
  pub most : raised ≤ length done

module _ {X : Type 0} {steps : Steps X} {first : Tables → Type 0} {s : State} {done : List X} {old : ℕ → Tables → Type 0} {before : Tables → Type 0} {waits : Bool} {from to : ℕ} {mid : State}
    (saves : Saves steps first from s done old before waits to mid) (more : List X) (new : ℕ → Tables → Type 0) (behind : Tables → Type 0) (wait : Bool) (after raised : ℕ) (last : State)
    (longer : length done ≤ length more)
    (grow : (k l : ℕ) (u : Tables) → k ≤ length done → LeftBy steps first s done k l u → LeftBy steps first s more k l u)
    (run : steps.run s more last) (goes : Goes steps first s more (saves.safe to) raised old new behind to after) (all : wait ≡ false → raised ≡ length more) where
  leaves_at : (m : ℕ) (u : Tables) → from ≤ m → m ≤ after → new m u → (a : (m < after) ⊎ (after ≤ m)) (b : (m < to) ⊎ (to ≤ m)) (c : (to < m) ⊎ (m ≤ to))
      → LeftBy steps first s more (by_side a (saves.safe m) raised) (by_side b (saves.taken m) (length more)) u
  leaves_at m u early upto shown (inr end) (inl before) c = absurd (omega (arith, goes.later))
  leaves_at m u early upto shown (inr end) (inr late) c =
      let same : m ≡ after = omega arith in
      goes.rests u (subst (λ n. new n u) same shown)
  leaves_at m u early upto shown (inl inside) (inl before) (inl second) = absurd (omega arith)
  leaves_at m u early upto shown (inl inside) (inr late) (inl second) =
      left_fewer steps (saves.top m) (omega arith) (goes.within m u second upto shown)
  leaves_at m u early upto shown (inl inside) (inl before) (inr once) =
      grow (saves.safe m) (saves.taken m) u (omega (arith, saves.top m, saves.most)) (saves.leaves m u early once (goes.past m u once shown))
  leaves_at m u early upto shown (inl inside) (inr late) (inr once) =
      left_fewer steps (omega arith) (omega (arith, saves.within m, longer))
      (grow (saves.safe m) (saves.taken m) u (omega (arith, saves.top m, saves.most)) (saves.leaves m u early once (goes.past m u once shown)))

  -- the run goes on by more steps, or by none
  pub saves_go : Saves steps first from s more new behind wait after last
  saves_go =
      let here = side_late after after (saves.safe after) raised (omega arith) (cases_lt after after) in
      record {
        run = run;
        later = omega (arith, saves.later, goes.later);
        safe = λ m. by_side (cases_lt m after) (saves.safe m) raised;
        taken = λ m. by_side (cases_lt m to) (saves.taken m) (length more);
        rises = λ m n order. rises_at saves.safe to raised after m n saves.rises saves.top goes.grows order (cases_lt m after) (cases_lt n after);
        top = λ m. top_at saves.safe to raised after m saves.top goes.grows (cases_lt m after) (cases_lt after after);
        most = omega (arith, here, goes.most);
        within = λ m. most_at m to (saves.taken m) (length more) (length more) (omega (arith, saves.within m, longer)) (omega arith) (cases_lt m to);
        leaves = λ m u early upto shown. leaves_at m u early upto shown (cases_lt m after) (cases_lt m to) (cases_lt to m);
        doubts = λ u doubt. subst (λ k. LeftBy steps first s more k (length more) u) (sym here) (goes.doubts u doubt);
        all = λ none. here ∙ all none;
      }

  -- and what was safe at a moment is so still
  pub saves_keep : (m : ℕ) → saves.safe m ≤ saves_go.safe m
  unfolding saves_go
  saves_keep m = keeps_at m after (saves.safe m) raised (omega (arith, saves.top m, goes.grows)) (cases_lt m after)

-- the run goes on, and what was safe at a moment is so still
pub record Onward {X : Type 0} {steps : Steps X} {first : Tables → Type 0} {from : ℕ} {s : State} {done : List X} {old : ℕ → Tables → Type 0} {before : Tables → Type 0} {waits : Bool} {to : ℕ} {mid : State}
    (saves : Saves steps first from s done old before waits to mid) (more : List X) (new : ℕ → Tables → Type 0) (behind : Tables → Type 0) (wait : Bool) (after : ℕ) (last : State) : Type 0 where
  pub next : Saves steps first from s more new behind wait after last
  pub keeps : (m : ℕ) → saves.safe m ≤ next.safe m

pub onward : {X : Type 0} {steps : Steps X} {first : Tables → Type 0} {s : State} {done : List X} {old : ℕ → Tables → Type 0} {before : Tables → Type 0} {waits : Bool} {from to : ℕ} {mid : State}
    → (saves : Saves steps first from s done old before waits to mid) (more : List X) (new : ℕ → Tables → Type 0) (behind : Tables → Type 0) (wait : Bool) (after raised : ℕ) (last : State)
    → length done ≤ length more
    → ((k l : ℕ) (u : Tables) → k ≤ length done → LeftBy steps first s done k l u → LeftBy steps first s more k l u)
    → steps.run s more last → Goes steps first s more (saves.safe to) raised old new behind to after → (wait ≡ false → raised ≡ length more)
    → Onward saves more new behind wait after last
onward saves more new behind wait after raised last longer grow run goes all = record {
  next = saves_go saves more new behind wait after raised last longer grow run goes all;
  keeps = saves_keep saves more new behind wait after raised last longer grow run goes all;
}

-- ---- calls that begin no step

-- what a keeper tells over calls that secure what waits, done or not
pub record Secures (wait : Bool) (old new : ℕ → Tables → Type 0) (before behind : Tables → Type 0) (to after : ℕ) (last : State) : Type 0 where
  pub later : to ≤ after
  pub past : (m : ℕ) (u : Tables) → m ≤ to → new m u → old m u
  pub within : (m : ℕ) (u : Tables) → to < m → m ≤ after → new m u → (u ≡ last.tables) ⊎ before u
  pub rests : (u : Tables) → new after u → (u ≡ last.tables) ⊎ behind u

module _ {X : Type 0} {steps : Steps X} {first : Tables → Type 0} {s : State} {done : List X} {old : ℕ → Tables → Type 0} {before : Tables → Type 0} {waits : Bool} {from to : ℕ} {last : State}
    (saves : Saves steps first from s done old before waits to last) where
  left_two : (u : Tables) → (u ≡ last.tables) ⊎ before u → LeftBy steps first s done (saves.safe to) (length done) u
  left_two u (inl same) = left_last steps done (saves.safe to) (length done) last (omega arith) saves.run same
  left_two u (inr doubt) = saves.doubts u doubt

  -- what waited is secured: nothing is in doubt, and all steps are safe
  pub secure_done : (new : ℕ → Tables → Type 0) (behind : Tables → Type 0) (after : ℕ) → Secures false old new before behind to after last → ((u : Tables) → behind u → ⊥)
      → Onward saves done new behind false after last
  secure_done new behind after secures sure =
      onward saves done new behind false after (length done) last (omega arith) (λ k l u few left. left) saves.run
      (record {
        later = secures.later;
        past = secures.past;
        within = λ m u second upto shown. left_two u (secures.within m u second upto shown);
        rests = λ u shown. elim (secures.rests u shown) [
          | inl same ↦ left_last steps done (length done) (length done) last (omega arith) saves.run same
          | inr doubt ↦ absurd (sure u doubt)
        ];
        doubts = λ u doubt. absurd (sure u doubt);
        grows = saves.most;
        most = omega arith;
      })
      (λ none. refl)

  -- it failed: all is as it was, and the tables that are told may be left too
  pub secure_failed : (new : ℕ → Tables → Type 0) (behind : Tables → Type 0) (after : ℕ) → Secures waits old new before behind to after last
      → ((u : Tables) → behind u → (u ≡ last.tables) ⊎ before u) → Onward saves done new behind waits after last
  secure_failed new behind after secures doubts =
      onward saves done new behind waits after (saves.safe to) last (omega arith) (λ k l u few left. left) saves.run
      (record {
        later = secures.later;
        past = secures.past;
        within = λ m u second upto shown. left_two u (secures.within m u second upto shown);
        rests = λ u shown. elim (secures.rests u shown) [ inl same ↦ left_two u (inl same) | inr doubt ↦ left_two u (doubts u doubt) ];
        doubts = λ u doubt. left_two u (doubts u doubt);
        grows = omega arith;
        most = saves.most;
      })
      saves.all

-- what a keeper tells over calls that only read
pub record OnlyReads (old new : ℕ → Tables → Type 0) (before behind : Tables → Type 0) (to after : ℕ) : Type 0 where
  pub later : to ≤ after
  pub past : (m : ℕ) (u : Tables) → m ≤ to → new m u → old m u
  pub within : (m : ℕ) (u : Tables) → to ≤ m → m ≤ after → new m u → old to u
  pub doubts : (u : Tables) → behind u → before u

module _ {X : Type 0} {steps : Steps X} {first : Tables → Type 0} {s : State} {done : List X} {old : ℕ → Tables → Type 0} {before : Tables → Type 0} {waits : Bool} {from to : ℕ} {last : State}
    (saves : Saves steps first from s done old before waits to last) where
  left_there : (u : Tables) → old to u → LeftBy steps first s done (saves.safe to) (length done) u
  left_there u shown = left_fewer steps (omega arith) (saves.within to) (saves.leaves to u saves.later (omega arith) shown)

  -- what a crash leaves stays so
  pub saves_stay : (new : ℕ → Tables → Type 0) (behind : Tables → Type 0) (after : ℕ) → OnlyReads old new before behind to after → Onward saves done new behind waits after last
  saves_stay new behind after reads =
      onward saves done new behind waits after (saves.safe to) last (omega arith) (λ k l u few left. left) saves.run
      (record {
        later = reads.later;
        past = reads.past;
        within = λ m u second upto shown. left_there u (reads.within m u (omega (arith, second)) upto shown);
        rests = λ u shown. left_there u (reads.within after u reads.later (omega arith) shown);
        doubts = λ u doubt. saves.doubts u (reads.doubts u doubt);
        grows = omega arith;
        most = saves.most;
      })
      saves.all
