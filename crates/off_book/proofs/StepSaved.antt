-- A run with one more step: one whose writes wait, or one after which none do.
use Rattle.std.proofs.Common.{◌≡◌, ℕ, ◌+◌, ◌<◌, ◌≤◌, ◌⊎◌, Bool, true, false, List, [], ◌∷◌, ◌++◌, length, refl, sym, subst, inl, inr, arith, length-append}
use Rattle.off_defs.specs.declared.results.Outcome.{Outcome}
use Rattle.off_defs.specs.declared.results.Outcome.TheVariants.{Did, Memory, Keeper}
use Rattle.off_defs.specs.declared.writes.Write.{Write}
use Rattle.off_defs.specs.State.{Tables, State}
use Rattle.off_defs.specs.Tables.{doubt_behind}
use Rattle.off_book.specs.Crashes.{unless_memory, doubt_in, Steps, LeftBy, Saves}
use Rattle.off_book.proofs.CrashLemmas.{InDoubt}
use Rattle.off_book.proofs.LeftLemmas.{left_fewer, left_grow, left_nothing, left_last, left_begun, left_failed}
use Rattle.off_book.proofs.SavesLemmas.{Onward, onward}

-- What a keeper tells over one more step, which it began at the moment `to` over the tables of `mid`, and answered at `after`; `waits` and `wait` tell whether writes wait before and after it.
pub record OneStep {X : Type 0} (steps : Steps X) (waits wait : Bool) (old new : ℕ → Tables → Type 0) (before behind : Tables → Type 0) (to after : ℕ) (mid last : State) (step : X) : Type 0 where
  pub later : to ≤ after
  pub past : (m : ℕ) (u : Tables) → m ≤ to → new m u → old m u
  pub within : (m : ℕ) (u : Tables) → to < m → m ≤ after → new m u → (u ≡ mid.tables) ⊎ (before u ⊎ unless_memory (steps.outcome step) (steps.begins mid step u))
  pub doubts : (u : Tables) → behind u → InDoubt steps wait before mid step u
  pub rests : (u : Tables) → new after u → (u ≡ last.tables) ⊎ behind u
  -- what waited waits still, or the step has committed it
  pub clears : wait ≡ false → (waits ≡ false) ⊎ (steps.commit step ≡ [] → ⊥)

module _ {X : Type 0} {steps : Steps X} {first : Tables → Type 0} {s : State} {done : List X} {old : ℕ → Tables → Type 0} {before : Tables → Type 0} {waits : Bool} {from to : ℕ} {mid : State}
    (saves : Saves steps first from s done old before waits to mid) where
  -- the tables before a step, or what was in doubt before it, or what it begins
  left_three : (step : X) (u : Tables) → (u ≡ mid.tables) ⊎ (before u ⊎ unless_memory (steps.outcome step) (steps.begins mid step u))
      → LeftBy steps first s (done ++ step ∷ []) (saves.safe to) (length done + 1) u
  left_three step u (inl same) = left_grow steps (step ∷ []) saves.most (left_last steps done (saves.safe to) (length done + 1) mid (omega arith) saves.run same)
  left_three step u (inr (inl doubt)) = left_grow steps (step ∷ []) saves.most (left_fewer steps (omega arith) (omega arith) (saves.doubts u doubt))
  left_three step u (inr (inr begun)) = left_begun steps done (saves.safe to) (length done + 1) mid step saves.most (omega arith) saves.run begun

  left_either : (step : X) (u : Tables) → InDoubt steps true before mid step u → LeftBy steps first s (done ++ step ∷ []) (saves.safe to) (length done + 1) u
  left_either step u (inl doubt) = left_three step u (inr (inl doubt))
  left_either step u (inr (inl same)) = left_three step u (inl same)
  left_either step u (inr (inr begun)) = left_three step u (inr (inr begun))

  -- after a step whose writes, if any, are done
  left_done : (step : X) (u : Tables) → (waits ≡ false) ⊎ (steps.commit step ≡ [] → ⊥) → (commit : List Write) → steps.commit step ≡ commit → (outcome : Outcome) → steps.outcome step ≡ outcome
      → doubt_behind commit (doubt_in outcome (before u) (steps.begins mid step u)) → LeftBy steps first s (done ++ step ∷ []) (length done + 1) (length done + 1) u
  left_done step u clears (write ∷ writes) is outcome how doubt = absurd doubt
  left_done step u (inr some) [] is outcome how doubt = absurd (some is)
  left_done step u (inl none) [] is Did how doubt = left_fewer steps (omega arith) (omega arith) (left_nothing steps step (saves.all none) is (saves.doubts u doubt))
  left_done step u (inl none) [] is Memory how doubt = left_fewer steps (omega arith) (omega arith) (left_nothing steps step (saves.all none) is (saves.doubts u doubt))
  left_done step u (inl none) [] is Keeper how (inl doubt) = left_fewer steps (omega arith) (omega arith) (left_nothing steps step (saves.all none) is (saves.doubts u doubt))
  left_done step u (inl none) [] is Keeper how (inr begun) =
      left_failed steps done (length done + 1) (length done + 1) mid step is (omega arith) saves.run (subst (λ o. unless_memory o (steps.begins mid step u)) (sym how) begun)

  -- one step more, whose writes wait, or that wrote nothing after writes that wait
  pub step_waits : (new : ℕ → Tables → Type 0) (behind : Tables → Type 0) (after : ℕ) (last : State) (step : X) → steps.run s (done ++ step ∷ []) last
      → OneStep steps waits true old new before behind to after mid last step → Onward saves (done ++ step ∷ []) new behind true after last
  step_waits new behind after last step run one =
      let size : length (done ++ step ∷ []) ≡ length done + 1 = length-append done (step ∷ []) in
      let as_long : (k : ℕ) (u : Tables) → LeftBy steps first s (done ++ step ∷ []) k (length done + 1) u → LeftBy steps first s (done ++ step ∷ []) k (length (done ++ step ∷ [])) u =
      λ k u left. left_fewer steps (omega arith) (omega (arith, size)) left in
      onward saves (done ++ step ∷ []) new behind true after (saves.safe to) last (omega (arith, size)) (λ k l u few left. left_grow steps (step ∷ []) few left) run
      (record {
        later = one.later;
        past = one.past;
        within = λ m u second upto shown. as_long (saves.safe to) u (left_three step u (one.within m u second upto shown));
        rests = λ u shown. elim (one.rests u shown) [
          | inl same ↦ left_last steps (done ++ step ∷ []) (saves.safe to) (length (done ++ step ∷ [])) last (omega arith) run same
          | inr doubt ↦ as_long (saves.safe to) u (left_either step u (one.doubts u doubt))
        ];
        doubts = λ u doubt. as_long (saves.safe to) u (left_either step u (one.doubts u doubt));
        grows = omega arith;
        most = omega (arith, size, saves.most);
      })
      (λ never. absurd (let e : true ≡ false = never in cc))

  -- one step more, after which no writes wait
  pub step_done : (new : ℕ → Tables → Type 0) (behind : Tables → Type 0) (after : ℕ) (last : State) (step : X) → steps.run s (done ++ step ∷ []) last
      → OneStep steps waits false old new before behind to after mid last step → Onward saves (done ++ step ∷ []) new behind false after last
  step_done new behind after last step run one =
      let size : length (done ++ step ∷ []) ≡ length done + 1 = length-append done (step ∷ []) in
      let sure : (u : Tables) → behind u → LeftBy steps first s (done ++ step ∷ []) (length done + 1) (length (done ++ step ∷ [])) u =
      λ u doubt. left_fewer steps (omega arith) (omega (arith, size)) (left_done step u (one.clears refl) (steps.commit step) refl (steps.outcome step) refl (one.doubts u doubt)) in
      onward saves (done ++ step ∷ []) new behind false after (length done + 1) last (omega (arith, size)) (λ k l u few left. left_grow steps (step ∷ []) few left) run
      (record {
        later = one.later;
        past = one.past;
        within = λ m u second upto shown. left_fewer steps (omega arith) (omega (arith, size)) (left_three step u (one.within m u second upto shown));
        rests = λ u shown. elim (one.rests u shown) [
          | inl same ↦ left_last steps (done ++ step ∷ []) (length done + 1) (length (done ++ step ∷ [])) last (omega arith) run same
          | inr doubt ↦ sure u doubt
        ];
        doubts = sure;
        grows = omega (arith, saves.most);
        most = omega (arith, size);
      })
      (λ none. sym size)
