-- What a source in memory gives is what it tells of it.
use Rattle.std.proofs.Common.{◌≡◌, ℕ, zero, suc, ◌<◌, ◌≤◌, List, [], ◌++◌, Result, Ok, Err, MatchResult, IfOk, length, take, drop, refl, sym, ap, ◌∙◌, subst, inl, arith, length-take}
use Rattle.std.proofs.Math.Seq.{take-append_seam}
use Rattle.std.proofs.lemmas.List.{take-append-drop, nil_from_length}
use Rattle.off_defs.proofs.ToldLemmas.{told_known}
use Rattle.off_defs.specs.Counts.{Grew, one_more}
use Rattle.off_outside.specs.declared.link.Failed.{Failed}
use Rattle.off_outside.specs.Streams.{Gave, NotGiven, ends_after}
use Rattle.off_outside.specs.InMemory.{MemSourceHeld, MemGave, MemNotGiven, source_seen}

pub ends_met : (n room ends : ℕ) → n ≡ 0 → 0 < room → ends_after n room ends ≡ one_more ends
ends_met zero zero ends none some = absurd (omega arith)
ends_met zero (suc room) ends none some = refl
ends_met (suc n) room ends none some = absurd (omega arith)

pub ends_full : (n room ends : ℕ) → 0 < n → ends_after n room ends ≡ ends
ends_full zero room ends some = absurd (omega arith)
ends_full (suc n) room ends some = refl

pub ends_roomless : (n room ends : ℕ) → room ≡ 0 → ends_after n room ends ≡ ends
ends_roomless zero zero ends none = refl
ends_roomless zero (suc room) ends none = absurd (omega arith)
ends_roomless (suc n) room ends none = refl

pub ruleset ends_rules = (ends_met, ends_full, ends_roomless)

front_of : (n : ℕ) (left rest : List ℕ) → n ≤ length left → take n (take n left ++ rest) ≡ take n left
front_of n left rest within =
    let len : length (take n left) ≡ n = omega (arith, length-take n left) in
    ap (λ k. take k (take n left ++ rest)) (sym len) ∙ take-append_seam (take n left) rest

pub mem_gave_tells : {n : ℕ} {before after : List ℕ} {old new : MemSourceHeld} → MemGave n before after old new → length after ≡ length before → Gave n after (source_seen old) (source_seen new)
mem_gave_tells {n} {before} {after} {old} {new} gave same = record {
  left = told_known
      (let within : n ≤ length old.left = omega (arith, gave.count) in
      let front : take n after ≡ take n old.left = ap (λ v. take n v) gave.filled ∙ front_of n old.left (drop n before) within in
      let whole : old.left ≡ take n after ++ drop n old.left = sym (ap (λ v. v ++ drop n old.left) front ∙ take-append-drop n old.left) in (
        subst (λ (m : MemSourceHeld). old.left ≡ take n after ++ m.left) (sym gave.after_it) whole,
        λ zero some. nil_from_length old.left (omega (arith, gave.count)),
      ));
  up = λ up. up;
  faults = ap (λ (m : MemSourceHeld). m.faults) gave.after_it;
  calls = ap (λ (m : MemSourceHeld). m.calls.made) gave.after_it;
  ends = ap (λ (m : MemSourceHeld). m.ends) gave.after_it ∙ ap (λ k. ends_after n k old.ends) (sym same);
}

not_given_tells : {before after : List ℕ} {old new : MemSourceHeld} → MemNotGiven before after old new → NotGiven (source_seen old) (source_seen new)
not_given_tells {old = old} {new = new} not_given = record {
  left = told_known (ap (λ (m : MemSourceHeld). m.left) not_given.after_it);
  up = λ up. inl up;
  faults = subst (λ (m : MemSourceHeld). Grew 1 old.faults m.faults) (sym not_given.after_it) (record { later = omega (arith, not_given.fits); grew = omega arith });
  calls = ap (λ (m : MemSourceHeld). m.calls.made) not_given.after_it;
  ends = ap (λ (m : MemSourceHeld). m.ends) not_given.after_it;
}

pub read_tells : (r : Result ℕ Failed) (before after : List ℕ) (old new : MemSourceHeld)
    → MatchResult r (λ n. MemGave n before after old new) (λ _. MemNotGiven before after old new) → length after ≡ length before
    → MatchResult r (λ n. Gave n after (source_seen old) (source_seen new)) (λ _. NotGiven (source_seen old) (source_seen new))
read_tells (Ok n) before after old new gave same = mem_gave_tells gave same
read_tells (Err e) before after old new not_given same = not_given_tells not_given

pub read_room : (r : Result ℕ Failed) (before after : List ℕ) (old new : MemSourceHeld)
    → MatchResult r (λ n. MemGave n before after old new) (λ _. MemNotGiven before after old new) → length after ≡ length before
    → IfOk r (λ n. n ≤ length after)
read_room (Ok n) before after old new gave same = omega (arith, gave.count)
read_room (Err e) before after old new not_given same = tt
