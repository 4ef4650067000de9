-- The input of a job, piece by piece.
use Rattle.std.proofs.Common.{◌≡◌, ℕ, ◌+◌, ◌<◌, ◌≤◌, List, [], ◌++◌, length, take, refl, sym, ap, ◌∙◌, subst, arith, append_assoc, append-nil, length-append, length-take, inr}
use Rattle.std.proofs.lemmas.List.{nil_from_length}
use Rattle.off_defs.specs.Counts.{Grew, one_more}
use Rattle.off_defs.proofs.ToldLemmas.{told_then, told_weaker, told_self, then_stays}
use Rattle.off_defs.proofs.CountLemmas.{later_grew}
use Rattle.off_outside.specs.Streams.{SourceSeen, Gave}
use Rattle.off_outside.proofs.StreamLemmas.{ends_met, ends_full}
use Rattle.off_jobs.specs.declared.input.InputErr.{InputErr}
use Rattle.off_jobs.specs.declared.input.InputErr.TheVariants.{TooLong, Failed, Memory}
use Rattle.off_jobs.specs.Input.{Took, TookAll, TookTooMany, TookPiece, LostPiece, NoPiece, NoInput}

gave_took : {n : ℕ} {out : List ℕ} {old new : SourceSeen} → Gave n out old new → Took (take n out) 1 old new
gave_took {n} {out} {old} {new} gave = record {
  left = told_weaker gave.left (λ x y fits. fits.0);
  up = gave.up;
  faults = gave.faults;
  calls = omega (arith, gave.calls);
}

-- a read that gave nothing, where there was room
pub gave_end : {n room : ℕ} {out bytes : List ℕ} {old new : SourceSeen} → Gave n out old new → n ≡ 0 → 0 < length out → 0 < room → TookPiece 0 room bytes bytes old new
gave_end {n} {room} {out} {bytes} {old} {new} gave none some wanted = record {
  piece = [];
  long = refl;
  fits = omega arith;
  joined = sym (append-nil bytes);
  took = subst (λ v. Took v 1 old new) (ap (λ k. take k out) none) (gave_took gave);
  end = λ zero. told_weaker gave.left (λ x y fits. fits.1 none some);
  ends = gave.ends ∙ (ends_met n (length out) old.ends none some ∙ sym (ends_met 0 room old.ends refl wanted));
}

-- a read that gave bytes, for which memory was wanted
pub gave_lost : {n room : ℕ} {out : List ℕ} {old new : SourceSeen} → Gave n out old new → 0 < n → n ≤ length out → length out ≤ room → LostPiece room old new
gave_lost {n} {room} {out} {old} {new} gave some within fits = record {
  piece = take n out;
  some = omega (arith, length-take n out);
  fits = omega (arith, length-take n out);
  took = gave_took gave;
  ends = gave.ends ∙ ends_full n (length out) old.ends some;
}

pub took_none : (s : SourceSeen) → Took [] 0 s s
took_none s = record { left = told_self (λ x. refl); up = λ up. up; faults = refl; calls = omega arith }

pub took_then : {xs ys : List ℕ} {m n : ℕ} {a b c : SourceSeen} → Took xs m a b → Took ys n b c → Took (xs ++ ys) (m + n) a c
took_then {xs} {ys} p q = record {
  left = told_then p.left q.left (λ x y z before after. before ∙ (ap (λ v. xs ++ v) after ∙ sym (append_assoc xs ys z)));
  up = λ up. q.up (p.up up);
  faults = q.faults ∙ p.faults;
  calls = omega (arith, p.calls, q.calls);
}

-- a bound that is greater is one as well
pub took_within : {xs : List ℕ} {m n : ℕ} {a b : SourceSeen} → m ≤ n → Took xs m a b → Took xs n a b
took_within le p = record { left = p.left; up = p.up; faults = p.faults; calls = omega (arith, p.calls) }

-- what was taken so far, within the limit and one over it
pub record SoFar (most : ℕ) (bytes : List ℕ) (old new : SourceSeen) : Type 0 where
  pub took : Took bytes (length bytes) old new
  pub within : length bytes ≤ most + 1
  pub ends : new.ends ≡ old.ends

pub so_far_none : (most : ℕ) (s : SourceSeen) → SoFar most [] s s
so_far_none most s = record { took = took_none s; within = omega arith; ends = refl }

pub so_far_more : {most count room : ℕ} {bytes longer : List ℕ} {a b c : SourceSeen} → SoFar most bytes a b → TookPiece count room bytes longer b c
    → room + length bytes ≤ most + 1 → (count ≡ 0 → ⊥) → SoFar most longer a c
so_far_more {most} {count} {room} {bytes} {longer} {a} {b} {c} p q room_is some = record {
  took = (let more : length bytes + 1 ≤ length longer = omega (arith, ap length q.joined, length-append bytes q.piece, q.long) in
      took_within more (subst (λ v. Took v (length bytes + 1) a c) (sym q.joined) (took_then p.took q.took)));
  within = omega (arith, ap length q.joined, length-append bytes q.piece, q.long, q.fits);
  ends = q.ends ∙ (ends_full count room b.ends (omega (arith, some)) ∙ p.ends);
}

pub longer_by : {count room : ℕ} {bytes longer : List ℕ} {b c : SourceSeen} → TookPiece count room bytes longer b c → length longer ≡ length bytes + count
longer_by {count} {room} {bytes} {longer} q = omega (arith, ap length q.joined, length-append bytes q.piece, q.long)

-- the end of the source
pub at_end : {most room : ℕ} {bytes longer : List ℕ} {a b c : SourceSeen} → SoFar most bytes a b → TookPiece 0 room bytes longer b c → length bytes ≤ most → 0 < room → TookAll most longer a c
at_end {most} {room} {bytes} {longer} {a} {b} {c} p q short wanted =
    let none : q.piece ≡ [] = nil_from_length q.piece q.long in
    let same : longer ≡ bytes = q.joined ∙ (ap (λ v. bytes ++ v) none ∙ append-nil bytes) in
    record {
      short = omega (arith, ap length same);
      left = record {
        each = λ x t.
            let g = p.took.left.each x t in
            let h = q.took.left.each g.value g.told in
            let e = (q.end refl).each g.value g.told in
            let rest : h.value ≡ [] = sym (h.fits ∙ ap (λ v. v ++ h.value) none) ∙ e.fits in
            record { value = h.value; told = h.told; fits = (g.fits ∙ (ap (λ v. bytes ++ v) e.fits ∙ (append-nil bytes ∙ sym same)), rest) };
      };
      took = (let few : length bytes + 1 ≤ length longer + 1 = omega (arith, ap length same) in
          took_within few (subst (λ v. Took v (length bytes + 1) a c) (sym q.joined) (took_then p.took q.took)));
      ends = q.ends ∙ (ends_met 0 room b.ends refl wanted ∙ ap one_more p.ends);
    }

pub no_input : {most : ℕ} (err : InputErr) (bytes : List ℕ) (room : ℕ) (a b c : SourceSeen) → SoFar most bytes a b → length bytes ≤ most → room + length bytes ≤ most + 1
    → NoPiece err room b c → NoInput most err a c
no_input {most} TooLong bytes room a b c p short room_is q = absurd q
no_input {most} Failed bytes room a b c p short room_is q =
    let grew : Grew 1 a.faults c.faults = later_grew (omega (arith, p.took.faults)) q.faults in
    record {
      bytes = bytes;
      few = short;
      left = then_stays p.took.left q.left;
      up = λ up. inr grew;
      faults = grew;
      calls = omega (arith, p.took.calls, q.calls);
      ends = q.ends ∙ p.ends;
    }
no_input {most} Memory bytes room a b c p short room_is q =
    let size = length-append bytes q.piece in
    record {
      bytes = bytes ++ q.piece;
      few = omega (arith, q.fits);
      took = took_within (omega (arith, q.some)) (took_then p.took q.took);
      ends = q.ends ∙ p.ends;
    }

pub too_many : {most : ℕ} {bytes : List ℕ} {a b : SourceSeen} → SoFar most bytes a b → most < length bytes → TookTooMany most a b
too_many {most} {bytes} p over = record { bytes = bytes; over = omega (arith, p.within); took = p.took; ends = p.ends }
