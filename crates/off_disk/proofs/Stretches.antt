-- What lies in a stretch of a disk.
use Rattle.std.proofs.Common.{◌≡◌, ℕ, ◌+◌, ◌≤◌, ◌-◌, List, length, take, drop, refl, sym, ap, subst, ◌∙◌, arith, length-take}
use Rattle.std.proofs.lemmas.List.{take-take, drop-take, drop-drop}
use Rattle.off_disk.specs.DiskSeen.{DiskSeen}
use Rattle.off_disk.specs.DiskCalls.{Kept, HasRead}
use Rattle.off_disk.specs.Ahead.{Shows, HasFilled, IsWithin}

-- nothing was asked of the disk
pub kept_self : (a : DiskSeen) → Kept a a
kept_self a = record {
  bytes = λ x told. (x, (told, refl));
  told = λ x told. (x, (told, refl));
  size = refl;
  passes = record {
    later = omega arith;
    past = λ m x before left. left;
    within = λ m x behind before left. absurd (omega (arith, behind, before));
  };
}

-- what is told behind readings was told before
pub told_back : {a b : DiskSeen} → Kept a b → (x : List ℕ) → b.bytes x → a.bytes x
told_back {a} k x told = let y = k.bytes x told in subst (λ (l : List ℕ). a.bytes l) (sym y.1.1) y.1.0

-- what was read is shown
pub filled_shows : (at count : ℕ) (room : List ℕ) (old new : DiskSeen) → HasRead at (take count room) old new → count ≤ length room → Shows at count room new
filled_shows at count room old new r fits b told =
    r.gives b (told_back r.kept b told) ∙ ap (λ (n : ℕ). take n (drop at b)) (omega (arith, length-take count room, fits))

-- a part of two lists that begin alike
inner : (from n rest : ℕ) (xs ys : List ℕ) → n ≤ rest → take (from + rest) xs ≡ take (from + rest) ys → take n (drop from xs) ≡ take n (drop from ys)
inner from n rest xs ys fits same =
    sym (take-take n rest (drop from xs) fits)
    ∙ (ap (λ (l : List ℕ). take n l) (sym (drop-take from rest xs) ∙ (ap (λ (l : List ℕ). drop from l) same ∙ drop-take from rest ys))
    ∙ take-take n rest (drop from ys) fits)

pub reached : (at n first count : ℕ) (disk : DiskSeen) → IsWithin at n first count → HasFilled at n first count disk disk
reached at n first count disk within = record { kept = kept_self disk; faults = refl; within = within }

-- a read that lies in the stretch gives what the disk has
pub within_reads : (at n from first count : ℕ) (out room : List ℕ) (old new : DiskSeen) → HasFilled at n first count old new → Shows first count room new
    → at ≡ first + from → out ≡ take n (drop from room) → length out ≡ n → HasRead at out old new
within_reads at n from first count out room old new filled shows place is long =
    let within = filled.within in
    record {
      gives = λ b told.
          let rest = count - from in
          let here = filled.kept.told b told in
          let whole : from + rest ≡ count = omega (arith, within.before, place) in
          let shown : take count room ≡ take count (drop first b) =
          subst (λ (l : List ℕ). take count room ≡ take count (drop first l)) here.1.1 (shows here.0 here.1.0) in
          let alike : take (from + rest) room ≡ take (from + rest) (drop first b) =
          ap (λ (k : ℕ). take k room) whole ∙ (shown ∙ sym (ap (λ (k : ℕ). take k (drop first b)) whole)) in
          is ∙ (inner from n rest room (drop first b) (omega (arith, within.before, place)) alike
          ∙ (ap (λ (l : List ℕ). take n l) (drop-drop from first b ∙ ap (λ (k : ℕ). drop k b) (omega (arith, place)))
          ∙ ap (λ (k : ℕ). take k (drop at b)) (sym long)));
      kept = filled.kept;
      faults = filled.faults;
    }
