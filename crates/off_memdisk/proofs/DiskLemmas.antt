-- What the calls of a disk in memory tell.
use Rattle.std.proofs.Common.{◌≡◌, ℕ, ◌+◌, ◌<◌, ◌≤◌, Option, Some, None, List, [], ◌∷◌, ◌++◌, length, take, drop, refl, sym, ap, subst, ◌∙◌, arith, length-append, Result, Ok, Err, MatchResult}
use Rattle.std.proofs.lemmas.List.{take-append-le, take_all}
use Rattle.off_defs.specs.Counts.{Grew, one_more}
use Rattle.off_outside.specs.declared.link.Failed.{Failed}
use Rattle.off_disk.specs.DiskCalls.{Same, Torn, Passes, Kept, HasRead, NotRead, HasWritten, NotWritten, HasSynced, NotSynced}
use Rattle.off_memdisk.specs.MemDisks.{written_in, reads_after, AllFit, LeftBy, MemDiskHeld, IsSound, disk_seen, mem_seen, reads_as, most_bytes, MemRead, MemWrote, MemSynced, MemCounts, MemNotRead, MemNotWritten, MemNotSynced}
use Rattle.off_memdisk.specs.MemDiskLaws.{left_torn, left_synced, left_reads, reads_push, reads_sync, fit_push, fit_sync}
use Rattle.off_memdisk.proofs.HeldLemmas.{written_size}
use Rattle.off_disk.proofs.Moments.{whole_torn, torn_self}

-- the calls up to a moment, behind one more
early : (cs : List (Option (ℕ × List ℕ))) (x : Option (ℕ × List ℕ)) (k : ℕ) → k ≤ length cs → take k (cs ++ x ∷ []) ≡ take k cs
early cs x k few = take-append-le k cs (x ∷ []) few

late : (cs : List (Option (ℕ × List ℕ))) (x : Option (ℕ × List ℕ)) (k : ℕ) → length cs < k → k ≤ length (cs ++ x ∷ []) → take k (cs ++ x ∷ []) ≡ cs ++ x ∷ []
late cs x k many few = take_all k (cs ++ x ∷ []) (omega (arith, many, length-append cs (x ∷ [])))

module _ (b : List ℕ) (cs : List (Option (ℕ × List ℕ))) (x : Option (ℕ × List ℕ)) where
  before : (k : ℕ) (c : List ℕ) → k ≤ length cs → LeftBy b (λ d. d ≡ b) (take k (cs ++ x ∷ [])) c → LeftBy b (λ d. d ≡ b) (take k cs) c
  before k c few left = subst (λ (ds : List (Option (ℕ × List ℕ))). LeftBy b (λ d. d ≡ b) ds c) (early cs x k few) left

  behind : (k : ℕ) (c : List ℕ) → length cs < k → k ≤ length (cs ++ x ∷ []) → LeftBy b (λ d. d ≡ b) (take k (cs ++ x ∷ [])) c → LeftBy b (λ d. d ≡ b) (cs ++ x ∷ []) c
  behind k c many few left = subst (λ (ds : List (Option (ℕ × List ℕ))). LeftBy b (λ d. d ≡ b) ds c) (late cs x k many few) left

  now : (d : List ℕ) → LeftBy b (λ e. e ≡ b) cs d → LeftBy b (λ e. e ≡ b) (take (length cs) cs) d
  now d left = subst (λ (ds : List (Option (ℕ × List ℕ))). LeftBy b (λ e. e ≡ b) ds d) (sym (take_all (length cs) cs (omega arith))) left

passes_write : (b : List ℕ) (cs : List (Option (ℕ × List ℕ))) (at : ℕ) (piece : List ℕ) (f g : ℕ)
    → Passes (Torn at (length piece)) (disk_seen b (cs) f)
    (disk_seen b (cs ++ Some (at, piece) ∷ []) g)
passes_write b cs at piece f g = record {
  later = omega (arith, length-append cs (Some (at, piece) ∷ []));
  past = λ k c few left. before b cs (Some (at, piece)) k c few left;
  within = λ k c many few left.
      let d = left_torn b (λ e. e ≡ b) cs (at, piece) c (behind b cs (Some (at, piece)) k c many few left) in
      (d.0, (now b cs (Some (at, piece)) d.0 d.1.0, d.1.1));
}

passes_sync : (b : List ℕ) (cs : List (Option (ℕ × List ℕ))) (f g : ℕ) → AllFit b cs
    → Passes Same (disk_seen b (cs) f) (disk_seen b (cs ++ None ∷ []) g)
passes_sync b cs f g fit = record {
  later = omega (arith, length-append cs (None ∷ []));
  past = λ k c few left. before b cs None k c few left;
  within = λ k c many few left.
      (reads_after b cs, (now b cs None (reads_after b cs) (left_reads b (λ e. e ≡ b) cs fit refl), left_synced b (λ e. e ≡ b) cs c (behind b cs None k c many few left)));
}

mem_written : (b : List ℕ) (cs : List (Option (ℕ × List ℕ))) (at : ℕ) (piece : List ℕ) (f : ℕ) → IsSound b cs → at ≤ length (reads_after b cs)
    → length (written_in (reads_after b cs) at piece) ≤ most_bytes
    → HasWritten at piece (disk_seen b (cs) f)
    (disk_seen b (cs ++ Some (at, piece) ∷ []) f)
mem_written b cs at piece f sound fits small =
    let reads = reads_push b cs (at, piece) in
    let torn = whole_torn (reads_after b cs) at piece fits in
    let after : IsSound b (cs ++ Some (at, piece) ∷ []) = record { fit = fit_push b cs (at, piece) sound.fit fits; small = omega (arith, small, ap length reads) } in
    record {
      bytes = λ c told. (reads_after b cs, ((refl, sound), told.0 ∙ reads));
      told = λ c told. (reads_after b (cs ++ Some (at, piece) ∷ []), ((refl, after), reads ∙ ap (λ (x : List ℕ). written_in x at piece) (sym told.0)));
      size = omega (arith, ap length reads, small, sound.small, written_size (reads_after b cs) at piece fits);
      passes = passes_write b cs at piece f f;
      faults = refl;
    }

mem_synced : (b : List ℕ) (cs : List (Option (ℕ × List ℕ))) (f : ℕ) → IsSound b cs
    → HasSynced (disk_seen b (cs) f) (disk_seen b (cs ++ None ∷ []) f)
mem_synced b cs f sound =
    let reads = reads_sync b cs in
    let after : IsSound b (cs ++ None ∷ []) = record { fit = fit_sync b cs sound.fit; small = omega (arith, sound.small, ap length reads) } in
    record {
      kept = record {
        bytes = λ c told. (reads_after b cs, ((refl, sound), told.0 ∙ reads));
        told = λ c told. (reads_after b (cs ++ None ∷ []), ((refl, after), reads ∙ sym told.0));
        size = omega (arith, ap length reads);
        passes = passes_sync b cs f f sound.fit;
      };
      sure = λ c left. (left_synced b (λ e. e ≡ b) cs c (subst (λ (ds : List (Option (ℕ × List ℕ))). LeftBy b (λ e. e ≡ b) ds c) (take_all (length (cs ++ None ∷ [])) (cs ++ None ∷ []) (omega arith)) left) ∙ sym reads, after);
      faults = refl;
    }

-- a call that does nothing
mem_same : (b : List ℕ) (cs : List (Option (ℕ × List ℕ))) (f g : ℕ)
    → Kept (disk_seen b (cs) f) (disk_seen b (cs) g)
mem_same b cs f g = record {
  bytes = λ c told. (c, (told, refl));
  told = λ c told. (c, (told, refl));
  size = refl;
  passes = record {
    later = omega arith;
    past = λ k c few left. left;
    within = λ k c many few left. absurd (omega (arith, many, few));
  };
}

mem_not_written : (b : List ℕ) (cs : List (Option (ℕ × List ℕ))) (at n f g : ℕ) → Grew 1 f g
    → NotWritten at n (disk_seen b (cs) f) (disk_seen b (cs) g)
mem_not_written b cs at n f g grew = record {
  bytes = λ c told. (c, (told, torn_self at n c));
  told = λ c told. (c, (told, torn_self at n c));
  no_shorter = omega arith;
  no_longer = omega arith;
  passes = record {
    later = omega arith;
    past = λ k c few left. left;
    within = λ k c many few left. absurd (omega (arith, many, few));
  };
  faults = grew;
}

-- ---- what is told of each call

counted : (old new : MemDiskHeld) → MemCounts old new → Grew 1 old.faults new.faults
counted old new c = subst (λ (m : MemDiskHeld). Grew 1 old.faults m.faults) (sym c.after) (record { later = omega (arith, c.fits); grew = omega arith })

uncalled : (old new : MemDiskHeld) → MemCounts old new → Kept (mem_seen old) (mem_seen new)
uncalled old new c = subst (λ (m : MemDiskHeld). Kept (mem_seen old) (mem_seen m)) (sym c.after) (mem_same old.base old.calls old.faults (one_more old.faults))

pub read_tells : (r : Result (Unit {0}) Failed) (at : ℕ) (out : List ℕ) (old new : MemDiskHeld)
    → MatchResult r (λ _. MemRead at out old new) (λ _. MemNotRead old new)
    → MatchResult r (λ _. HasRead at out (mem_seen old) (mem_seen new)) (λ _. NotRead (mem_seen old) (mem_seen new))
read_tells (Ok x) at out old new m = record {
  gives = λ b told. m.gives ∙ ap (λ (l : List ℕ). take (length out) (drop at l)) (sym told.0);
  kept = subst (λ (n : MemDiskHeld). Kept (mem_seen old) (mem_seen n)) (sym m.after) (mem_same old.base old.calls old.faults old.faults);
  faults = ap (λ (n : MemDiskHeld). n.faults) m.after;
}
read_tells (Err x) at out old new m = record { kept = uncalled old new m.counts; faults = counted old new m.counts }

pub write_tells : (r : Result (Unit {0}) Failed) (at : ℕ) (piece : List ℕ) (old new : MemDiskHeld) → IsSound old.base old.calls → at ≤ length (reads_as old)
    → MatchResult r (λ _. MemWrote at piece old new) (λ _. MemNotWritten at (length piece) old new)
    → MatchResult r (λ _. HasWritten at piece (mem_seen old) (mem_seen new)) (λ _. NotWritten at (length piece) (mem_seen old) (mem_seen new))
write_tells (Ok x) at piece old new sound fits m =
    subst (λ (n : MemDiskHeld). HasWritten at piece (mem_seen old) (mem_seen n)) (sym m.after)
    (mem_written old.base old.calls at piece old.faults sound fits (omega (arith, sound.small, m.room.small, written_size (reads_as old) at piece fits)))
write_tells (Err x) at piece old new sound fits m =
    subst (λ (n : MemDiskHeld). NotWritten at (length piece) (mem_seen old) (mem_seen n)) (sym m.counts.after)
    (mem_not_written old.base old.calls at (length piece) old.faults (one_more old.faults) (record { later = omega (arith, m.counts.fits); grew = omega arith }))

pub sync_tells : (r : Result (Unit {0}) Failed) (old new : MemDiskHeld) → IsSound old.base old.calls
    → MatchResult r (λ _. MemSynced old new) (λ _. MemNotSynced old new)
    → MatchResult r (λ _. HasSynced (mem_seen old) (mem_seen new)) (λ _. NotSynced (mem_seen old) (mem_seen new))
sync_tells (Ok x) old new sound m =
    subst (λ (n : MemDiskHeld). HasSynced (mem_seen old) (mem_seen n)) (sym m.after) (mem_synced old.base old.calls old.faults sound)
sync_tells (Err x) old new sound m = record { kept = uncalled old new m.counts; faults = counted old new m.counts }
