-- What a replay of calls leaves.
use Rattle.std.proofs.Common.{◌≡◌, ℕ, ◌+◌, ◌≤◌, Option, Some, None, List, [], ◌∷◌, ◌++◌, length, take, drop, ◌-◌, refl, sym, ap, subst, ◌∙◌, arith, length-take, length-drop, append-nil, append_assoc, Result, Ok, Err, IfOk}
use Rattle.std.proofs.lemmas.List.{drop-drop, take_all}
use Rattle.off_disk.specs.DiskCalls.{Torn}
use Rattle.off_memdisk.specs.MemDisks.{calls_of, total_of, written_in, reads_after, AllFit, LeftBy, MemDiskHeld, new_disk, IsCrashed}
use Rattle.off_outside.specs.InMemory.{CallsHeld}
use Rattle.off_memdisk.specs.MemDiskLaws.{reads_push, reads_sync, torn_left, synced_left}
use Rattle.off_memdisk.specs.Tearing.{CanStep, Steps}
use Rattle.off_memdisk.specs.declared.mem_disk.Mark.{Mark}
use Rattle.off_memdisk.specs.declared.mem_disk.Mark.TheVariants.{Wrote, Synced}
use Rattle.off_memdisk.specs.declared.tearing.Replay.{Replay}
use Rattle.off_memdisk.proofs.HeldLemmas.{written_size, held_of}

-- a torn write of fewer bytes is one of more
pub torn_wider : (at k n : ℕ) (b c : List ℕ) → k ≤ n → Torn at k b c → Torn at n b c
torn_wider at k n b c few torn =
    let far : at + n ≡ (at + k) + (n - k) = omega (arith, few) in
    record {
      before = torn.before;
      behind = ap (λ (m : ℕ). drop m c) far ∙ (sym (drop-drop (n - k) (at + k) c) ∙ (ap (λ (l : List ℕ). drop (n - k) l) torn.behind
          ∙ (drop-drop (n - k) (at + k) b ∙ ap (λ (m : ℕ). drop m b) (sym far))));
      no_shorter = torn.no_shorter;
      no_longer = omega (arith, torn.no_longer, few);
    }

-- After some of the calls: those are done, and the others are left.
pub record Replays (base : List ℕ) (marks : List Mark) (pieces : List ℕ) (rest : List Mark) (replay : Replay) : Type 0 where
  pub done : List (Option (ℕ × List ℕ))
  pub is : calls_of marks pieces ≡ done ++ calls_of rest (drop replay.taken pieces)
  pub reads : replay.reads.items ≡ reads_after base done
  pub left : LeftBy base (λ b. b ≡ base) done replay.image.items
  pub short : length replay.image.items ≤ length replay.reads.items
  pub joined : replay.taken + total_of rest ≡ length pieces
  pub fit : AllFit replay.reads.items (calls_of rest (drop replay.taken pieces))

can_step : (base : List ℕ) (marks more : List Mark) (mark : Mark) (pieces : List ℕ) (replay : Replay) → Replays base marks pieces (mark ∷ more) replay → CanStep mark (length pieces) replay
can_step base marks more (Wrote at len) pieces replay r = (omega (arith, r.joined), r.fit.0)
can_step base marks more Synced pieces replay r = tt

pub replay_can : (base : List ℕ) (marks left more : List Mark) (mark : Mark) (pieces : List ℕ) (replay : Replay) → Replays base marks pieces left replay → left ≡ mark ∷ more
    → CanStep mark (length pieces) replay
replay_can base marks left more mark pieces replay r is =
    can_step base marks more mark pieces replay (subst (λ (ms : List Mark). Replays base marks pieces ms replay) is r)

stepped : (base : List ℕ) (marks more : List Mark) (mark : Mark) (pieces : List ℕ) (old new : Replay) → Replays base marks pieces (mark ∷ more) old
    → Steps mark pieces old new → Replays base marks pieces more new
stepped base marks more (Wrote at len) pieces old new r s =
    let w : List ℕ = take len (drop old.taken pieces) in
    let long : length w ≡ len = omega (arith, length-take len (drop old.taken pieces), length-drop old.taken pieces, r.joined) in
    let rest : drop len (drop old.taken pieces) ≡ drop new.taken pieces =
    drop-drop len old.taken pieces ∙ ap (λ (n : ℕ). drop n pieces) (sym s.2) in
    let calls : Some (at, w) ∷ calls_of more (drop len (drop old.taken pieces)) ≡ Some (at, w) ∷ calls_of more (drop new.taken pieces) =
    ap (λ (p : List ℕ). Some (at, w) ∷ calls_of more p) rest in
    let torn : Torn at (length w) old.image.items new.image.items = subst (λ (n : ℕ). Torn at n old.image.items new.image.items) (sym long) s.1 in
    record {
      done = r.done ++ Some (at, w) ∷ [];
      is = r.is ∙ (ap (λ (cs : List (Option (ℕ × List ℕ))). r.done ++ cs) calls
          ∙ sym (append_assoc r.done (Some (at, w) ∷ []) (calls_of more (drop new.taken pieces))));
      reads = s.0 ∙ (ap (λ (b : List ℕ). written_in b at w) r.reads ∙ sym (reads_push base r.done (at, w)));
      left = torn_left base (λ b. b ≡ base) r.done (at, w) old.image.items new.image.items r.left torn;
      short = omega (arith, torn.no_longer, r.short, ap length s.0, written_size old.reads.items at w r.fit.0);
      joined = omega (arith, r.joined, s.2);
      fit = subst (λ (b : List ℕ). AllFit b (calls_of more (drop new.taken pieces))) (sym s.0)
          (subst (λ (p : List ℕ). AllFit (written_in old.reads.items at w) (calls_of more p)) rest r.fit.1);
    }
stepped base marks more Synced pieces old new r s =
    let calls : None ∷ calls_of more (drop old.taken pieces) ≡ None ∷ calls_of more (drop new.taken pieces) =
    ap (λ (n : ℕ). None ∷ calls_of more (drop n pieces)) (sym s.2) in
    record {
      done = r.done ++ None ∷ [];
      is = r.is ∙ (ap (λ (cs : List (Option (ℕ × List ℕ))). r.done ++ cs) calls
          ∙ sym (append_assoc r.done (None ∷ []) (calls_of more (drop new.taken pieces))));
      reads = s.0 ∙ (r.reads ∙ sym (reads_sync base r.done));
      left = subst (λ (b : List ℕ). LeftBy base (λ d. d ≡ base) (r.done ++ None ∷ []) b) (sym (s.1 ∙ r.reads)) (synced_left base (λ d. d ≡ base) r.done);
      short = omega (arith, ap length s.0, ap length s.1);
      joined = omega (arith, r.joined, s.2);
      fit = subst (λ (b : List ℕ). AllFit b (calls_of more (drop new.taken pieces))) (sym s.0)
          (subst (λ (n : ℕ). AllFit old.reads.items (calls_of more (drop n pieces))) (sym s.2) r.fit);
    }

pub replay_more : (base : List ℕ) (marks left more : List Mark) (mark : Mark) (pieces : List ℕ) (old new : Replay) → Replays base marks pieces left old → left ≡ mark ∷ more
    → Steps mark pieces old new → Replays base marks pieces more new
replay_more base marks left more mark pieces old new r is s =
    stepped base marks more mark pieces old new (subst (λ (ms : List Mark). Replays base marks pieces ms old) is r) s

pub replay_none : (base : List ℕ) (marks : List Mark) (pieces : List ℕ) (replay : Replay) → replay.reads.items ≡ base → replay.image.items ≡ base → replay.taken ≡ 0
    → total_of marks ≡ length pieces → AllFit base (calls_of marks pieces) → Replays base marks pieces marks replay
replay_none base marks pieces replay reads image taken joined fit = record {
  done = [];
  is = ap (λ (n : ℕ). calls_of marks (drop n pieces)) (sym taken);
  reads = reads;
  left = image;
  short = omega (arith, ap length reads, ap length image);
  joined = omega (arith, taken, joined);
  fit = subst (λ (b : List ℕ). AllFit b (calls_of marks (drop replay.taken pieces))) (sym reads) (subst (λ (n : ℕ). AllFit base (calls_of marks (drop n pieces))) (sym taken) fit);
}

replay_all : (base : List ℕ) (marks left : List Mark) (pieces : List ℕ) (replay : Replay) (r : Replays base marks pieces left replay) → left ≡ [] → calls_of marks pieces ≡ r.done
replay_all base marks left pieces replay r none =
    r.is ∙ (ap (λ (ms : List Mark). r.done ++ calls_of ms (drop replay.taken pieces)) none ∙ append-nil r.done)

pub replay_left : (base : List ℕ) (marks left : List Mark) (pieces : List ℕ) (replay : Replay) → Replays base marks pieces left replay → left ≡ []
    → LeftBy base (λ b. b ≡ base) (calls_of marks pieces) replay.image.items
replay_left base marks left pieces replay r none =
    subst (λ (cs : List (Option (ℕ × List ℕ))). LeftBy base (λ b. b ≡ base) cs replay.image.items) (sym (replay_all base marks left pieces replay r none)) r.left

pub replay_short : (base : List ℕ) (marks left : List Mark) (pieces : List ℕ) (replay : Replay) → Replays base marks pieces left replay → left ≡ []
    → length replay.image.items ≤ length (reads_after base (calls_of marks pieces))
replay_short base marks left pieces replay r none =
    omega (arith, r.short, ap length r.reads, ap (λ (cs : List (Option (ℕ × List ℕ))). length (reads_after base cs)) (replay_all base marks left pieces replay r none))

-- ---- a disk that a crash may leave

left_now : (base image : List ℕ) (marks : List Mark) (pieces : List ℕ) (room faults : ℕ) (failing : CallsHeld) → LeftBy base (λ b. b ≡ base) (calls_of marks pieces) image
    → IsCrashed (held_of base marks pieces room faults failing) (new_disk image room [])
left_now base image marks pieces room faults failing left = record {
  left = subst (λ (cs : List (Option (ℕ × List ℕ))). LeftBy base (λ b. b ≡ base) cs image)
      (sym (take_all (length (calls_of marks pieces)) (calls_of marks pieces) (omega arith))) left;
  is = refl;
}

pub crashed : {E : Type 0} (r : Result MemDiskHeld E) (now : MemDiskHeld) (base b image : List ℕ) (marks ms : List Mark) (pieces ps : List ℕ) (room faults : ℕ) (failing : CallsHeld) (fails : List ℕ)
    → held_of base marks pieces room faults failing ≡ now → b ≡ base → ms ≡ marks → ps ≡ pieces → LeftBy b (λ d. d ≡ b) (calls_of ms ps) image → fails ≡ []
    → IfOk r (λ disk. disk ≡ new_disk image room fails) → IfOk r (λ disk. IsCrashed now disk)
crashed {E} (Ok disk) now base b image marks ms pieces ps room faults failing fails is same also too left none made =
    let l : LeftBy base (λ d. d ≡ base) (calls_of marks pieces) image =
    subst (λ (x : List ℕ). LeftBy x (λ d. d ≡ x) (calls_of marks pieces) image) same
    (subst (λ (x : List Mark). LeftBy b (λ d. d ≡ b) (calls_of x pieces) image) also
    (subst (λ (x : List ℕ). LeftBy b (λ d. d ≡ b) (calls_of ms x) image) too left)) in
    subst (λ (m : MemDiskHeld). IsCrashed m disk) is
    (subst (λ (d : MemDiskHeld). IsCrashed (held_of base marks pieces room faults failing) d) (sym (made ∙ ap (λ (f : List ℕ). new_disk image room f) none))
    (left_now base image marks pieces room faults failing l))
crashed {E} (Err e) now base b image marks ms pieces ps room faults failing fails is same also too left none made = tt
