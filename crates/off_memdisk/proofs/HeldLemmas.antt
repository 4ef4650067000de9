-- What a disk in memory holds behind one more call.
use Rattle.std.proofs.Common.{◌≡◌, ℕ, suc, ◌+◌, ◌<◌, ◌≤◌, max, Option, Some, None, List, [], ◌∷◌, ◌++◌, length, take, drop, refl, sym, ap, subst, ◌∙◌, arith, length-append, length-take, length-drop, append-nil, ◌-◌}
use Rattle.std.proofs.Math.Seq.{take-length}
use Rattle.std.proofs.lemmas.List.{take-append-le, drop-append-le, take_all, nil_from_length}
use Rattle.off_memdisk.specs.MemDisks.{calls_of, total_of, room_of, written_in, reads_after, IsSound, DiskHeld, MemDiskHeld, used, most_bytes}
use Rattle.off_outside.specs.InMemory.{CallsHeld, one_called}
use Rattle.off_memdisk.specs.MemDiskLaws.{reads_push, reads_sync, fit_push, fit_sync}
use Rattle.off_memdisk.specs.declared.mem_disk.Mark.{Mark}
use Rattle.off_memdisk.specs.declared.mem_disk.Mark.TheVariants.{Wrote, Synced}

-- one write more, and one sync more
pub calls_wrote : (marks : List Mark) (at len : ℕ) (pieces piece : List ℕ) → length pieces ≡ total_of marks → length piece ≡ len
    → calls_of (marks ++ Wrote at len ∷ []) (pieces ++ piece) ≡ calls_of marks pieces ++ Some (at, piece) ∷ []
calls_wrote [] at len pieces piece joined long =
    ap (λ (p : List ℕ). Some (at, take len (p ++ piece)) ∷ []) (nil_from_length pieces joined)
    ∙ (ap (λ (n : ℕ). Some (at, take n piece) ∷ []) (sym long) ∙ ap (λ (p : List ℕ). Some (at, p) ∷ []) (take-length piece))
calls_wrote (Wrote a n ∷ marks) at len pieces piece joined long =
    let front : take n (pieces ++ piece) ≡ take n pieces = take-append-le n pieces piece (omega (arith, joined)) in
    let behind : drop n (pieces ++ piece) ≡ drop n pieces ++ piece = drop-append-le n pieces piece (omega (arith, joined)) in
    let rest = calls_wrote marks at len (drop n pieces) piece (omega (arith, joined, length-drop n pieces)) long in
    ap (λ (p : List ℕ). Some (a, p) ∷ calls_of (marks ++ Wrote at len ∷ []) (drop n (pieces ++ piece))) front
    ∙ (ap (λ (p : List ℕ). Some (a, take n pieces) ∷ calls_of (marks ++ Wrote at len ∷ []) p) behind
    ∙ ap (λ (cs : List (Option (ℕ × List ℕ))). Some (a, take n pieces) ∷ cs) rest)
calls_wrote (Synced ∷ marks) at len pieces piece joined long =
    ap (λ (cs : List (Option (ℕ × List ℕ))). None ∷ cs) (calls_wrote marks at len pieces piece joined long)

-- a call is recorded for each mark
pub calls_length : (marks : List Mark) (pieces : List ℕ) → length marks ≡ length (calls_of marks pieces)
calls_length [] pieces = refl
calls_length (Wrote at len ∷ marks) pieces = ap (λ (n : ℕ). suc n) (calls_length marks (drop len pieces))
calls_length (Synced ∷ marks) pieces = ap (λ (n : ℕ). suc n) (calls_length marks pieces)

pub calls_synced : (marks : List Mark) (pieces : List ℕ) → calls_of (marks ++ Synced ∷ []) pieces ≡ calls_of marks pieces ++ None ∷ []
calls_synced [] pieces = refl
calls_synced (Wrote a n ∷ marks) pieces = ap (λ (cs : List (Option (ℕ × List ℕ))). Some (a, take n pieces) ∷ cs) (calls_synced marks (drop n pieces))
calls_synced (Synced ∷ marks) pieces = ap (λ (cs : List (Option (ℕ × List ℕ))). None ∷ cs) (calls_synced marks pieces)

pub total_wrote : (marks : List Mark) (at len : ℕ) → total_of (marks ++ Wrote at len ∷ []) ≡ total_of marks + len
total_wrote [] at len = omega arith
total_wrote (Wrote a n ∷ marks) at len = omega (arith, total_wrote marks at len)
total_wrote (Synced ∷ marks) at len = total_wrote marks at len

pub total_synced : (marks : List Mark) → total_of (marks ++ Synced ∷ []) ≡ total_of marks
total_synced [] = refl
total_synced (Wrote a n ∷ marks) = omega (arith, total_synced marks)
total_synced (Synced ∷ marks) = total_synced marks

-- the room of the calls
pub room_is : (marks : List Mark) (pieces : List ℕ) → length pieces ≡ total_of marks → room_of (calls_of marks pieces) ≡ length pieces + length marks
room_is [] pieces joined = omega (arith, joined)
room_is (Wrote a n ∷ marks) pieces joined =
    let long : length (take n pieces) ≡ n = omega (arith, joined, length-take n pieces) in
    omega (arith, long, joined, length-drop n pieces, room_is marks (drop n pieces) (omega (arith, joined, length-drop n pieces)))
room_is (Synced ∷ marks) pieces joined = omega (arith, room_is marks pieces joined)

pub written_size : (b : List ℕ) (at : ℕ) (piece : List ℕ) → at ≤ length b → length (written_in b at piece) ≡ max (length b) (at + length piece)
written_size b at piece fits =
    let front : length (take at b) ≡ at = omega (arith, length-take at b) in
    omega (arith, front, length-append (take at b) (piece ++ drop (at + length piece) b), length-append piece (drop (at + length piece) b), length-drop (at + length piece) b)

-- ---- what is held

pub held_wrote : (base : List ℕ) (marks more : List Mark) (pieces all bytes after piece : List ℕ) (room at len : ℕ) → DiskHeld base marks pieces bytes room
    → more ≡ marks ++ Wrote at len ∷ [] → all ≡ pieces ++ piece → after ≡ written_in bytes at piece → length piece ≡ len
    → at ≤ length bytes → at + length piece ≤ most_bytes → length base + length pieces + length marks + (length piece + 1) ≤ room → DiskHeld base more all after room
held_wrote base marks more pieces all bytes after piece room at len h is_more is_all is_after long fits small within =
    let calls : calls_of more all ≡ calls_of marks pieces ++ Some (at, piece) ∷ [] =
    ap (λ (ms : List Mark). calls_of ms all) is_more ∙ (ap (λ (p : List ℕ). calls_of (marks ++ Wrote at len ∷ []) p) is_all ∙ calls_wrote marks at len pieces piece h.joined long) in
    let began : at ≤ length (reads_after base (calls_of marks pieces)) = omega (arith, fits, ap length h.reads) in
    let reads : after ≡ reads_after base (calls_of marks pieces ++ Some (at, piece) ∷ []) =
    is_after ∙ (ap (λ (b : List ℕ). written_in b at piece) h.reads ∙ sym (reads_push base (calls_of marks pieces) (at, piece))) in
    let size : length after ≡ max (length bytes) (at + length piece) = ap length is_after ∙ written_size bytes at piece fits in
    record {
      reads = reads ∙ ap (λ (cs : List (Option (ℕ × List ℕ))). reads_after base cs) (sym calls);
      sound = subst (λ (cs : List (Option (ℕ × List ℕ))). IsSound base cs) (sym calls) (record {
        fit = fit_push base (calls_of marks pieces) (at, piece) h.sound.fit began;
        small = omega (arith, ap length (sym reads), size, small, h.sound.small, ap length h.reads);
      });
      joined = ap length is_all ∙ (length-append pieces piece ∙ (omega (arith, h.joined, long, total_wrote marks at len) ∙ ap total_of (sym is_more)));
      fits = omega (arith, within, ap length is_all, length-append pieces piece, ap length is_more, length-append marks (Wrote at len ∷ []));
      no_longer = omega (arith, size, fits, h.no_longer, ap length is_all, length-append pieces piece);
    }

pub held_synced : (base : List ℕ) (marks more : List Mark) (pieces bytes : List ℕ) (room : ℕ) → DiskHeld base marks pieces bytes room
    → more ≡ marks ++ Synced ∷ [] → length base + length pieces + length marks < room → DiskHeld base more pieces bytes room
held_synced base marks more pieces bytes room h is_more within =
    let calls : calls_of more pieces ≡ calls_of marks pieces ++ None ∷ [] = ap (λ (ms : List Mark). calls_of ms pieces) is_more ∙ calls_synced marks pieces in
    let reads : reads_after base (calls_of marks pieces ++ None ∷ []) ≡ reads_after base (calls_of marks pieces) = reads_sync base (calls_of marks pieces) in
    record {
      reads = h.reads ∙ (sym reads ∙ ap (λ (cs : List (Option (ℕ × List ℕ))). reads_after base cs) (sym calls));
      sound = subst (λ (cs : List (Option (ℕ × List ℕ))). IsSound base cs) (sym calls) (record {
        fit = fit_sync base (calls_of marks pieces) h.sound.fit;
        small = omega (arith, ap length reads, h.sound.small);
      });
      joined = h.joined ∙ (sym (total_synced marks) ∙ ap total_of (sym is_more));
      fits = omega (arith, within, ap length is_more, length-append marks (Synced ∷ []));
      no_longer = h.no_longer;
    }

abbrev pub ofs : List ℕ → List (Option (ℕ × List ℕ)) → ℕ → ℕ → CallsHeld → MemDiskHeld
ofs base calls room faults failing = record { base = base; calls = calls; room = room; faults = faults; failing = failing }

abbrev pub held_of : List ℕ → List Mark → List ℕ → ℕ → ℕ → CallsHeld → MemDiskHeld
held_of base marks pieces room faults failing = record { base = base; calls = calls_of marks pieces; room = room; faults = faults; failing = failing }

-- the room by what is seen, and by what is held
pub space_of : (now : MemDiskHeld) (base : List ℕ) (marks : List Mark) (pieces bytes : List ℕ) (room faults k : ℕ) (failing : CallsHeld)
    → held_of base marks pieces room faults failing ≡ now → DiskHeld base marks pieces bytes room → used now + k ≤ now.room
    → length base + length pieces + length marks + k ≤ room
space_of now base marks pieces bytes room faults k failing is h within =
    omega (arith, within, ap used is, ap (λ (m : MemDiskHeld). m.room) is, room_is marks pieces h.joined)

pub left_of : (now : MemDiskHeld) (base : List ℕ) (marks : List Mark) (pieces bytes : List ℕ) (room faults : ℕ) (failing : CallsHeld)
    → held_of base marks pieces room faults failing ≡ now → DiskHeld base marks pieces bytes room → used now + (room - length base - length pieces - length marks) ≡ now.room
left_of now base marks pieces bytes room faults failing is h =
    omega (arith, h.fits, ap used is, ap (λ (m : MemDiskHeld). m.room) is, room_is marks pieces h.joined)

pub sound_of : (now : MemDiskHeld) (base : List ℕ) (marks : List Mark) (pieces bytes : List ℕ) (room faults : ℕ) (failing : CallsHeld)
    → held_of base marks pieces room faults failing ≡ now → DiskHeld base marks pieces bytes room → IsSound now.base now.calls
sound_of now base marks pieces bytes room faults failing is h = subst (λ (m : MemDiskHeld). IsSound m.base m.calls) is h.sound

pub wrote_of : (now : MemDiskHeld) (base : List ℕ) (marks more : List Mark) (pieces all bytes piece : List ℕ) (room faults at len : ℕ) (failing after : CallsHeld)
    → held_of base marks pieces room faults failing ≡ now → DiskHeld base marks pieces bytes room → more ≡ marks ++ Wrote at len ∷ [] → all ≡ pieces ++ piece → length piece ≡ len
    → after ≡ one_called failing
    → held_of base more all room faults after ≡ record now { calls = now.calls ++ Some (at, piece) ∷ []; failing = one_called now.failing }
wrote_of now base marks more pieces all bytes piece room faults at len failing after is h is_more is_all long is_after =
    let calls : calls_of more all ≡ calls_of marks pieces ++ Some (at, piece) ∷ [] =
    ap (λ (ms : List Mark). calls_of ms all) is_more ∙ (ap (λ (p : List ℕ). calls_of (marks ++ Wrote at len ∷ []) p) is_all ∙ calls_wrote marks at len pieces piece h.joined long) in
    subst (λ (m : MemDiskHeld). held_of base more all room faults after ≡ record m { calls = m.calls ++ Some (at, piece) ∷ []; failing = one_called m.failing }) is
    (ap (λ (cs : List (Option (ℕ × List ℕ))). ofs base cs room faults after) calls ∙ ap (λ (f : CallsHeld). ofs base (calls_of marks pieces ++ Some (at, piece) ∷ []) room faults f) is_after)

pub synced_of : (now : MemDiskHeld) (base : List ℕ) (marks more : List Mark) (pieces : List ℕ) (room faults : ℕ) (failing after : CallsHeld)
    → held_of base marks pieces room faults failing ≡ now → more ≡ marks ++ Synced ∷ [] → after ≡ one_called failing
    → held_of base more pieces room faults after ≡ record now { calls = now.calls ++ None ∷ []; failing = one_called now.failing }
synced_of now base marks more pieces room faults failing after is is_more is_after =
    let calls : calls_of more pieces ≡ calls_of marks pieces ++ None ∷ [] = ap (λ (ms : List Mark). calls_of ms pieces) is_more ∙ calls_synced marks pieces in
    subst (λ (m : MemDiskHeld). held_of base more pieces room faults after ≡ record m { calls = m.calls ++ None ∷ []; failing = one_called m.failing }) is
    (ap (λ (cs : List (Option (ℕ × List ℕ))). ofs base cs room faults after) calls ∙ ap (λ (f : CallsHeld). ofs base (calls_of marks pieces ++ None ∷ []) room faults f) is_after)

-- bytes that are written at the end stand behind the others
pub end_written : (pieces piece : List ℕ) (at : ℕ) → at ≡ length pieces → written_in pieces at piece ≡ pieces ++ piece
end_written pieces piece at end =
    let front : take at pieces ≡ pieces = take_all at pieces (omega (arith, end)) in
    let behind : drop (at + length piece) pieces ≡ [] = nil_from_length (drop (at + length piece) pieces) (omega (arith, end, length-drop (at + length piece) pieces)) in
    ap (λ (l : List ℕ). l ++ (piece ++ drop (at + length piece) pieces)) front
    ∙ (ap (λ (l : List ℕ). pieces ++ (piece ++ l)) behind ∙ ap (λ (l : List ℕ). pieces ++ l) (append-nil piece))
