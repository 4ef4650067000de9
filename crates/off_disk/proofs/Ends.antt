-- Each end of an appending, and of a closing.
use Rattle.std.proofs.Common.{◌≡◌, ℕ, ◌+◌, inl, inr, true, false, List, [], ◌∷◌, ◌++◌, length, subst, ◌∙◌, arith, length-append}
use Rattle.off_disk.specs.DiskSeen.{DiskSeen}
use Rattle.off_disk.specs.DiskCalls.{Torn, Passes, NotWritten, HasStored}
use Rattle.off_disk.specs.Records.{blocks, IsClosed, IsDoubtful, IsBroken}
use Rattle.off_disk.specs.Crashing.{AllLeft, Leaves, EitherState, Appends, Settles, closed_record}
use Rattle.off_disk.specs.declared.appending.Appended.TheVariants as appended
use Rattle.off_disk.proofs.Images.{torn_behind, written_behind, torn_gate, closed_gate, opened_gate, torn_broken, mended}
use Rattle.off_disk.proofs.Moments.{leaves_by, all_by, leaves_then, stored_left, elapsed, elapsed_then, grew_from}

-- the disk is d0 at first, d1 behind the record, and d2 behind the gate
module _ (ps : List (List ℕ)) (p : List ℕ) (n : ℕ) (long : length (blocks ps) ≡ n) where
  record_leaves : {k : ℕ} {d0 d1 : DiskSeen} → Passes (Torn (n + 1) k) d0 d1 → AllLeft (IsClosed ps) d0 → Leaves (EitherState ps p) d0 d1
  record_leaves {k} t all = leaves_by t all (λ d c has torn. inl (torn_behind ps n long k d c has torn))

  gate_torn : {d0 d1 : DiskSeen} → Passes (Torn n 1) d0 d1 → AllLeft (IsDoubtful ps p) d0 → AllLeft (IsDoubtful ps p) d1
  gate_torn t all = all_by t all (λ d c has torn. torn_gate ps n long p d c has torn)

  gate_leaves : {d0 d1 : DiskSeen} → Passes (Torn n 1) d0 d1 → AllLeft (IsDoubtful ps p) d0 → Leaves (EitherState ps p) d0 d1
  gate_leaves t all = leaves_by t all (λ d c has torn. inr (torn_gate ps n long p d c has torn))

  -- the record failed
  pub end_1 : {d0 d1 : DiskSeen} {k : ℕ} → NotWritten (n + 1) k d0 d1 → AllLeft (IsClosed ps) d0
      → Leaves (EitherState ps p) d0 d1 × AllLeft (IsClosed ps) d1
  end_1 {d0} {d1} {k} w all = (record_leaves w.passes all, all_by w.passes all (λ d c has torn. torn_behind ps n long k d c has torn))

  -- the record stands on the disk, with room behind it
  staged : (room : List ℕ) {d0 d1 : DiskSeen} → HasStored (n + 1) (closed_record p ++ room) d0 d1 → AllLeft (IsClosed ps) d0
      → Leaves (EitherState ps p) d0 d1 × AllLeft (IsDoubtful ps p) d1
  staged room s all = (
    record_leaves s.written.passes all,
    stored_left (IsClosed ps) (IsDoubtful ps p) s all (λ d c has holds. written_behind ps n long p room d c has holds),
  )

  -- the gate failed
  pub end_2 : (room : List ℕ) {d0 d1 d2 : DiskSeen} → HasStored (n + 1) (closed_record p ++ room) d0 d1 → NotWritten n 1 d1 d2 → AllLeft (IsClosed ps) d0
      → Leaves (EitherState ps p) d0 d2 × AllLeft (IsDoubtful ps p) d2
  end_2 room s w all =
      let one = staged room s all in
      (leaves_then one.0 (gate_leaves w.passes one.1), gate_torn w.passes one.1)

  -- all is done
  pub end_3 : (room : List ℕ) {d0 d1 d2 : DiskSeen} → HasStored (n + 1) (closed_record p ++ room) d0 d1 → HasStored n (1 ∷ []) d1 d2 → AllLeft (IsClosed ps) d0
      → Leaves (EitherState ps p) d0 d2 × AllLeft (IsClosed (ps ++ p ∷ [])) d2
  end_3 room s t all =
      let one = staged room s all in (
        leaves_then one.0 (gate_leaves t.written.passes one.1),
        stored_left (IsDoubtful ps p) (IsClosed (ps ++ p ∷ [])) t one.1 (λ d c has holds. opened_gate ps n long p d c has holds),
      )

  -- a closing of a gate in doubt: it failed, or is done
  pub shut_1 : {d0 d1 : DiskSeen} → NotWritten n 1 d0 d1 → AllLeft (IsDoubtful ps p) d0
      → Leaves (EitherState ps p) d0 d1 × AllLeft (IsDoubtful ps p) d1
  shut_1 w all = (gate_leaves w.passes all, gate_torn w.passes all)

  pub shut_2 : {d0 d1 : DiskSeen} → HasStored n (0 ∷ []) d0 d1 → AllLeft (IsDoubtful ps p) d0
      → Leaves (EitherState ps p) d0 d1 × AllLeft (IsClosed ps) d1
  shut_2 s all = (
    gate_leaves s.written.passes all,
    stored_left (IsDoubtful ps p) (IsClosed ps) s all (λ d c has holds. closed_gate ps n long p d c has holds),
  )

-- a closing of a broken gate
module _ (ps : List (List ℕ)) (n : ℕ) (long : length (blocks ps) ≡ n) where
  broken_leaves : {d0 d1 : DiskSeen} → Passes (Torn n 1) d0 d1 → AllLeft (IsBroken ps) d0 → Leaves (IsBroken ps) d0 d1
  broken_leaves t all = leaves_by t all (λ d c has torn. torn_broken ps n long d c has torn)

  pub mend_2 : {d0 d1 : DiskSeen} → HasStored n (0 ∷ []) d0 d1 → AllLeft (IsBroken ps) d0
      → Leaves (IsBroken ps) d0 d1 × AllLeft (IsClosed ps) d1
  mend_2 s all = (
    broken_leaves s.written.passes all,
    stored_left (IsBroken ps) (IsClosed ps) s all (λ d c has holds. mended ps n long d c has holds),
  )

-- ---- what each exit of the code ensures

pub record_size : (p : List ℕ) → length (closed_record p) ≡ length p + 5
record_size p = omega (arith, length-append p (0 ∷ []))

pub appended_1 : {n k : ℕ} {p : List ℕ} {d0 d1 : DiskSeen} → NotWritten (n + 1) k d0 d1 → Appends n p appended.Closed d0 d1
appended_1 {n} {k} {p} w = record {
  size = w.no_shorter;
  time = elapsed w.passes;
  long = tt;
  faults = w.faults;
  does = λ ps place all. end_1 ps p n place w all;
}

appended_2_at : (n : ℕ) (p room : List ℕ) (d0 d1 d2 : DiskSeen) → HasStored (n + 1) (closed_record p ++ room) d0 d1 → NotWritten n 1 d1 d2
    → Appends n p appended.Doubtful d0 d2
appended_2_at n p room d0 d1 d2 s w = record {
  size = omega (arith, s.written.size, w.no_shorter);
  time = elapsed_then (elapsed s.written.passes) (elapsed w.passes);
  long = omega (arith, s.written.size, w.no_shorter, record_size p, length-append (closed_record p) room);
  faults = grew_from s.written.faults w.faults;
  does = λ ps place all. end_2 ps p n place room s w all;
}

pub appended_2 : {n : ℕ} {p bytes : List ℕ} {d0 d1 d2 : DiskSeen} (room : List ℕ) → bytes ≡ closed_record p ++ room → HasStored (n + 1) bytes d0 d1 → NotWritten n 1 d1 d2
    → Appends n p appended.Doubtful d0 d2
appended_2 {n} {p} {bytes} {d0} {d1} {d2} room is s w = appended_2_at n p room d0 d1 d2 (subst (λ (b : List ℕ). HasStored (n + 1) b d0 d1) is s) w

appended_3_at : (n : ℕ) (p room : List ℕ) (d0 d1 d2 : DiskSeen) → HasStored (n + 1) (closed_record p ++ room) d0 d1 → HasStored n (1 ∷ []) d1 d2
    → Appends n p appended.Opened d0 d2
appended_3_at n p room d0 d1 d2 s t = record {
  size = omega (arith, s.written.size, t.written.size);
  time = elapsed_then (elapsed s.written.passes) (elapsed t.written.passes);
  long = omega (arith, s.written.size, t.written.size, record_size p, length-append (closed_record p) room);
  faults = t.written.faults ∙ s.written.faults;
  does = λ ps place all. end_3 ps p n place room s t all;
}

pub appended_3 : {n : ℕ} {p bytes : List ℕ} {d0 d1 d2 : DiskSeen} (room : List ℕ) → bytes ≡ closed_record p ++ room → HasStored (n + 1) bytes d0 d1 → HasStored n (1 ∷ []) d1 d2
    → Appends n p appended.Opened d0 d2
appended_3 {n} {p} {bytes} {d0} {d1} {d2} room is s t = appended_3_at n p room d0 d1 d2 (subst (λ (b : List ℕ). HasStored (n + 1) b d0 d1) is s) t

pub closed_1 : {n : ℕ} {d0 d1 : DiskSeen} → NotWritten n 1 d0 d1 → Settles n false d0 d1
closed_1 {n} w = record {
  size = w.no_shorter;
  time = elapsed w.passes;
  faults = w.faults;
  does = λ ps p place all. shut_1 ps p n place w all;
  mends = λ ps place all. (broken_leaves ps n place w.passes all, tt);
}

pub closed_2 : {n : ℕ} {d0 d1 : DiskSeen} → HasStored n (0 ∷ []) d0 d1 → Settles n true d0 d1
closed_2 {n} s = record {
  size = omega (arith, s.written.size);
  time = elapsed s.written.passes;
  faults = s.written.faults;
  does = λ ps p place all. shut_2 ps p n place s all;
  mends = λ ps place all. mend_2 ps n place s all;
}
