-- Calls of a keeper in a row.
use Rattle.std.proofs.Common.{◌≡◌, ℕ, Bool, false, Result, Ok, Err, ◌+◌, ◌<◌, ◌≤◌, ◌⊎◌, List, [], ◌∷◌, length, refl, sym, ap, ◌∙◌, subst, inl, inr, arith}
use mathlib.Core.Logic.{⊎_map}
use Rattle.std.proofs.lemmas.Bool.{cases_lt}
use Rattle.off_defs.specs.declared.writes.Write.{Write}
use Rattle.off_defs.specs.State.{Tables}
use Rattle.off_defs.specs.Told.{Told, Stays}
use Rattle.off_defs.specs.Counts.{Grew, Tallied, commits_after}
use Rattle.off_defs.proofs.CountLemmas.{tallied_none}
use Rattle.off_defs.proofs.ToldLemmas.{told_self}
use Rattle.off_defs.proofs.TableLemmas.{doubt_more}
use Rattle.off_outside.specs.declared.keeper.KeepErr.{KeepErr}
use Rattle.off_outside.specs.declared.keeper.KeepErr.TheVariants.{Memory, Failed}
use Rattle.off_outside.specs.KeeperSeen.{KeeperSeen, Rests}
use Rattle.off_outside.specs.KeeperCalls.{Still, Crash, Quiet, Reads, NotDone, Committed, NotCommitted, Settled, StaysUp, begun_by, Spent, WasCounted, Unasked, Staged, Secured, doubt_saved, waits_after, Commits, Stages}

-- at one moment
at_same : (seen : KeeperSeen) (m n : ℕ) (u : Tables) → m ≡ n → seen.opened m u → seen.opened n u
at_same seen m n u e opened = subst (λ k. seen.opened k u) e opened

pub still_self : (a : KeeperSeen) → Still a a
still_self a = record {
  later = omega arith;
  past = λ m u before opened. opened;
  within = λ m u behind before opened. at_same a m a.moment u (omega arith) opened;
  doubts = λ u doubt. doubt;
}

still_within : {a b c : KeeperSeen} → Still a b → Still b c → (m : ℕ) (u : Tables) → a.moment ≤ m → m ≤ c.moment → c.opened m u
    → (m < b.moment) ⊎ (b.moment ≤ m) → a.opened a.moment u
still_within {a} {b} {c} p q m u behind before opened (inl first) = p.within m u behind (omega arith) (q.past m u (omega arith) opened)
still_within {a} {b} {c} p q m u behind before opened (inr second) = p.within b.moment u p.later (omega arith) (q.within m u second before opened)

pub still_then : {a b c : KeeperSeen} → Still a b → Still b c → Still a c
still_then {a} {b} {c} p q = record {
  later = omega (arith, p.later, q.later);
  past = λ m u before opened. p.past m u before (q.past m u (omega (arith, p.later)) opened);
  within = λ m u behind before opened. still_within p q m u behind before opened (cases_lt m b.moment);
  doubts = λ u doubt. p.doubts u (q.doubts u doubt);
}

pub quiet_self : (a : KeeperSeen) → Quiet a a
quiet_self a = record { up = λ up. up; faults = refl; commits = refl; waits = refl; still = still_self a }

pub quiet_then : {a b c : KeeperSeen} → Quiet a b → Quiet b c → Quiet a c
quiet_then p q = record {
  up = λ up. q.up (p.up up);
  faults = q.faults ∙ p.faults;
  commits = q.commits ∙ p.commits;
  waits = q.waits ∙ p.waits;
  still = still_then p.still q.still;
}

-- a fault that was counted behind quiet calls
pub grew_behind : {n a b c : ℕ} → b ≡ a → Grew n b c → Grew n a c
grew_behind {n} {a} {b} {c} same grew = subst (λ k. Grew n k c) same grew

pub tallied_behind : {n a b c : ℕ} → b ≡ a → Tallied n b c → Tallied n a c
tallied_behind {n} {a} {b} {c} same tallied = subst (λ k. Tallied n k c) same tallied

pub up_either : (a b c : KeeperSeen) → b.faults ≡ a.faults → c.up ⊎ Grew 1 b.faults c.faults → c.up ⊎ Grew 1 a.faults c.faults
up_either a b c same (inl up) = inl up
up_either a b c same (inr grew) = inr (grew_behind same grew)

pub stays_up_then : (a b c : KeeperSeen) → Quiet a b → StaysUp b c → StaysUp a c
stays_up_then a b c p q = λ up. up_either a b c p.faults (q (p.up up))

-- one reading, then another
pub reads_then : {P Q R : Tables → Type 0} {a b c : KeeperSeen} → Reads P a b → Reads Q b c → ((t : Tables) → P t → Q t → R t) → Reads R a c
reads_then p q join = record {
  tables = λ t told. let one = p.tables t told in let other = q.tables t one.0 in (other.0, join t one.1 other.1);
  quiet = quiet_then p.quiet q.quiet;
}

-- a reading, then a call that wasn't done
pub failed_then : {P : Tables → Type 0} {err : KeepErr} {a b c : KeeperSeen} → Reads P a b → NotDone err b c → NotDone err a c
failed_then {P} {err} {a} {b} {c} p q = record {
  tables = λ t told. q.tables t (p.tables t told).0;
  up = stays_up_then a b c p.quiet q.up;
  faults = tallied_behind p.quiet.faults q.faults;
  commits = q.commits ∙ p.quiet.commits;
  waits = q.waits ∙ p.quiet.waits;
  still = still_then p.quiet.still q.still;
}

pub reads_as : {P Q : Tables → Type 0} {a b : KeeperSeen} → Reads P a b → ((t : Tables) → P t → Q t) → Reads Q a b
reads_as p weaker = record {
  tables = λ t told. let one = p.tables t told in (one.0, weaker t one.1);
  quiet = p.quiet;
}

-- no call at all
pub reads_none : {P : Tables → Type 0} {a : KeeperSeen} → ((t : Tables) → P t) → Reads P a a
reads_none {P} {a} always = record { tables = λ t told. (told, always t); quiet = quiet_self a }

pub wants_memory : (a : KeeperSeen) → NotDone Memory a a
wants_memory a = record {
  tables = λ t told. told;
  up = λ up. inl up;
  faults = tallied_none a.faults;
  commits = refl;
  waits = refl;
  still = still_self a;
}

-- a reading behind which memory was wanted
pub reads_forgotten : {P : Tables → Type 0} {a b : KeeperSeen} → Reads P a b → NotDone Memory a b
reads_forgotten {P} {a} {b} p = failed_then p (wants_memory b)

-- no call begins nothing
pub crash_self : {P : Tables → Tables → Type 0} (a : KeeperSeen) → Crash P a a
crash_self a = record {
  later = omega arith;
  past = λ m u before opened. opened;
  within = λ t told m u behind before opened. absurd (omega arith);
  doubts = λ t told u doubt. inl doubt;
}

-- memory was wanted before any call
pub nothing_begun : {P : Tables → Tables → Type 0} (a : KeeperSeen) → NotCommitted P Memory a a
nothing_begun a = record { tables = λ t told. told; up = λ up. inl up; faults = tallied_none a.faults; commits = refl; waits = refl; crash = crash_self a }

-- nothing to write is done by nothing, and writes by their commit
pub settled_none : (writes : List Write) (a : KeeperSeen) → length writes ≡ 0 → Settled writes a a
settled_none [] a none = record {
  tables = told_self (λ t. refl);
  up = λ up. up;
  faults = refl;
  commits = refl;
  waits = refl;
  crash = crash_self a;
  doubts = λ t told u doubt. doubt;
}
settled_none (write ∷ writes) a none = absurd (omega (arith, none))

pub settled_commit : (writes : List Write) {a b : KeeperSeen} → (length writes ≡ 0 → ⊥) → Committed writes a b → Settled writes a b
settled_commit [] some done = absurd (some refl)
settled_commit (write ∷ writes) some done = record {
  tables = done.tables;
  up = done.up;
  faults = done.faults;
  commits = done.commits;
  waits = done.waits;
  crash = done.crash;
  doubts = done.sure;
}

-- a reading, as what is told across it
pub reads_told : {P : Tables → Type 0} {Q : Tables → Tables → Type 0} {a b : KeeperSeen} → Reads P a b → ((t : Tables) → P t → Q t t) → Told a.tables b.tables Q
reads_told p weaker = record {
  each = λ t told. let one = p.tables t told in record { value = t; told = one.0; fits = weaker t one.1 };
}

-- calls are counted through
pub spent_none : (a : KeeperSeen) → Spent 0 a a
spent_none a = record { later = omega arith; most = omega arith }

pub spent_one : {a b : KeeperSeen} → WasCounted a b → Spent 1 a b
spent_one p = record { later = p.later; most = omega (arith, p.one) }

pub spent_then : {m n : ℕ} {a b c : KeeperSeen} → Spent m a b → Spent n b c → Spent (m + n) a c
spent_then p q = record { later = omega (arith, p.later, q.later); most = omega (arith, p.most, q.most) }

pub spent_within : {m n : ℕ} {a b : KeeperSeen} → Spent m a b → m ≤ n → Spent n a b
spent_within p fits = record { later = p.later; most = omega (arith, p.most) }

pub unasked_stays : {a b : KeeperSeen} → Unasked a b → Stays a.tables b.tables
unasked_stays p = record { each = λ t told. record { value = t; told = p.tables t told; fits = refl } }

pub unasked_self : (a : KeeperSeen) → Unasked a a
unasked_self a = record { tables = λ t told. told; quiet = quiet_self a; calls = refl }

pub still_crash : {P : Tables → Tables → Type 0} {a b : KeeperSeen} → Rests a → Still a b → Crash P a b
still_crash {P} {a} {b} rests still = record {
  later = still.later;
  past = still.past;
  within = λ t told m u behind before opened. ⊎_map (λ same. same) inl (rests t told u (still.within m u (omega arith) before opened));
  doubts = λ t told u doubt. inl (still.doubts u doubt);
}

-- a commit that may have been begun, as one of those that are allowed
pub crash_weaker : {P Q : Tables → Tables → Type 0} {a b : KeeperSeen} → Crash Q a b → ((t : Tables) → a.tables t → (u : Tables) → Q t u → P t u) → Crash P a b
crash_weaker c more = record {
  later = c.later;
  past = c.past;
  within = λ t told m u behind before opened. ⊎_map (λ same. same) (⊎_map (λ doubt. doubt) (more t told u)) (c.within t told m u behind before opened);
  doubts = λ t told u doubt. ⊎_map (λ doubt. doubt) (more t told u) (c.doubts t told u doubt);
}

-- a reading, then calls that may have begun something
read_within : {P : Tables → Tables → Type 0} {Q : Tables → Type 0} {a b c : KeeperSeen} → Rests a → Reads Q a b → Crash P b c
    → (t : Tables) → a.tables t → (m : ℕ) (u : Tables) → a.moment < m → m ≤ c.moment → c.opened m u → (b.moment < m) ⊎ (m ≤ b.moment)
    → (u ≡ t) ⊎ (a.doubt u ⊎ P t u)
read_within {P} rests reads crash t told m u behind before opened (inl second) =
    ⊎_map (λ same. same) (⊎_map (reads.quiet.still.doubts u) (λ begun. begun)) (crash.within t (reads.tables t told).0 m u second before opened)
read_within {P} rests reads crash t told m u behind before opened (inr first) =
    ⊎_map (λ same. same) inl (rests t told u (reads.quiet.still.within m u (omega arith) first (crash.past m u first opened)))

pub read_crash : {P : Tables → Tables → Type 0} {Q : Tables → Type 0} {a b c : KeeperSeen} → Rests a → Reads Q a b → Crash P b c → Crash P a c
read_crash {P} {Q} {a} {b} {c} rests reads crash = record {
  later = omega (arith, reads.quiet.still.later, crash.later);
  past = λ m u before opened. reads.quiet.still.past m u before (crash.past m u (omega (arith, reads.quiet.still.later)) opened);
  within = λ t told m u behind before opened. read_within rests reads crash t told m u behind before opened (cases_lt b.moment m);
  doubts = λ t told u doubt. ⊎_map (reads.quiet.still.doubts u) (λ begun. begun) (crash.doubts t (reads.tables t told).0 u doubt);
}

-- a call that wasn't done, as one that may have begun something
pub not_begun : {P : Tables → Tables → Type 0} {err : KeepErr} {a b : KeeperSeen} → Rests a → NotDone err a b → NotCommitted P err a b
not_begun rests p = record { tables = p.tables; up = p.up; faults = p.faults; commits = p.commits; waits = p.waits; crash = still_crash rests p.still }

pub not_begun_then : {P : Tables → Tables → Type 0} {Q : Tables → Type 0} {err : KeepErr} {a b c : KeeperSeen} → Rests a → Reads Q a b → NotCommitted P err b c
    → NotCommitted P err a c
not_begun_then {P} {Q} {err} {a} {b} {c} rests p q = record {
  tables = λ t told. q.tables t (p.tables t told).0;
  up = stays_up_then a b c p.quiet q.up;
  faults = tallied_behind p.quiet.faults q.faults;
  commits = q.commits ∙ p.quiet.commits;
  waits = q.waits ∙ p.quiet.waits;
  crash = read_crash rests p q.crash;
}

-- what an error has begun, as what is allowed
pub begun_weaker : (err : KeepErr) (P Q : Tables → Tables → Type 0) (v t u : Tables) → (P v u → Q t u) → begun_by err P v u → begun_by err Q t u
begun_weaker Memory P Q v t u more begun = begun
begun_weaker Failed P Q v t u more begun = more begun

pub not_committed_as : {P Q : Tables → Tables → Type 0} {err : KeepErr} {a b : KeeperSeen} → NotCommitted P err a b
    → ((t : Tables) → a.tables t → (u : Tables) → P t u → Q t u) → NotCommitted Q err a b
not_committed_as {P} {Q} {err} p more = record {
  tables = p.tables;
  up = p.up;
  faults = p.faults;
  commits = p.commits;
  waits = p.waits;
  crash = crash_weaker p.crash (λ t told u begun. begun_weaker err P Q t t u (more t told u) begun);
}

-- what was done behind a reading
pub settled_then : {Q : Tables → Type 0} {writes : List Write} {a b c : KeeperSeen} → Rests a → Reads Q a b → Settled writes b c → Settled writes a c
settled_then {Q} {writes} {a} {b} {c} rests p q = record {
  tables = record { each = λ t told. q.tables.each t (p.tables t told).0 };
  up = λ up. q.up (p.quiet.up up);
  faults = q.faults ∙ p.quiet.faults;
  commits = q.commits ∙ ap (commits_after writes) p.quiet.commits;
  waits = q.waits ∙ ap (waits_after writes) p.quiet.waits;
  crash = read_crash rests p q.crash;
  doubts = λ t told u doubt. doubt_more writes (p.quiet.still.doubts u) (q.doubts t (p.tables t told).0 u doubt);
}

-- a commit, and then calls that only read
at_commit : {P : Tables → Tables → Type 0} {a b : KeeperSeen} → Rests a → Crash P a b → (t : Tables) → a.tables t → (u : Tables) → b.opened b.moment u
    → (a.moment < b.moment) ⊎ (b.moment ≤ a.moment) → (u ≡ t) ⊎ (a.doubt u ⊎ P t u)
at_commit {P} {a} {b} rests crash t told u opened (inl behind) = crash.within t told b.moment u behind (omega arith) opened
at_commit {P} {a} {b} rests crash t told u opened (inr before) =
    ⊎_map (λ same. same) inl (rests t told u (at_same a b.moment a.moment u (omega (arith, before, crash.later)) (crash.past b.moment u before opened)))

within_still : {P : Tables → Tables → Type 0} {a b c : KeeperSeen} → Rests a → Crash P a b → Still b c → (t : Tables) → a.tables t → (m : ℕ) (u : Tables)
    → a.moment < m → m ≤ c.moment → c.opened m u → (b.moment < m) ⊎ (m ≤ b.moment) → (u ≡ t) ⊎ (a.doubt u ⊎ P t u)
within_still {P} {a} {b} rests crash still t told m u behind upto opened (inl second) =
    at_commit rests crash t told u (still.within m u (omega arith) upto opened) (cases_lt a.moment b.moment)
within_still rests crash still t told m u behind upto opened (inr first) = crash.within t told m u behind first (still.past m u first opened)

pub crash_still : {P : Tables → Tables → Type 0} {a b c : KeeperSeen} → Rests a → Crash P a b → Still b c → Crash P a c
crash_still {P} {a} {b} rests crash still = record {
  later = omega (arith, crash.later, still.later);
  past = λ m u before opened. crash.past m u before (still.past m u (omega (arith, before, crash.later)) opened);
  within = λ t told m u behind upto opened. within_still rests crash still t told m u behind upto opened (cases_lt b.moment m);
  doubts = λ t told u doubt. crash.doubts t told u (still.doubts u doubt);
}

-- what was done, and then a reading
pub settled_read : {Q : Tables → Type 0} {writes : List Write} {a b c : KeeperSeen} → Rests a → Settled writes a b → Reads Q b c → Settled writes a c
settled_read {Q} {writes} rests p q = record {
  tables = record { each = λ t told. let g = p.tables.each t told in record { value = g.value; told = (q.tables g.value g.told).0; fits = g.fits } };
  up = λ up. q.quiet.up (p.up up);
  faults = q.quiet.faults ∙ p.faults;
  commits = q.quiet.commits ∙ p.commits;
  waits = q.quiet.waits ∙ p.waits;
  crash = crash_still rests p.crash q.quiet.still;
  doubts = λ t told u doubt. p.doubts t told u (q.quiet.still.doubts u doubt);
}

-- Two commits: what the first leaves, and what the second would make of that.
abbrev pub Between : (Tables → Tables → Type 0) → (Tables → Tables → Type 0) → (Tables → Tables → Type 0) → Tables → Tables → Type 0
Between P Q R t v = P t v × ((u : Tables) → Q v u → R t u)

doubt_both : {early doubt p q r : Type 0} → (doubt → early ⊎ p) → (q → r) → doubt ⊎ q → early ⊎ (p ⊎ r)
doubt_both before more (inl doubt) = ⊎_map (λ early. early) inl (before doubt)
doubt_both before more (inr begun) = inr (inr (more begun))

second_or : (t v u : Tables) {early doubt p q r : Type 0} → ((u ≡ v) → p) → (doubt → early ⊎ p) → (q → r) → (u ≡ v) ⊎ (doubt ⊎ q) → (u ≡ t) ⊎ (early ⊎ (p ⊎ r))
second_or t v u is before more (inl same) = inr (inr (inl (is same)))
second_or t v u is before more (inr rest) = inr (doubt_both before more rest)

both_within : {P Q R : Tables → Tables → Type 0} {a b c : KeeperSeen} → Crash P a b → Crash Q b c → Told a.tables b.tables (Between P Q R) → (t : Tables) → a.tables t
    → (m : ℕ) (u : Tables) → a.moment < m → m ≤ c.moment → c.opened m u → (b.moment < m) ⊎ (m ≤ b.moment) → (u ≡ t) ⊎ (a.doubt u ⊎ (P t u ⊎ R t u))
both_within {P} {Q} {R} p q mid t told m u behind upto opened (inl second) =
    let g = mid.each t told in
    second_or t g.value u (λ same. subst (λ (w : Tables). P t w) (sym same) g.fits.0) (p.doubts t told u) (g.fits.1 u) (q.within g.value g.told m u second upto opened)
both_within p q mid t told m u behind upto opened (inr first) =
    ⊎_map (λ same. same) (⊎_map (λ doubt. doubt) inl) (p.within t told m u behind first (q.past m u first opened))

pub crash_both : {P Q R : Tables → Tables → Type 0} {a b c : KeeperSeen} → Crash P a b → Crash Q b c → Told a.tables b.tables (Between P Q R)
    → Crash (λ t u. P t u ⊎ R t u) a c
crash_both {P} {Q} {R} {a} {b} {c} p q mid = record {
  later = omega (arith, p.later, q.later);
  past = λ m u before opened. p.past m u before (q.past m u (omega (arith, before, p.later)) opened);
  within = λ t told m u behind upto opened. both_within p q mid t told m u behind upto opened (cases_lt b.moment m);
  doubts = λ t told u doubt. let g = mid.each t told in doubt_both (p.doubts t told u) (g.fits.1 u) (q.doubts g.value g.told u doubt);
}

-- ---- a keeper that saves at once

-- a commit, as writes that are staged and don't wait
pub staged_commit : {writes : List Write} {a b : KeeperSeen} → Committed writes a b → Staged writes a b
staged_commit done = record {
  tables = done.tables;
  up = done.up;
  faults = done.faults;
  commits = done.commits;
  crash = crash_weaker done.crash (λ t told u written. inr written);
  sure = λ none t told u doubt. absurd (done.sure t told u doubt);
}

pub stages_commit : (r : Result (Unit {0}) KeepErr) (a b : KeeperSeen) (writes : List Write) → Commits r a b writes → Stages r a b writes
stages_commit (Ok u) a b writes done = staged_commit done
stages_commit (Err e) a b writes undone = undone

-- nothing waits, so it is saved
pub secured_none : (a : KeeperSeen) → a.waits ≡ false → Secured a a
secured_none a none = record {
  tables = λ t told. told;
  up = λ up. up;
  faults = refl;
  commits = refl;
  waits = none;
  crash = crash_self a;
  sure = λ t told u doubt. subst (λ (w : Bool). doubt_saved w (a.doubt u)) (sym none) doubt;
}
