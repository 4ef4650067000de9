-- What each end of a call of the keeper tells.
use Rattle.std.proofs.Common.{◌≡◌, ℕ, ◌+◌, ◌<◌, ◌≤◌, ◌⊎◌, inl, inr, List, [], ◌∷◌, ◌++◌, length, refl, sym, ap, subst, ◌∙◌, arith, map as each, length-append, append-nil, Bool, true, false}
use Rattle.std.proofs.lemmas.Bool.{cases_lt}
use Rattle.off_defs.specs.declared.writes.Write.{Write}
use Rattle.off_defs.specs.State.{Tables}
use Rattle.off_defs.specs.Tables.{write_all}
use Rattle.off_defs.specs.Counts.{Tallied, one_more}
use Rattle.off_defs.proofs.CountLemmas.{tallied_one, grew_beside}
use Rattle.off_outside.specs.KeeperSeen.{KeeperSeen}
use Rattle.off_outside.specs.KeeperCalls.{Still, Crash, Reads, NotDone, Committed, NotCommitted, IsWritten, begun_by, keeper_faults_in}
use Rattle.off_outside.specs.declared.keeper.KeepErr.{KeepErr}
use Rattle.off_outside.specs.declared.keeper.KeepErr.TheVariants.{Memory, Failed}
use Rattle.off_outside.proofs.KeeperLemmas.{up_either}
use Rattle.off_disk.specs.DiskSeen.{DiskSeen}
use Rattle.off_disk.specs.Records.{record_of, blocks, IsClosed}
use Rattle.off_journal.specs.Payload.{payload_of}
use Rattle.off_journal.specs.Journal.{tables_of, Opens, IsCommit, AreCommits}
use Rattle.off_journal.specs.JournalLaws.{closed_opens, doubtful_opens, commits_push, tables_push, payloads_push}
use Rattle.off_disk.specs.Crashing.{AllLeft, EitherState, Appends, Settles}
use Rattle.off_disk.specs.declared.appending.Appended.TheVariants as appended
use Rattle.off_journal.specs.Keeping.{Keeps, journal_seen, doubt_of, Nothing, HasSettled, NotSettled, CanCommit, CountsOne}
use Rattle.off_journal.specs.declared.keeper.Last.{Last}
use Rattle.off_journal.specs.declared.keeper.Last.TheVariants.{Closed, Doubtful}
use Rattle.off_journal.specs.declared.keeper.Counts.{Counts}
use Rattle.off_disk.proofs.Images.{blocks_push}

-- ---- counts

pub own_counted : (x own more : ℕ) → CountsOne own more → Tallied 1 (x + own) (x + more)
own_counted x own more one = tallied_one (record { later = omega (arith, one.0, one.1); grew = omega (arith, one.0, one.1) })

pub none_counted : (x own more : ℕ) → more ≡ own → Tallied 0 (x + own) (x + more)
none_counted x own more is = record { grew = record { later = omega (arith, is); grew = omega (arith, is) }; stands = λ none. omega (arith, is) }

-- ---- the disk isn't asked

doubt_same : (l : Last) (r s : Tables) (u : Tables) → s ≡ r → doubt_of l s u → doubt_of l r u
doubt_same l r s u same doubt = subst (λ (t : Tables). doubt_of l t u) same doubt

pub still_here : (d : DiskSeen) (r s : Tables) (g : ℕ) (l : Last) (a b : Counts) → s ≡ r → Still (journal_seen d r g l a) (journal_seen d s g l b)
still_here d r s g l a b same = record {
  later = omega arith;
  past = λ m u before opened. opened;
  within = λ m u behind before opened. subst (λ (k : ℕ). (c : List ℕ) × (d.left k c × Opens c u)) (omega arith) opened;
  doubts = λ u doubt. doubt_same l r s u same doubt;
}

pub crash_here : (P : Tables → Tables → Type 0) (d : DiskSeen) (r s : Tables) (g : ℕ) (l : Last) (a b : Counts) → s ≡ r
    → Crash P (journal_seen d r g l a) (journal_seen d s g l b)
crash_here P d r s g l a b same = record {
  later = omega arith;
  past = λ m u before opened. opened;
  within = λ t told m u behind before opened. absurd (omega (arith, behind, before));
  doubts = λ t told u doubt. inl (doubt_same l r s u same doubt);
}

pub told_here : (d : DiskSeen) (r s : Tables) (g : ℕ) (l : Last) (a b : Counts) → s ≡ r → (t : Tables) → (journal_seen d r g l a).tables t → (journal_seen d s g l b).tables t
told_here d r s g l a b same t told = (told.0 ∙ sym same, subst (λ (x : Tables). Keeps x g l d) (sym same) told.1)

pub reads_here : {P : Tables → Type 0} (d : DiskSeen) (r : Tables) (g : ℕ) (l : Last) (a b : Counts) → b.own ≡ a.own → b.commits ≡ a.commits → P r
    → Reads P (journal_seen d r g l a) (journal_seen d r g l b)
reads_here {P} d r g l a b own commits has = record {
  tables = λ t told. (told, subst P (sym told.0) has);
  quiet = record { up = λ up. up; faults = omega (arith, own); commits = commits; waits = refl; still = still_here d r r g l a b refl };
}

pub wants_here : (d : DiskSeen) (r : Tables) (g : ℕ) (l : Last) (a b : Counts) → b.own ≡ a.own → b.commits ≡ a.commits
    → NotDone Memory (journal_seen d r g l a) (journal_seen d r g l b)
wants_here d r g l a b own commits = record {
  tables = λ t told. told;
  up = λ up. inl up;
  faults = none_counted d.faults a.own b.own own;
  commits = commits;
  waits = refl;
  still = still_here d r r g l a b refl;
}

-- a commit that is refused before anything is written
pub refused_here : (P : Tables → Tables → Type 0) (err : KeepErr) (d : DiskSeen) (r s : Tables) (g : ℕ) (l : Last) (a b : Counts) → s ≡ r
    → Tallied (keeper_faults_in err) (d.faults + a.own) (d.faults + b.own) → b.commits ≡ a.commits
    → NotCommitted P err (journal_seen d r g l a) (journal_seen d s g l b)
refused_here P err d r s g l a b same faults commits = record {
  tables = told_here d r s g l a b same;
  up = λ up. inl up;
  faults = faults;
  commits = commits;
  waits = refl;
  crash = crash_here (begun_by err P) d r s g l a b same;
}

-- ---- what opens while the disk is asked

either_rows : (rows of u : Tables) (ws : List Write) → rows ≡ of → (u ≡ of) ⊎ (u ≡ write_all of ws) → (u ≡ rows) ⊎ (u ≡ write_all rows ws)
either_rows rows of u ws same (inl e) = inl (e ∙ sym same)
either_rows rows of u ws same (inr e) = inr (e ∙ ap (λ (t : Tables). write_all t ws) (sym same))

opened_either : (rows : Tables) (commits : List (List Write)) (ws : List Write) (c : List ℕ) (u : Tables) → rows ≡ tables_of commits → AreCommits commits → IsCommit ws
    → EitherState (each payload_of commits) (payload_of ws) c → Opens c u → (u ≡ rows) ⊎ (u ≡ write_all rows ws)
opened_either rows commits ws c u same are one (inl closed) opens = inl (closed_opens commits c u are closed opens ∙ sym same)
opened_either rows commits ws c u same are one (inr doubtful) opens =
    either_rows rows (tables_of commits) u ws same (doubtful_opens commits ws c u are one doubtful opens)

settle_told : (t r u : Tables) (ws : List Write) → t ≡ r → (u ≡ r) ⊎ (u ≡ write_all r ws) → (u ≡ t) ⊎ (u ≡ write_all r ws)
settle_told t r u ws same (inl e) = inl (e ∙ sym same)
settle_told t r u ws same (inr e) = inr e

begun_as : {A B : Type 0} (P : Type 0) → (B → P) → A ⊎ B → A ⊎ P
begun_as P more (inl a) = inl a
begun_as P more (inr b) = inr (more b)

begun_either : {A B C : Type 0} → A ⊎ C → A ⊎ (B ⊎ C)
begun_either (inl a) = inl a
begun_either (inr c) = inr (inr c)

doubt_either : {A B C : Type 0} → A ⊎ B → A ⊎ (B ⊎ C)
doubt_either (inl a) = inl a
doubt_either (inr b) = inr (inl b)

-- ---- a settling

-- nothing is in doubt
pub settled_none : (d : DiskSeen) (r : Tables) (g : ℕ) (a : Counts) → HasSettled (journal_seen d r g Closed a) (journal_seen d r g Closed a)
settled_none d r g a = record {
  settling = record { tables = λ t told. told; commits = refl; calls = refl; waits = refl; crash = crash_here Nothing d r r g Closed a a refl };
  faults = refl;
  sure = λ u doubt. doubt;
}

settle_crash : (d e : DiskSeen) (r : Tables) (g : ℕ) (ws : List Write) (l : Last) (a : Counts) (done : Bool) → Settles g done d e
    → ((u : Tables) → doubt_of l r u → u ≡ write_all r ws)
    → Crash Nothing (journal_seen d r g (Doubtful ws) a) (journal_seen e r g l a)
settle_crash d e r g ws l a done s fewer = record {
  later = s.time.later;
  past = λ m u before opened. (opened.0, (s.time.past m opened.0 before opened.1.0, opened.1.1));
  within = λ t told m u behind before opened.
      let k = told.1 in
      let does = s.does (each payload_of k.commits) (payload_of ws) k.place k.all in
      doubt_either (settle_told t r u ws told.0 (opened_either r k.commits ws opened.0 u k.tables k.are k.fits (does.0.within m opened.0 behind before opened.1.0) opened.1.1));
  doubts = λ t told u doubt. inl (fewer u doubt);
}

pub settled_now : (d e : DiskSeen) (r : Tables) (g : ℕ) (ws : List Write) (a : Counts) → Settles g true d e
    → HasSettled (journal_seen d r g (Doubtful ws) a) (journal_seen e r g Closed a)
settled_now d e r g ws a s = record {
  settling = record {
    tables = λ t told.
        let k = told.1 in (
          told.0,
          record {
            commits = k.commits;
            are = k.are;
            tables = k.tables;
            place = k.place;
            fits = tt;
            all = (s.does (each payload_of k.commits) (payload_of ws) k.place k.all).1;
          },
        );
    commits = refl;
    calls = refl;
    waits = refl;
    crash = settle_crash d e r g ws Closed a true s (λ u doubt. absurd doubt);
  };
  faults = omega (arith, s.faults);
  sure = λ u doubt. doubt;
}

pub not_settled : (d e : DiskSeen) (r : Tables) (g : ℕ) (ws : List Write) (a : Counts) → Settles g false d e
    → NotSettled (journal_seen d r g (Doubtful ws) a) (journal_seen e r g (Doubtful ws) a)
not_settled d e r g ws a s = record {
  settling = record {
    tables = λ t told.
        let k = told.1 in (
          told.0,
          record {
            commits = k.commits;
            are = k.are;
            tables = k.tables;
            place = k.place;
            fits = k.fits;
            all = (s.does (each payload_of k.commits) (payload_of ws) k.place k.all).1;
          },
        );
    commits = refl;
    calls = refl;
    waits = refl;
    crash = settle_crash d e r g ws (Doubtful ws) a false s (λ u doubt. doubt);
  };
  faults = grew_beside 1 d.faults e.faults a.own a.own s.faults refl;
}

pub settled_by : (d e : DiskSeen) (r : Tables) (g : ℕ) (ws : List Write) (a : Counts) (l : Last) → l ≡ Doubtful ws → Settles g true d e
    → HasSettled (journal_seen d r g l a) (journal_seen e r g Closed a)
settled_by d e r g ws a l is s = subst (λ (k : Last). HasSettled (journal_seen d r g k a) (journal_seen e r g Closed a)) (sym is) (settled_now d e r g ws a s)

pub not_settled_by : (d e : DiskSeen) (r : Tables) (g : ℕ) (ws : List Write) (a : Counts) (l : Last) → l ≡ Doubtful ws → Settles g false d e
    → NotSettled (journal_seen d r g l a) (journal_seen e r g l a)
not_settled_by d e r g ws a l is s = subst (λ (k : Last). NotSettled (journal_seen d r g k a) (journal_seen e r g k a)) (sym is) (not_settled d e r g ws a s)

pub none_settled_by : (d : DiskSeen) (r : Tables) (g : ℕ) (a : Counts) (l : Last) → l ≡ Closed → HasSettled (journal_seen d r g l a) (journal_seen d r g l a)
none_settled_by d r g a l is = subst (λ (k : Last). HasSettled (journal_seen d r g k a) (journal_seen d r g k a)) (sym is) (settled_none d r g a)

-- ---- an appending, of a journal that is closed

pub commit_of : (ws : List Write) → CanCommit ws → IsCommit ws
commit_of ws can = record { spelled = can.spelled; short = omega (arith, can.short) }

append_within : (d e : DiskSeen) (r : Tables) (g : ℕ) (ws : List Write) (result : _) → IsCommit ws → Appends g (payload_of ws) result d e → Keeps r g Closed d
    → (t : Tables) → t ≡ r → (m : ℕ) (u : Tables) → d.moment < m → m ≤ e.moment → (c : List ℕ) → e.left m c → Opens c u → (u ≡ t) ⊎ (u ≡ write_all t ws)
append_within d e r g ws result one s k t same m u behind before c left opens =
    let does = s.does (each payload_of k.commits) k.place k.all in
    either_rows t r u ws same (opened_either r k.commits ws c u k.tables k.are one (does.0.within m c behind before left) opens)

append_crash : (P : Tables → Tables → Type 0) (d e : DiskSeen) (r s : Tables) (g h : ℕ) (ws : List Write) (result : _) (l : Last) (a b : Counts)
    → IsCommit ws → Appends g (payload_of ws) result d e
    → ((t u : Tables) → u ≡ write_all t ws → P t u)
    → ((t : Tables) → t ≡ r → (u : Tables) → doubt_of l s u → P t u)
    → Crash P (journal_seen d r g Closed a) (journal_seen e s h l b)
append_crash P d e r s g h ws result l a b one p begun doubts = record {
  later = p.time.later;
  past = λ m u before opened. (opened.0, (p.time.past m opened.0 before opened.1.0, opened.1.1));
  within = λ t told m u behind before opened.
      begun_either (begun_as (P t u) (begun t u) (append_within d e r g ws result one p told.1 t told.0 m u behind before opened.0 opened.1.0 opened.1.1));
  doubts = λ t told u doubt. inr (doubts t told.0 u doubt);
}

ends_told : (d e : DiskSeen) (r : Tables) (g : ℕ) (ws : List Write) → IsCommit ws → Appends g (payload_of ws) appended.Closed d e → Keeps r g Closed d → Keeps r g Closed e
ends_told d e r g ws one s k = record {
  commits = k.commits;
  are = k.are;
  tables = k.tables;
  place = k.place;
  fits = tt;
  all = (s.does (each payload_of k.commits) k.place k.all).1;
}

doubtful_told : (d e : DiskSeen) (r : Tables) (g : ℕ) (ws : List Write) → IsCommit ws → Appends g (payload_of ws) appended.Doubtful d e → Keeps r g Closed d
    → Keeps r g (Doubtful ws) e
doubtful_told d e r g ws one s k = record {
  commits = k.commits;
  are = k.are;
  tables = k.tables;
  place = k.place;
  fits = one;
  all = (s.does (each payload_of k.commits) k.place k.all).1;
}

pub block_size : (ps : List (List ℕ)) (p : List ℕ) → length (blocks (ps ++ p ∷ [])) ≡ length (blocks ps) + (length p + 5)
block_size ps p =
    let e : length (blocks (ps ++ p ∷ [])) ≡ length (blocks ps ++ (1 ∷ (record_of p ++ []))) =
    ap length (sym (append-nil (blocks (ps ++ p ∷ [])))) ∙ ap length (blocks_push ps p []) in
    omega (arith, e, length-append (blocks ps) (1 ∷ (record_of p ++ [])), ap length (append-nil (record_of p)))

opened_told : (d e : DiskSeen) (r s : Tables) (g h : ℕ) (ws : List Write) → IsCommit ws → Appends g (payload_of ws) appended.Opened d e
    → s ≡ write_all r ws → h ≡ g + (length (payload_of ws) + 5) → Keeps r g Closed d → Keeps s h Closed e
opened_told d e r s g h ws one done after next k = record {
  commits = k.commits ++ ws ∷ [];
  are = commits_push k.commits ws k.are one;
  tables = after ∙ (ap (λ (t : Tables). write_all t ws) k.tables ∙ sym (tables_push k.commits ws));
  place = ap (λ (ps : List (List ℕ)). length (blocks ps)) (payloads_push k.commits ws)
      ∙ (block_size (each payload_of k.commits) (payload_of ws) ∙ omega (arith, k.place, next));
  fits = tt;
  all = subst (λ (ps : List (List ℕ)). AllLeft (IsClosed ps) e) (sym (payloads_push k.commits ws)) (done.does (each payload_of k.commits) k.place k.all).1;
}

pub opened_commit : (d e : DiskSeen) (r s : Tables) (g h : ℕ) (ws : List Write) (a b : Counts) → CanCommit ws → Appends g (payload_of ws) appended.Opened d e
    → s ≡ write_all r ws → h ≡ g + (length (payload_of ws) + 5) → b.own ≡ a.own → b.commits ≡ one_more a.commits
    → Committed ws (journal_seen d r g Closed a) (journal_seen e s h Closed b)
opened_commit d e r s g h ws a b can done after next own commits = record {
  tables = record {
    each = λ t told. record {
      value = s;
      told = (refl, opened_told d e r s g h ws (commit_of ws can) done after next told.1);
      fits = after ∙ ap (λ (x : Tables). write_all x ws) (sym told.0);
    };
  };
  up = λ up. up;
  faults = omega (arith, done.faults, own);
  commits = commits;
  waits = refl;
  crash = append_crash (IsWritten ws) d e r s g h ws appended.Opened Closed a b (commit_of ws can) done (λ t u begun. begun) (λ t same u doubt. absurd doubt);
  sure = λ t told u doubt. doubt;
}

pub closed_commit : (d e : DiskSeen) (r : Tables) (g : ℕ) (ws : List Write) (a : Counts) → CanCommit ws → Appends g (payload_of ws) appended.Closed d e
    → NotCommitted (IsWritten ws) Failed (journal_seen d r g Closed a) (journal_seen e r g Closed a)
closed_commit d e r g ws a can done = record {
  tables = λ t told. (told.0, ends_told d e r g ws (commit_of ws can) done told.1);
  up = λ up. inl up;
  faults = tallied_one (grew_beside 1 d.faults e.faults a.own a.own done.faults refl);
  commits = refl;
  waits = refl;
  crash = append_crash (IsWritten ws) d e r r g g ws appended.Closed Closed a a (commit_of ws can) done (λ t u begun. begun) (λ t same u doubt. absurd doubt);
}

pub doubtful_commit : (d e : DiskSeen) (r : Tables) (g : ℕ) (ws : List Write) (a : Counts) → CanCommit ws → Appends g (payload_of ws) appended.Doubtful d e
    → NotCommitted (IsWritten ws) Failed (journal_seen d r g Closed a) (journal_seen e r g (Doubtful ws) a)
doubtful_commit d e r g ws a can done = record {
  tables = λ t told. (told.0, doubtful_told d e r g ws (commit_of ws can) done told.1);
  up = λ up. inl up;
  faults = tallied_one (grew_beside 1 d.faults e.faults a.own a.own done.faults refl);
  commits = refl;
  waits = refl;
  crash = append_crash (IsWritten ws) d e r r g g ws appended.Doubtful (Doubtful ws) a a (commit_of ws can) done (λ t u begun. begun)
      (λ t same u doubt. doubt ∙ ap (λ (x : Tables). write_all x ws) (sym same));
}

-- ---- one behind another

-- calls that begin nothing and count no fault
pub record Quietly (old new : KeeperSeen) : Type 0 where
  pub tables : (t : Tables) → old.tables t → new.tables t
  pub up : old.up → new.up
  pub faults : new.faults ≡ old.faults
  pub commits : new.commits ≡ old.commits
  pub waits : new.waits ≡ old.waits
  pub crash : Crash Nothing old new

pub quietly_here : (d : DiskSeen) (r s : Tables) (g : ℕ) (l : Last) (a b : Counts) → s ≡ r → b.own ≡ a.own → b.commits ≡ a.commits
    → Quietly (journal_seen d r g l a) (journal_seen d s g l b)
quietly_here d r s g l a b same own commits = record {
  tables = told_here d r s g l a b same;
  up = λ up. up;
  faults = omega (arith, own);
  commits = commits;
  waits = refl;
  crash = crash_here Nothing d r s g l a b same;
}

pub quietly_settled : (d e : DiskSeen) (r s : Tables) (g h : ℕ) (l m : Last) (a b : Counts) → HasSettled (journal_seen d r g l a) (journal_seen e s h m b)
    → Quietly (journal_seen d r g l a) (journal_seen e s h m b)
quietly_settled d e r s g h l m a b p = record {
  tables = p.settling.tables;
  up = λ up. up;
  faults = p.faults;
  commits = p.settling.commits;
  waits = p.settling.waits;
  crash = p.settling.crash;
}

early : {A B C D : Type 0} → A ⊎ (B ⊎ C) → (C → D) → A ⊎ (B ⊎ D)
early (inl a) more = inl a
early (inr (inl b)) more = inr (inl b)
early (inr (inr c)) more = inr (inr (more c))

none : {B : Type 0} → B ⊎ ⊥ → B
none (inl b) = b
none (inr c) = absurd c

later_doubt : {A B C D : Type 0} → (B → D ⊎ ⊥) → A ⊎ (B ⊎ C) → A ⊎ (D ⊎ C)
later_doubt back (inl a) = inl a
later_doubt back (inr (inl b)) = inr (inl (none (back b)))
later_doubt back (inr (inr c)) = inr (inr c)

ends_doubt : {B C D : Type 0} → (B → D ⊎ ⊥) → B ⊎ C → D ⊎ C
ends_doubt back (inl b) = inl (none (back b))
ends_doubt back (inr c) = inr c

crash_two : {P : Tables → Tables → Type 0} {a b c : KeeperSeen} → Quietly a b → Crash P b c → (t : Tables) → a.tables t → (m : ℕ) (u : Tables) → a.moment < m → m ≤ c.moment
    → c.opened m u → (b.moment < m) ⊎ (m ≤ b.moment) → (u ≡ t) ⊎ (a.doubt u ⊎ P t u)
crash_two {P} q p t told m u behind before opened (inl second) = later_doubt (q.crash.doubts t told u) (p.within t (q.tables t told) m u second before opened)
crash_two {P} q p t told m u behind before opened (inr first) = early (q.crash.within t told m u behind first (p.past m u first opened)) (λ none. absurd none)

pub crash_then : {P : Tables → Tables → Type 0} {a b c : KeeperSeen} → Quietly a b → Crash P b c → Crash P a c
crash_then {P} {a} {b} {c} q p = record {
  later = omega (arith, q.crash.later, p.later);
  past = λ m u before opened. q.crash.past m u before (p.past m u (omega (arith, q.crash.later)) opened);
  within = λ t told m u behind before opened. crash_two q p t told m u behind before opened (cases_lt b.moment m);
  doubts = λ t told u doubt. ends_doubt (q.crash.doubts t told u) (p.doubts t (q.tables t told) u doubt);
}

pub committed_then : {ws : List Write} {a b c : KeeperSeen} → Quietly a b → Committed ws b c → Committed ws a c
committed_then {ws} q p = record {
  tables = record { each = λ t told. p.tables.each t (q.tables t told) };
  up = λ up. p.up (q.up up);
  faults = p.faults ∙ q.faults;
  commits = p.commits ∙ ap one_more q.commits;
  waits = p.waits;
  crash = crash_then q p.crash;
  sure = λ t told u doubt. p.sure t (q.tables t told) u doubt;
}

pub not_committed_then : {P : Tables → Tables → Type 0} {err : KeepErr} {a b c : KeeperSeen} → Quietly a b → NotCommitted P err b c → NotCommitted P err a c
not_committed_then {P} {err} {a} {b} {c} q p = record {
  tables = λ t told. p.tables t (q.tables t told);
  up = λ up. up_either a b c q.faults (p.up (q.up up));
  faults = subst (λ (k : ℕ). Tallied (keeper_faults_in err) k c.faults) q.faults p.faults;
  commits = p.commits ∙ q.commits;
  waits = p.waits ∙ q.waits;
  crash = crash_then q p.crash;
}

pub not_settled_commit : (P : Tables → Tables → Type 0) {a b : KeeperSeen} → b.up → NotSettled a b → NotCommitted P Failed a b
not_settled_commit P {a} {b} up s = record {
  tables = s.settling.tables;
  up = λ was. inl up;
  faults = tallied_one s.faults;
  commits = s.settling.commits;
  waits = s.settling.waits;
  crash = record {
    later = s.settling.crash.later;
    past = s.settling.crash.past;
    within = λ t told m u behind before opened. early (s.settling.crash.within t told m u behind before opened) (λ none. absurd none);
    doubts = λ t told u doubt. inl (none (s.settling.crash.doubts t told u doubt));
  };
}

quietly_then : {a b c : KeeperSeen} → Quietly a b → Quietly b c → Quietly a c
quietly_then p q = record {
  tables = λ t told. q.tables t (p.tables t told);
  up = λ up. q.up (p.up up);
  faults = q.faults ∙ p.faults;
  commits = q.commits ∙ p.commits;
  waits = q.waits ∙ p.waits;
  crash = crash_then p q.crash;
}

-- ---- a whole commit: d at first, e behind the settling, f at the end

pub commit_unsettled : (ws : List Write) (d e : DiskSeen) (r s t : Tables) (g h : ℕ) (l m : Last) (a b c : Counts) → s ≡ r → b.own ≡ a.own → b.commits ≡ a.commits
    → NotSettled (journal_seen d s g l b) (journal_seen e t h m c)
    → NotCommitted (IsWritten ws) Failed (journal_seen d r g l a) (journal_seen e t h m c)
commit_unsettled ws d e r s t g h l m a b c same own commits not =
    not_committed_then (quietly_here d r s g l a b same own commits) (not_settled_commit (IsWritten ws) tt not)

settled_first : (d e : DiskSeen) (r s t : Tables) (g h : ℕ) (l m : Last) (a b c : Counts) → s ≡ r → b.own ≡ a.own → b.commits ≡ a.commits
    → HasSettled (journal_seen d s g l b) (journal_seen e t h m c) → m ≡ Closed → Quietly (journal_seen d r g l a) (journal_seen e t h Closed c)
settled_first d e r s t g h l m a b c same own commits done closed =
    subst (λ (k : Last). Quietly (journal_seen d r g l a) (journal_seen e t h k c)) closed
    (quietly_then (quietly_here d r s g l a b same own commits) (quietly_settled d e s t g h l m b c done))

pub commit_opened : (ws : List Write) (d e f : DiskSeen) (r s t u : Tables) (g h k : ℕ) (l m : Last) (a b c n : Counts) → s ≡ r → b.own ≡ a.own → b.commits ≡ a.commits
    → HasSettled (journal_seen d s g l b) (journal_seen e t h m c) → m ≡ Closed
    → CanCommit ws → Appends h (payload_of ws) appended.Opened e f → u ≡ write_all t ws → k ≡ h + (length (payload_of ws) + 5) → n.own ≡ c.own → n.commits ≡ one_more c.commits
    → Committed ws (journal_seen d r g l a) (journal_seen f u k m n)
commit_opened ws d e f r s t u g h k l m a b c n same own commits done closed can appends after next own_too more =
    subst (λ (x : Last). Committed ws (journal_seen d r g l a) (journal_seen f u k x n)) (sym closed)
    (committed_then (settled_first d e r s t g h l m a b c same own commits done closed) (opened_commit e f t u h k ws c n can appends after next own_too more))

pub commit_closed : (ws : List Write) (d e f : DiskSeen) (r s t : Tables) (g h : ℕ) (l m : Last) (a b c : Counts) → s ≡ r → b.own ≡ a.own → b.commits ≡ a.commits
    → HasSettled (journal_seen d s g l b) (journal_seen e t h m c) → m ≡ Closed
    → CanCommit ws → Appends h (payload_of ws) appended.Closed e f
    → NotCommitted (IsWritten ws) Failed (journal_seen d r g l a) (journal_seen f t h m c)
commit_closed ws d e f r s t g h l m a b c same own commits done closed can appends =
    subst (λ (x : Last). NotCommitted (IsWritten ws) Failed (journal_seen d r g l a) (journal_seen f t h x c)) (sym closed)
    (not_committed_then (settled_first d e r s t g h l m a b c same own commits done closed) (closed_commit e f t h ws c can appends))

pub commit_doubtful : (ws plan : List Write) (d e f : DiskSeen) (r s t : Tables) (g h : ℕ) (l m : Last) (a b c : Counts) → s ≡ r → b.own ≡ a.own → b.commits ≡ a.commits
    → HasSettled (journal_seen d s g l b) (journal_seen e t h m c) → m ≡ Closed → plan ≡ ws
    → CanCommit ws → Appends h (payload_of ws) appended.Doubtful e f
    → NotCommitted (IsWritten ws) Failed (journal_seen d r g l a) (journal_seen f t h (Doubtful plan) c)
commit_doubtful ws plan d e f r s t g h l m a b c same own commits done closed is can appends =
    subst (λ (p : List Write). NotCommitted (IsWritten ws) Failed (journal_seen d r g l a) (journal_seen f t h (Doubtful p) c)) (sym is)
    (not_committed_then (settled_first d e r s t g h l m a b c same own commits done closed) (doubtful_commit e f t h ws c can appends))
