-- What an opening finds, and what it leaves.
use Rattle.std.proofs.Common.{◌≡◌, ℕ, ◌<◌, ◌≤◌, ◌⊎◌, inl, inr, true, false, List, [], ◌∷◌, ◌++◌, length, drop, refl, sym, ap, subst, ◌∙◌, arith, length-append, map as each}
use Rattle.std.proofs.lemmas.Bool.{cases_lt}
use Rattle.std.proofs.lemmas.List.{nil_from_length}
use Rattle.std.specs.FinMap as map
use Rattle.off_defs.specs.declared.writes.Write.{Write}
use Rattle.off_defs.specs.State.{Tables}
use Rattle.off_disk.specs.DiskSeen.{DiskSeen}
use Rattle.off_disk.specs.DiskCalls.{Same, Holds, Torn, Passes, Kept, NotWritten, HasSynced, NotSynced, HasStored}
use Rattle.off_disk.specs.Records.{blocks, AreShort, IsOpen, Stands, IsClosed, IsBroken}
use Rattle.off_disk.specs.RecordLaws.{stands_one, closed_stands, broken_stands}
use Rattle.off_disk.specs.Crashing.{AllLeft, AllRead, Elapsed, Settles}
use Rattle.off_disk.proofs.Moments.{elapsed, elapsed_then, grew_from}
use Rattle.off_disk.proofs.Stretches.{kept_self}
use Rattle.off_journal.specs.Payload.{payload_of}
use Rattle.off_journal.specs.Journal.{tables_of, Opens, AreCommits}
use Rattle.off_journal.specs.JournalLaws.{all_short, all_spelled}
use Rattle.off_journal.specs.Keeping.{journal_seen}
use Rattle.off_journal.specs.declared.keeper.Counts.{Counts}
use Rattle.off_journal.specs.declared.keeper.Last.TheVariants.{Closed}
use Rattle.off_journal.specs.declared.begin.OpenErr.{OpenErr}
use Rattle.off_journal.specs.declared.begin.OpenErr.TheVariants as why
use Rattle.off_journal.specs.declared.begin.Gate.TheVariants.{Shut, Broken}
use Rattle.off_journal.specs.Begin.{Gives, OpensAsBefore, HasBegun, GateAt, FaultsAt, AllReadIn, NotAllRead, BadIn, HasOpened, NotOpened, MadeEmpty}

-- ---- what opens

opens_from : (c d : List ℕ) (u : Tables) → Same d c → Opens c u → Opens d u
opens_from c d u same opens = subst (λ (b : List ℕ). Opens b u) same opens

-- files that stand for the same open alike
opens_same : (ps : List (List ℕ)) (c d : List ℕ) (u : Tables) → Stands c ps → Stands d ps → Opens c u → Opens d u
opens_same ps c d u p q opens commits journal =
    let same : each payload_of commits ≡ ps = stands_one d (each payload_of commits) ps journal.stands q in
    opens commits (record { stands = subst (λ (qs : List (List ℕ)). Stands c qs) (sym same) p; spelled = journal.spelled })

pub step_before : (step : List ℕ → List ℕ → Type 0) {a b : DiskSeen} → Passes step a b → ((d c : List ℕ) (u : Tables) → a.left a.moment d → step d c → Opens c u → Opens d u)
    → OpensAsBefore a b
step_before step p back m c u behind before left opens = let d = p.within m c behind before left in (d.0, (d.1.0, back d.0 c u d.1.0 d.1.1 opens))

pub kept_before : {a b : DiskSeen} → Kept a b → OpensAsBefore a b
kept_before k = step_before Same k.passes (λ d c u left same opens. opens_from c d u same opens)

-- nothing was asked of the disk, since memory was refused
pub unasked : (a : DiskSeen) → NotOpened why.Memory a a
unasked a =
    let k = kept_self a in
    record { time = elapsed k.passes; faults = refl; bad = tt; as_before = kept_before k }

late_before : {a b : DiskSeen} → Elapsed a b → OpensAsBefore a b → (d : List ℕ) (u : Tables) → b.left b.moment d → Opens d u
    → (a.moment < b.moment) ⊎ (b.moment ≤ a.moment) → (e : List ℕ) × (a.left a.moment e × Opens e u)
late_before {a} {b} t p d u left opens (inl rose) = p b.moment d u rose (omega arith) left opens
late_before {a} {b} t p d u left opens (inr stood) = (d, (subst (λ (m : ℕ). a.left m d) (omega (arith, t.later, stood)) (t.past b.moment d stood left), opens))

before_two : {a b c : DiskSeen} → Elapsed a b → Elapsed b c → OpensAsBefore a b → OpensAsBefore b c → (m : ℕ) (x : List ℕ) (u : Tables) → a.moment < m → m ≤ c.moment
    → c.left m x → Opens x u → (b.moment < m) ⊎ (m ≤ b.moment) → (d : List ℕ) × (a.left a.moment d × Opens d u)
before_two {a} {b} {c} t v p q m x u behind before left opens (inl second) =
    let d = q m x u second before left opens in late_before t p d.0 u d.1.0 d.1.1 (cases_lt a.moment b.moment)
before_two {a} {b} {c} t v p q m x u behind before left opens (inr first) = p m x u behind first (v.past m x first left) opens

pub before_then : {a b c : DiskSeen} → Elapsed a b → Elapsed b c → OpensAsBefore a b → OpensAsBefore b c → OpensAsBefore a c
before_then {a} {b} {c} t v p q m x u behind before left opens = before_two t v p q m x u behind before left opens (cases_lt b.moment m)

-- ---- what was read

closed_by : (ps : List (List ℕ)) (b rest : List ℕ) → b ≡ blocks ps ++ rest → GateAt Shut rest → IsClosed ps b
closed_by ps b rest front at = record {
  gate = at.0;
  rest = at.1.0;
  is = front ∙ ap (λ (l : List ℕ). blocks ps ++ l) at.1.1.0;
  shut = at.1.1.1;
}

broken_by : (ps : List (List ℕ)) (b rest : List ℕ) → b ≡ blocks ps ++ rest → GateAt Broken rest → IsBroken ps b
broken_by ps b rest front at = record {
  gate = 1;
  rest = at.0;
  is = front ∙ ap (λ (l : List ℕ). blocks ps ++ l) at.1.0;
  none = λ p t opened. at.1.1 p t (subst (λ (l : List ℕ). IsOpen l p t) (sym at.1.0) opened);
}

sure_left : (P : List ℕ → Type 0) {a b : DiskSeen} → HasSynced a b → AllRead P b → AllLeft P b
sure_left P s all c left = all c (s.sure c left)

told_before : (P : List ℕ → Type 0) {a b : DiskSeen} → Kept a b → AllRead P b → AllRead P a
told_before P k all b told = let c = k.told b told in subst P c.1.1 (all c.0 c.1.0)

left_kept : (P : List ℕ → Type 0) {a b : DiskSeen} → Kept a b → AllLeft P a → (c : List ℕ) → b.left b.moment c
    → (a.moment < b.moment) ⊎ (b.moment ≤ a.moment) → P c
left_kept P {a} {b} k all c left (inl rose) = let d = k.passes.within b.moment c rose (omega arith) left in subst P (sym d.1.1) (all d.0 d.1.0)
left_kept P {a} {b} k all c left (inr stood) =
    all c (subst (λ (m : ℕ). a.left m c) (omega (arith, k.passes.later, stood)) (k.passes.past b.moment c stood left))

-- all that a crash may leave behind a sync and readings has what was read
read_left : (P : List ℕ → Type 0) {a b c : DiskSeen} → HasSynced a b → Kept b c → AllRead P c → AllLeft P c
read_left P {a} {b} {c} s k all x left = left_kept P k (sure_left P s (told_before P k all)) x left (cases_lt b.moment c.moment)

gives_by : (rows : Tables) (commits : List (List Write)) (b : List ℕ) → AreCommits commits → rows ≡ tables_of commits → Stands b (each payload_of commits) → Gives b rows
gives_by rows commits b are same stands = record {
  commits = commits;
  journal = record { stands = stands; spelled = all_spelled commits are };
  tables_are = same;
}

-- what was told at first is told behind a sync and readings
told_last : {a b c : DiskSeen} → HasSynced a b → Kept b c → (x : List ℕ) → a.bytes x → c.bytes x
told_last {a} {b} {c} s k x told =
    let one = s.kept.told x told in
    let two = k.told one.0 one.1.0 in
    subst (λ (l : List ℕ). c.bytes l) (two.1.1 ∙ one.1.1) two.1.0

closed_read : {a b : DiskSeen} (rows : Tables) (gate : ℕ) (r : AllReadIn rows gate false a b) → AllRead (IsClosed (each payload_of r.so_far.commits)) b
closed_read rows gate r x told = closed_by (each payload_of r.so_far.commits) x (drop gate x) (r.so_far.front x told) (r.last x told)

broken_read : {a b : DiskSeen} (rows : Tables) (gate : ℕ) (r : AllReadIn rows gate true a b) → AllRead (IsBroken (each payload_of r.so_far.commits)) b
broken_read rows gate r x told = broken_by (each payload_of r.so_far.commits) x (drop gate x) (r.so_far.front x told) (r.last x told)

pub opened_closed : (rows : Tables) (gate : ℕ) (d0 d1 d2 : DiskSeen) → HasSynced d0 d1 → AllReadIn rows gate false d1 d2 → HasOpened rows gate d0 d2
opened_closed rows gate d0 d1 d2 s r =
    let k = r.so_far in
    let ps = each payload_of k.commits in
    record {
      time = elapsed_then (elapsed s.kept.passes) (elapsed r.kept.passes);
      faults = r.faults ∙ s.faults;
      within = r.within;
      keeps = record {
        commits = k.commits;
        are = k.are;
        tables = k.tables;
        place = k.place;
        fits = tt;
        all = read_left (IsClosed ps) s r.kept (closed_read rows gate r);
      };
      gives = λ b told. gives_by rows k.commits b k.are k.tables (closed_stands ps b (all_short k.commits k.are) (closed_read rows gate r b (told_last s r.kept b told)));
      as_before = before_then (elapsed s.kept.passes) (elapsed r.kept.passes) (kept_before s.kept) (kept_before r.kept);
    }

-- a mending opens as before
mend_before : (ps : List (List ℕ)) (gate : ℕ) (done : _) (a b : DiskSeen) → AreShort ps → length (blocks ps) ≡ gate → Settles gate done a b → AllLeft (IsBroken ps) a → OpensAsBefore a b
mend_before ps gate done a b short place s all m c u behind before left opens =
    let d = s.time.from m c behind before left in
    let has = (s.mends ps place all).0.within m c behind before left in
    (d.0, (d.1, opens_same ps c d.0 u (broken_stands ps c short has) (broken_stands ps d.0 short (all d.0 d.1)) opens))

pub opened_mended : (rows : Tables) (gate : ℕ) (d0 d1 d2 d3 : DiskSeen) → HasSynced d0 d1 → AllReadIn rows gate true d1 d2 → Settles gate true d2 d3 → HasOpened rows gate d0 d3
opened_mended rows gate d0 d1 d2 d3 s r m =
    let k = r.so_far in
    let ps = each payload_of k.commits in
    let short = all_short k.commits k.are in
    let all : AllLeft (IsBroken ps) d2 = read_left (IsBroken ps) s r.kept (broken_read rows gate r) in
    let first = elapsed_then (elapsed s.kept.passes) (elapsed r.kept.passes) in
    record {
      time = elapsed_then first m.time;
      faults = m.faults ∙ (r.faults ∙ s.faults);
      within = omega (arith, r.within, m.size);
      keeps = record {
        commits = k.commits;
        are = k.are;
        tables = k.tables;
        place = k.place;
        fits = tt;
        all = (m.mends ps k.place all).1;
      };
      gives = λ b told. gives_by rows k.commits b k.are k.tables (broken_stands ps b short (broken_read rows gate r b (told_last s r.kept b told)));
      as_before = before_then first m.time (before_then (elapsed s.kept.passes) (elapsed r.kept.passes) (kept_before s.kept) (kept_before r.kept))
          (mend_before ps gate true d2 d3 short k.place m all);
    }

pub not_mended : (rows : Tables) (gate : ℕ) (d0 d1 d2 d3 : DiskSeen) → HasSynced d0 d1 → AllReadIn rows gate true d1 d2 → Settles gate false d2 d3 → NotOpened why.Failed d0 d3
not_mended rows gate d0 d1 d2 d3 s r m =
    let k = r.so_far in
    let ps = each payload_of k.commits in
    let all : AllLeft (IsBroken ps) d2 = read_left (IsBroken ps) s r.kept (broken_read rows gate r) in
    let first = elapsed_then (elapsed s.kept.passes) (elapsed r.kept.passes) in
    record {
      time = elapsed_then first m.time;
      faults = grew_from (r.faults ∙ s.faults) m.faults;
      bad = tt;
      as_before = before_then first m.time (before_then (elapsed s.kept.passes) (elapsed r.kept.passes) (kept_before s.kept) (kept_before r.kept))
          (mend_before ps gate false d2 d3 (all_short k.commits k.are) k.place m all);
    }

faults_from : (err : OpenErr) (a b c : ℕ) → b ≡ a → FaultsAt err b c → FaultsAt err a c
faults_from err a b c same faults = subst (λ (k : ℕ). FaultsAt err k c) same faults

bad_from : (err : OpenErr) {a b : DiskSeen} → HasSynced a b → BadIn err b → BadIn err a
bad_from why.Memory s bad = tt
bad_from why.Failed s bad = tt
bad_from (why.Bad place) {a} {b} s bad = λ x told. let c = s.kept.told x told in bad x (subst (λ (l : List ℕ). b.bytes l) c.1.1 c.1.0)

pub not_read : (err : OpenErr) (d0 d1 d2 : DiskSeen) → HasSynced d0 d1 → NotAllRead err d1 d2 → NotOpened err d0 d2
not_read err d0 d1 d2 s r = record {
  time = elapsed_then (elapsed s.kept.passes) (elapsed r.kept.passes);
  faults = faults_from err d0.faults d1.faults d2.faults s.faults r.faults;
  bad = bad_from err s r.bad;
  as_before = before_then (elapsed s.kept.passes) (elapsed r.kept.passes) (kept_before s.kept) (kept_before r.kept);
}

pub not_synced : (d0 d1 : DiskSeen) → NotSynced d0 d1 → NotOpened why.Failed d0 d1
not_synced d0 d1 s = record {
  time = elapsed s.kept.passes;
  faults = s.faults;
  bad = tt;
  as_before = kept_before s.kept;
}

-- ---- an empty disk

tiny_stands : (c : List ℕ) → length c ≤ 1 → Stands c []
tiny_stands c few payload tail opened = absurd (omega (arith, few, ap length opened.is, length-append payload tail, opened.gate))

torn_tiny : (d c : List ℕ) → length d ≡ 0 → Torn 0 1 d c → length c ≤ 1
torn_tiny d c none torn = omega (arith, none, torn.no_longer)

made_closed : (b c : List ℕ) → length b ≡ 0 → Holds 0 (0 ∷ []) b c → IsClosed [] c
made_closed b c none holds = record {
  gate = 0;
  rest = drop 1 b;
  is = holds;
  shut = λ e. absurd (omega (arith, e));
}

-- what a disk of no bytes may leave behind a sync is empty
abbrev pub Lengths : DiskSeen → Type 0
Lengths disk = (b : List ℕ) → disk.bytes b → length b ≡ disk.size

make_before : {d0 d1 d2 : DiskSeen} → HasSynced d0 d1 → ((c : List ℕ) → d1.left d1.moment c → length c ≡ 0) → Passes (Torn 0 1) d1 d2 → OpensAsBefore d1 d2
make_before {d0} {d1} {d2} s none p = step_before (Torn 0 1) p (λ d c u left torn opens.
    opens_same [] c d u (tiny_stands c (torn_tiny d c (none d left) torn)) (tiny_stands d (omega (arith, none d left))) opens)

empty_left : {d0 d1 : DiskSeen} → HasSynced d0 d1 → Lengths d1 → d1.size ≡ 0 → (c : List ℕ) → d1.left d1.moment c → length c ≡ 0
empty_left s lengths none c left = lengths c (s.sure c left) ∙ none

pub not_made : (d0 d1 d2 : DiskSeen) → HasSynced d0 d1 → Lengths d1 → d1.size ≡ 0 → NotWritten 0 1 d1 d2 → NotOpened why.Failed d0 d2
not_made d0 d1 d2 s lengths none w = record {
  time = elapsed_then (elapsed s.kept.passes) (elapsed w.passes);
  faults = grew_from s.faults w.faults;
  bad = tt;
  as_before = before_then (elapsed s.kept.passes) (elapsed w.passes) (kept_before s.kept) (make_before s (empty_left s lengths none) w.passes);
}

pub made : (rows : Tables) (d0 d1 d2 : DiskSeen) → rows ≡ map.empty → HasSynced d0 d1 → Lengths d1 → d1.size ≡ 0 → HasStored 0 (0 ∷ []) d1 d2
    → HasOpened rows 0 d0 d2
made rows d0 d1 d2 empty s lengths none t =
    let w = t.written in
    record {
      time = elapsed_then (elapsed s.kept.passes) (elapsed w.passes);
      faults = w.faults ∙ s.faults;
      within = omega (arith, w.size);
      keeps = record {
        commits = [];
        are = tt;
        tables = empty;
        place = refl;
        fits = tt;
        all = λ c left.
            let b = w.bytes c (t.sure c left) in
            made_closed b.0 c (lengths b.0 b.1.0 ∙ none) b.1.1;
      };
      gives = λ b told.
          let c = s.kept.told b told in
          let few : length b ≡ 0 = ap length (sym c.1.1) ∙ (lengths c.0 c.1.0 ∙ none) in
          gives_by rows [] b tt empty (tiny_stands b (omega (arith, few)));
      as_before = before_then (elapsed s.kept.passes) (elapsed w.passes) (kept_before s.kept) (make_before s (empty_left s lengths none) w.passes);
    }

-- a journal that was made is the one byte, and one that was there wasn't empty
pub made_empty : (d0 d1 d2 : DiskSeen) → Lengths d1 → d1.size ≡ 0 → HasStored 0 (0 ∷ []) d1 d2 → MadeEmpty d0 d2
made_empty d0 d1 d2 lengths none t empty b told =
    let before = t.written.bytes b told in
    let nothing : before.0 ≡ [] = nil_from_length before.0 (lengths before.0 before.1.0 ∙ none) in
    before.1.1 ∙ ap (λ (v : List ℕ). 0 ∷ drop 1 v) nothing

pub not_made_empty : (d0 d1 d2 : DiskSeen) → HasSynced d0 d1 → (d1.size ≡ 0 → ⊥) → MadeEmpty d0 d2
not_made_empty d0 d1 d2 s some empty b told = absurd (some (s.kept.size ∙ empty))

pub begun : (rows : Tables) (gate : ℕ) (d0 d1 : DiskSeen) (a : Counts) → a ≡ record { own = 0; calls = 0; commits = 0 } → HasOpened rows gate d0 d1
    → HasBegun d0 (journal_seen d1 rows gate Closed a)
begun rows gate d0 d1 a none o = record {
  tables = record { value = rows; told = (refl, o.keeps); fits = λ b told. o.gives b told };
  up = tt;
  faults = omega (arith, o.faults, ap (λ (k : Counts). k.own) none);
  calls = ap (λ (k : Counts). k.calls) none;
  commits = ap (λ (k : Counts). k.commits) none;
  sure = λ u doubt. doubt;
  later = o.time.later;
  past = λ m u before opened. (opened.0, (o.time.past m opened.0 before opened.1.0, opened.1.1));
  within = λ m u behind before opened. o.as_before m opened.0 u behind before opened.1.0 opened.1.1;
}
