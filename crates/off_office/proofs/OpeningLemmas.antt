-- The opening of the tables with its migration, and what comes behind it.
use Rattle.std.proofs.Common.{◌≡◌, ℕ, ◌+◌, ◌*◌, ◌<◌, ◌≤◌, ◌⊎◌, Bool, true, false, cond, List, [], ◌∷◌, Option, Some, None, is_some, count_by, Result, Ok, Err, MatchResult, refl, sym, ap, subst, ◌∙◌, inl, inr, arith}
use Rattle.std.specs.FinMap as map
use Rattle.std.proofs.lemmas.Bool.{cases_lt}
use Rattle.std.proofs.lemmas.List.Sums.{sum_by-cons}
use Rattle.off_defs.specs.declared.keys.Key.{Key}
use Rattle.off_defs.specs.declared.keys.Key.TheVariants as key
use Rattle.off_defs.specs.declared.tables.Row.{Row}
use Rattle.off_defs.specs.Keys.{key_cmp}
use Rattle.off_defs.specs.declared.writes.Write.{Write}
use Rattle.off_defs.specs.declared.kinds.Kind.TheVariants.{Hubs}
use Rattle.off_defs.specs.State.{Tables, Held, state_of, start, held_at_start}
use Rattle.off_defs.proofs.TableLemmas.{own_key, row_without, row_with}
use Rattle.off_defs.specs.Tables.{row_at, write_all, with_row, doubt_behind}
use Rattle.off_account_rules.specs.declared.counts.Counts.{Counts}
use Rattle.off_account_rules.specs.Rows.{possible, is_counted, count_of, counts_of}
use Rattle.off_account_rules.specs.Good.{Opens, Good}
use Rattle.off_account_rules.specs.Migration.{migration_of, migration, migrated}
use Rattle.off_table_laws.proofs.ListLemmas.{In}
use Rattle.off_table_laws.proofs.EntryRows.{in_row}
use Rattle.off_table_laws.proofs.GoodRows.{GoodRows}
use Rattle.off_table_laws.proofs.Judging.{good_rows}
use Rattle.off_table_laws.proofs.MigrationLemmas.{migrated_are_good}
use Rattle.off_accounts.specs.Changes.{counts_put}
use Rattle.off_accounts.proofs.CountsLemmas.{counts_with}
use Rattle.off_table_laws.proofs.CountLemmas.{counts_without_other}
use Rattle.off_kept.specs.Right.{AllRight}
use Rattle.off_kept.proofs.RightLemmas.{kept_stays_right}
use Rattle.off_users.specs.Users.{UsersHeld}
use Rattle.off_runs.specs.Reading.{Walks}
use Rattle.off_opening.specs.Standing.{OpensAs}
use Rattle.off_opening.specs.declared.opening.Opening.TheVariants as opening
use Rattle.off_outside.specs.declared.keeper.KeepErr.{KeepErr}
use Rattle.off_outside.specs.declared.keeper.KeepErr.TheVariants as keep
use Rattle.off_outside.specs.KeeperSeen.{KeeperSeen, Rests}
use Rattle.off_outside.specs.KeeperCalls.{Reads, NotDone, NotCommitted, Settled, IsWritten, Spent, WasCounted, WalksOnce}
use Rattle.off_outside.proofs.KeeperLemmas.{reads_then, settled_then, not_begun, not_begun_then, not_committed_as, settled_read, spent_one, spent_then, spent_within}
use Rattle.off_tftp.specs.Agreements.{AllAgreed}
use Rattle.off_office.proofs.AgreementLemmas.{agreements_stay}
use Rattle.off_office.specs.Desk.{Desk}
use Rattle.off_office.specs.Opening.{IsMigrated, OpensTo, LeavesOpening, doubt_opened, counts_behind, WalksAndMigrates}
use Rattle.off_office.specs.Conditions.{Mirrors, Fits, Opened, Founded, Begun, Follows, any_tables}
use Rattle.off_office.specs.Acting.{NotStarted, start_err}
use Rattle.off_office.specs.Asking.{commit_calls}
use Rattle.off_office.proofs.CommandLemmas.{at_most_one}
use Rattle.off_office.specs.declared.office.StartErr.{StartErr}
use Rattle.off_office.specs.declared.office.StartErr.TheVariants as start

-- what was written is the migration
pub migrated_by : (t : Tables) (writes : List Write) → writes ≡ migration t → (u : Tables) → IsWritten writes t u → IsMigrated t u
unfolding migrated
migrated_by t writes are u is = is ∙ ap (λ (ws : List Write). write_all t ws) are

-- ---- what a crash leaves meanwhile

at_first : (seen : KeeperSeen) (m : ℕ) (u : Tables) → m ≡ seen.moment → seen.opened m u → seen.opened seen.moment u
at_first seen m u e opened = subst (λ k. seen.opened k u) e opened

early_or : (t u : Tables) {doubt more : Type 0} → (u ≡ t) ⊎ doubt → (u ≡ t) ⊎ (doubt ⊎ more)
early_or t u (inl same) = inl same
early_or t u (inr doubt) = inr (inl doubt)

later_or : (t u : Tables) {doubt p q : Type 0} → (p → q) → (u ≡ t) ⊎ (doubt ⊎ p) → (u ≡ t) ⊎ (doubt ⊎ q)
later_or t u more (inl same) = inl same
later_or t u more (inr (inl doubt)) = inr (inl doubt)
later_or t u more (inr (inr begun)) = inr (inr (more begun))

opening_at : {P : Tables → Type 0} {a b : KeeperSeen} → Rests a → (opened : OpensTo P a b) → (t : Tables) → a.tables t → (m : ℕ) (u : Tables)
    → a.moment ≤ m → m ≤ b.moment → b.opened m u → (a.moment < m) ⊎ (m ≤ a.moment) → (u ≡ t) ⊎ (a.doubt u ⊎ IsMigrated t u)
opening_at rests opened t told m u from upto shown (inl behind) =
    later_or t u (migrated_by t opened.writes (opened.are t told) u) (opened.settled.crash.within t told m u behind upto shown)
opening_at {P} {a} rests opened t told m u from upto shown (inr before) =
    early_or t u (rests t told u (at_first a m u (omega (arith, from, before)) (opened.settled.crash.past m u before shown)))

pub leaves_opening : {P : Tables → Type 0} {a b c : KeeperSeen} → Rests a → OpensTo P a b → ((m : ℕ) (u : Tables) → m ≤ b.moment → c.opened m u → b.opened m u)
    → (t : Tables) → a.tables t → LeavesOpening b.moment a c t
leaves_opening {P} {a} {b} {c} rests opened past t told = record {
  later = opened.settled.crash.later;
  within = λ m u from upto shown. opening_at rests opened t told m u from upto (past m u upto shown) (cases_lt a.moment m);
}

pub doubts_opened : {P : Tables → Type 0} {a b : KeeperSeen} → OpensTo P a b → (t : Tables) → a.tables t → (u : Tables) → b.doubt u → doubt_opened a t u
doubts_opened {P} {a} opened t told u doubt = subst (λ (ws : List Write). doubt_behind ws (a.doubt u)) (opened.are t told) (opened.settled.doubts t told u doubt)

-- ---- how many rows there are then

-- where the site of earlier days stands no hub is counted
hub_counted : (t : Tables) (held : Row) → GoodRows (row_at t) → row_at t key.Site ≡ Some held → (k : Key) (r : Row) → row_at t k ≡ Some r → is_counted Hubs (k, r) ≡ true → ⊥
hub_counted t held g there (key.Hub n) r f counted = let none = (g.site_alone held there n).0 in cc
hub_counted t held g there _ r f counted = cc

none_counted : {A : Type 0} (p : A → Bool) (xs : List A) → ((x : A) → In x xs → p x ≡ true → ⊥) → count_by p xs ≡ 0
none_counted p [] none = refl
none_counted p (x ∷ xs) none =
    let rest = none_counted p xs (λ y i. none y (inr i)) in
    elim (p x) as (λ b. p x ≡ b → count_by p (x ∷ xs) ≡ 0) [
      | true ↦ λ e. absurd (none x (inl refl) e)
      | false ↦ λ e. sum_by-cons (λ y. cond (p y) 1 0) x xs ∙ ap (λ b. cond b 1 0 + count_by p xs) e ∙ omega (arith, rest)
    ] refl

no_hubs : (t : Tables) (held : Row) → GoodRows (row_at t) → row_at t key.Site ≡ Some held → count_of Hubs t ≡ 0
no_hubs t held g there = none_counted (is_counted Hubs) (map.entries t) (λ entry i. hub_counted t held g there entry.0 entry.1 (in_row t entry.0 entry.1 i))

counts_if : (t : Tables) (o : Option Row) → row_at t key.Site ≡ o → Opens t → counts_of (write_all t (migration_of o)) ≡ counts_behind (counts_of t) (migration_of o)
counts_if t None e opens = refl
counts_if t (Some held) e opens =
    let g = good_rows t opens in
    counts_without_other key.Site (with_row t (key.Hub 0) held) (λ kind. refl)
    ∙ counts_with Hubs (key.Hub 0) held t (λ n. refl) refl (g.possible key.Site held e)
    ∙ ap (λ (seen : Option Row). counts_put Hubs (is_some (possible (key.Hub 0) seen)) (counts_of t)) (g.site_alone held e 0).0
    ∙ ap (λ n. record (counts_of t) { hubs = n + 1 }) (no_hubs t held g e)

pub counts_migrated : (t : Tables) (writes : List Write) → writes ≡ migration t → Opens t → counts_of (write_all t writes) ≡ counts_behind (counts_of t) writes
counts_migrated t writes are opens =
    subst (λ (ws : List Write). counts_of (write_all t ws) ≡ counts_behind (counts_of t) ws) (sym are) (counts_if t (row_at t key.Site) refl opens)

-- ---- an office that is founded, and one that opens

fits_migrated : (t : Tables) (counts : Counts) (users : UsersHeld) (writes : List Write) (first after : Desk) → writes ≡ migration t → Begun first counts users t
    → Follows any_tables first after (counts_behind counts writes) writes → OpensAs t (opening.Open counts users) → Fits after (migrated t)
fits_migrated t counts users writes first after are begun follows opens = record {
  good = migrated_are_good t opens.0;
  mirrors = subst (Mirrors after) (migrated_by t writes are (write_all t writes) refl) (record {
    counts = follows.counts_are ∙ (ap (λ (c : Counts). counts_behind c writes) opens.1 ∙ sym (counts_migrated t writes are opens.0));
    kept = subst (AllRight (write_all t writes)) (sym follows.kept) (kept_stays_right t writes first.kept begun.kept);
    agreements = subst (AllAgreed (write_all t writes)) (sym follows.agreements) (agreements_stay t writes first.agreements begun.agreements);
    pools = follows.pools t opens.0 begun.pools;
    device_pools = follows.device_pools t opens.0 begun.device_pools;
    users = follows.users t (begun.users opens.2);
    devices = follows.devices t tt begun.devices;
  });
}

pub founded : (counts : Counts) (users : UsersHeld) (writes : List Write) (first after : Desk) {a b c d : KeeperSeen} → Rests a → Reads (λ t. writes ≡ migration t) a b
    → Reads (Begun first counts users) b c → Settled writes c d → Follows any_tables first after (counts_behind counts writes) writes → Founded after counts users a d
founded counts users writes first after rests reads begun settled follows = record {
  writes = writes;
  are = λ t told. (reads.tables t told).1;
  settled = settled_then rests (reads_then {R = λ t. writes ≡ migration t} reads begun (λ t are is. are)) settled;
  fits = λ t told opens. let read = reads.tables t told in
      fits_migrated t counts users writes first after read.1 (begun.tables t read.0).1 follows opens;
}

-- it isn't
pub not_done : (err : KeepErr) {a b : KeeperSeen} → Rests a → NotDone err a b → NotStarted (start_err err) a b
not_done keep.Failed rests not = not_begun rests not
not_done keep.Memory rests not = not_begun rests not

pub not_started_then : {P : Tables → Type 0} (why : StartErr) {a b : KeeperSeen} (c : KeeperSeen) → Rests a → Reads P a b → NotStarted why b c → NotStarted why a c
not_started_then (start.Bad key) c rests reads not = reads_then reads not (λ t p bad. bad)
not_started_then start.Failed c rests reads not = not_begun_then rests reads not
not_started_then start.Memory c rests reads not = not_begun_then rests reads not

not_migrated_by : (err : KeepErr) {a b : KeeperSeen} → NotCommitted IsMigrated err a b → NotStarted (start_err err) a b
not_migrated_by keep.Failed not = not
not_migrated_by keep.Memory not = not

pub not_migrated : (err : KeepErr) (writes : List Write) {a b c : KeeperSeen} → Rests a → Reads (λ t. writes ≡ migration t) a b
    → NotCommitted (IsWritten writes) err b c → NotStarted (start_err err) a c
not_migrated err writes rests reads not =
    not_migrated_by err (not_committed_as (not_begun_then rests reads not) (λ t told u written. migrated_by t writes (reads.tables t told).1 u written))

pub opened : (q : Result Desk StartErr) (counts : Counts) (users : UsersHeld) {a b : KeeperSeen} (c : KeeperSeen) → Rests a → Reads (λ t. OpensAs t (opening.Open counts users)) a b
    → MatchResult q (λ (office : Desk). Founded office counts users b c) (λ (err : StartErr). NotStarted err b c)
    → MatchResult q (λ (office : Desk). Opened office a c) (λ (err : StartErr). NotStarted err a c)
opened (Ok office) counts users c rests reads begun = record {
  opens = λ t told. (reads.tables t told).1.0;
  writes = begun.writes;
  are = λ t told. begun.are t (reads.tables t told).0;
  settled = settled_then rests reads begun.settled;
  tables = record {
    each = λ t told.
        let read = reads.tables t told in
        let g = begun.settled.tables.each t read.0 in
        let is = migrated_by t begun.writes (begun.are t read.0) g.value g.fits in
        record { value = g.value; told = g.told; fits = (is, subst (Fits office) (sym is) (begun.fits t read.0 read.1)) };
  };
}
opened (Err why) counts users c rests reads not = not_started_then why c rests reads not

-- ---- how many calls that takes

few_calls : (k m : ℕ) → m ≤ 1 → (1 + k) + m ≤ k + 2
few_calls k m one = omega (arith, one)

pub walks_five : {P : Tables → Type 0} {a b c : KeeperSeen} → Walks 3 a b → Reads P a b → Walks 2 b c → Walks 5 a c
walks_five first reads second t told = spent_within (spent_then (first t told) (second t (reads.tables t told).0)) (omega arith)

pub walks_more : {P : Tables → Type 0} {a b c : KeeperSeen} → Walks 5 a b → Reads P a b → WalksOnce b c → Walks 6 a c
walks_more first reads second t told = spent_within (spent_then (first t told) (second t (reads.tables t told).0)) (omega arith)

pub five_are_few : {a b : KeeperSeen} → Walks 5 a b → Walks 6 a b
five_are_few first t told = spent_within (first t told) (omega arith)

pub three_are_few : {a b : KeeperSeen} → Walks 3 a b → Walks 6 a b
three_are_few first t told = spent_within (first t told) (omega arith)

pub founding_calls : {P : Tables → Type 0} (writes : List Write) {a b c d : KeeperSeen} → WasCounted a b → Reads P a b → Walks 6 b c → Spent (commit_calls writes) c d
    → WalksAndMigrates 6 a d
founding_calls writes counted reads walks spent t told =
    spent_within (spent_then (spent_then (spent_one counted) (walks t (reads.tables t told).0)) spent) (few_calls (6 * (map.len t + 1)) (commit_calls writes) (at_most_one writes))

-- ---- what it leaves

-- an office works over good tables
pub opened_good : {desk : Desk} {a b : KeeperSeen} → Opened desk a b → (t : Tables) → a.tables t → Good (migrated t)
opened_good opened t told = let o = opened.tables.each t told in subst (λ (v : Tables). Good v) o.fits.0 o.fits.1.good

-- and begins in the state of its start
pub opened_state : (first : Desk) (t v : Tables) → IsMigrated t v → first.held ≡ held_at_start → state_of v first.held ≡ start (migrated t)
opened_state first t v is fresh = ap (λ (w : Tables). state_of w first.held) is ∙ ap (λ (h : Held). state_of (migrated t) h) fresh

-- tables that open to none had no rows
empty_if : (t : Tables) (o : Option Row) → write_all t (migration_of o) ≡ map.empty → t ≡ map.empty
empty_if t None e = e
empty_if t (Some held) e =
    let there = row_without (with_row t (key.Hub 0) held) key.Site (key.Hub 0) ∙ row_with t (key.Hub 0) held (key.Hub 0) ∙ ap (λ b. cond b (Some held) (row_at t (key.Hub 0))) (own_key (key.Hub 0)) in
    let none : Some held ≡ None = sym there ∙ (ap (λ (u : Tables). row_at u (key.Hub 0)) e ∙ map.get-empty key_cmp (key.Hub 0)) in
    cc

pub empty_before : (t : Tables) → migrated t ≡ map.empty → t ≡ map.empty
unfolding migrated
empty_before t e = empty_if t (row_at t key.Site) e

pub empty_stays : migrated map.empty ≡ map.empty
unfolding migrated
empty_stays = ap (λ (o : Option Row). write_all map.empty (migration_of o)) (map.get-empty key_cmp key.Site)

-- tables that opened are read
pub opens_then : {P Q R : Tables → Type 0} {a b c : KeeperSeen} → Rests a → OpensTo P a b → Reads Q b c → ((u : Tables) → P u → Q u → R u) → OpensTo R a c
opens_then rests opened reads join = record {
  opens = opened.opens;
  writes = opened.writes;
  are = opened.are;
  settled = settled_read rests opened.settled reads;
  tables = record {
    each = λ t told.
        let o = opened.tables.each t told in
        let read = reads.tables o.value o.told in
        record { value = o.value; told = read.0; fits = (o.fits.0, join o.value o.fits.1 read.1) };
  };
}
