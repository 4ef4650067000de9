-- A command: what was decided, and what its writes leave.
use Rattle.std.proofs.Common.{◌≡◌, ℕ, ◌+◌, ◌≤◌, List, [], ◌∷◌, Option, Some, None, option_map, arith, Result, Ok, Err, MatchResult, length, refl, sym, ap, ◌∙◌, subst}
use Rattle.std.specs.Prelude.{IsTrue}
use Rattle.off_orders.specs.declared.orders.Command.{Command}
use Rattle.off_orders.specs.declared.orders.Command.TheVariants.{PutHub, PutSubscriber, PutAddOn, PutModem, PutClass, PutPool, PutDevicePool, Remove, Show, Import}
use Rattle.off_defs.specs.declared.writes.Write.{Write}
use Rattle.off_defs.specs.State.{Tables, Held}
use Rattle.off_defs.specs.Tables.{write_all}
use Rattle.off_defs.specs.Told.{Told}
use Rattle.off_defs.proofs.ToldLemmas.{told_weaker}
use Rattle.off_orders.specs.declared.orders.Reply.{Reply}
use Rattle.off_orders.specs.Sound.{is_sound}
use Rattle.off_account_rules.specs.Good.{Good}
use Rattle.off_order_laws.specs.Laws.{secret_fits}
use Rattle.off_order_laws.proofs.StepLaws.{step_keeps_good}
use Rattle.off_account_rules.specs.Rows.{counts_of}
use Rattle.off_orders.specs.Clerk.{Accepted, Refusal, accepted, refusal, decided, Stepped, stepped_by, clerk_step, step_done, step_refused}
use Rattle.off_outside.specs.declared.keeper.KeepErr.{KeepErr}
use Rattle.off_outside.specs.declared.keeper.KeepErr.TheVariants as keep
use Rattle.off_outside.specs.KeeperSeen.{KeeperSeen, Rests}
use Rattle.off_outside.specs.KeeperCalls.{Reads, Commits, Settled, NotCommitted, IsWritten, Spent, WasCounted}
use Rattle.off_outside.proofs.KeeperLemmas.{reads_as, settled_commit, settled_then, not_begun, not_begun_then, not_committed_as, spent_none, spent_one, spent_then, spent_within}
use Rattle.off_accounts.specs.declared.results.Planned.{Planned}
use Rattle.off_accounts.specs.declared.results.AccountErr.{AccountErr}
use Rattle.off_accounts.specs.declared.results.AccountErr.TheVariants.{Refused, Failed, Memory}
use Rattle.off_accounts.specs.Deciding.{IsDecided, NotDecided, AnswersCommand, not_kept}
use Rattle.off_commands.specs.Commands.{AnswersImport}
use Rattle.off_kept.specs.Entries.{without_written}
use Rattle.off_users.specs.Users.{UsersHeld, StandsFor}
use Rattle.off_users.specs.Kept.{NamedMap, Knows, map_of}
use Rattle.off_users.proofs.KeptLemmas.{known_stands}
use Rattle.off_office.specs.Desk.{Desk}
use Rattle.off_office.specs.Acting.{desk_at}
use Rattle.off_office.specs.Conditions.{Mirrors, StaysFit, Follows, any_tables}
use Rattle.off_office.proofs.MirrorLemmas.{came_mirrors, came_fits, follows_mirrors}
use Rattle.off_office.specs.Asking.{SpentWithin, commit_calls, most_commits}
use Rattle.off_office.specs.Answering.{IsPlanned, NotPlanned, CommandBegins, Commanded, NotCommanded, CountsRows}

-- what is decided is the step
accepted_step : (t : Tables) (now : ℕ) (command : Command) (a : Accepted) → decided t now command ≡ Ok a → clerk_step t now command ≡ step_done t a.writes a.reply
unfolding clerk_step
accepted_step t now command a is = ap (stepped_by t) is

refused_step : (t : Tables) (now : ℕ) (command : Command) (r : Refusal) → decided t now command ≡ Err r → clerk_step t now command ≡ step_refused t r.row r.broken
unfolding clerk_step
refused_step t now command r is = ap (stepped_by t) is

-- what the office knows of modems is what it keeps of them
known_by : (desk : Desk) (users : UsersHeld) (t : Tables) → desk.users ≡ map_of users.modems → Mirrors desk t → StandsFor users t
known_by desk users t is mirrors = known_stands users t (subst (λ (known : NamedMap). Knows known t) is mirrors.users)

pub not_planned : (desk : Desk) (users : UsersHeld) (command : Command) (err : AccountErr) (a b : KeeperSeen) → desk.users ≡ map_of users.modems
    → NotDecided desk.counts users desk.held.now command err a b → NotPlanned desk command err a b
not_planned desk users command (Refused row rule) a b is reads =
    reads_as reads (λ t says mirrors. refused_step t desk.held.now command (refusal row rule) (says mirrors.counts (known_by desk users t is mirrors)))
not_planned desk users command Failed a b is done = done
not_planned desk users command Memory a b is done = done

pub is_planned : (planned : Planned) (desk : Desk) (users : UsersHeld) (command : Command) (a b : KeeperSeen) → desk.users ≡ map_of users.modems
    → Reads (λ t. desk.counts ≡ counts_of t → StandsFor users t → IsDecided desk.counts desk.held.now command planned t) a b → Reads (IsPlanned desk command planned) a b
is_planned planned desk users command a b kept reads = reads_as reads (λ t says. record {
  holds = λ mirrors.
      let is = says mirrors.counts (known_by desk users t kept mirrors) in
      (accepted_step t desk.held.now command (accepted planned.writes planned.reply) is.accepted, is.counted);
})

-- what a commit answers
pub settled_by : (r : Result (Unit {0}) KeepErr) (writes : List Write) (a b : KeeperSeen) → (length writes ≡ 0 → ⊥) → Commits r a b writes
    → MatchResult r (λ _. Settled writes a b) (λ err. NotCommitted (IsWritten writes) err a b)
settled_by (Ok u) writes a b some done = settled_commit writes some done
settled_by (Err err) writes a b some not = not

-- what was planned was done
commanded : (command : Command) (planned : Planned) (at now : ℕ) (before mid after : Desk) (a b c : KeeperSeen) → mid ≡ desk_at before at → mid.held.now ≡ now → Rests a
    → Reads (IsPlanned mid command planned) a b → Settled planned.writes b c → Follows any_tables mid after planned.counts planned.writes
    → Commanded command planned.reply now before after a c
commanded command planned at now before mid after a b c came is_now rests reads done is = subst (λ m. Commanded command planned.reply m before after a c) is_now (record {
  writes = planned.writes;
  tables = record {
    each = λ t told.
        let read = reads.tables t told in
        let g = done.tables.each t read.0 in
        record {
          value = g.value;
          told = g.told;
          fits = record {
            holds = λ mirrors. ((read.1.holds (came_mirrors before mid at t came mirrors)).0, g.fits);
            stays = λ fits.
                let here = came_fits before mid at t came fits in
                follows_mirrors any_tables mid after planned.counts planned.writes t g.value tt is (read.1.holds here.mirrors).1 g.fits here;
          };
        };
  };
  kept = is.kept ∙ ap (λ (d : Desk). without_written planned.writes d.kept) came;
  settled = settled_then rests reads done;
})

pub command_done : (command : Command) (planned : Planned) (at : ℕ) (before mid after : Desk) (a b c : KeeperSeen) → mid ≡ desk_at before at → Rests a
    → Reads (IsPlanned mid command planned) a b → Settled planned.writes b c → Follows any_tables mid after planned.counts planned.writes
    → Commanded command planned.reply after.held.now before after a c
command_done command planned at before mid after a b c came rests reads done is =
    commanded command planned at after.held.now before mid after a b c came (sym (ap (λ (h : Held). h.now) is.held)) rests reads done is

-- where the office fitted the tables it fits them again: good tables stay good
pub command_fits : (command : Command) (done : Reply) (now : ℕ) (before after : Desk) (a b : KeeperSeen) → IsTrue (is_sound command)
    → Commanded command done now before after a b → IsTrue (secret_fits command) → Told a.tables b.tables (StaysFit before after)
command_fits command done now before after a b sound did short = told_weaker did.tables (λ t u under fits.
    let f = under.holds fits.mirrors in
    let good : Good (step_done t did.writes done).tables =
    subst (λ (s : Stepped). Good s.tables) f.0 (step_keeps_good t now command sound short fits.good) in
    record { good = subst (λ (v : Tables). Good v) (sym f.1) good; mirrors = under.stays fits })

-- it wasn't planned
pub command_refused : (command : Command) (err : AccountErr) (at : ℕ) (before mid : Desk) (a b : KeeperSeen) → mid ≡ desk_at before at → Rests a
    → NotPlanned mid command err a b → NotCommanded command err mid.held.now before a b
command_refused command (Refused row rule) at before mid a b came rests reads = reads_as reads (λ t says mirrors. says (came_mirrors before mid at t came mirrors))
command_refused command Failed at before mid a b came rests not = not_begun rests not
command_refused command Memory at before mid a b came rests not = not_begun rests not

-- the writes that were planned are those of the command
planned_begins : (command : Command) (planned : Planned) (mid : Desk) (a b : KeeperSeen) → Reads (IsPlanned mid command planned) a b
    → (t : Tables) → a.tables t → (u : Tables) → IsWritten planned.writes t u → Mirrors mid t → u ≡ write_all t (clerk_step t mid.held.now command).writes
planned_begins command planned mid a b reads t told u written mirrors =
    let is = (reads.tables t told).1.holds mirrors in
    written ∙ ap (λ (s : Stepped). write_all t s.writes) (sym is.0)

-- it was planned, and not done
pub undone_so : (command : Command) (planned : Planned) (err : KeepErr) (at : ℕ) (before mid : Desk) (a b c : KeeperSeen) → mid ≡ desk_at before at → Rests a
    → Reads (IsPlanned mid command planned) a b → NotCommitted (IsWritten planned.writes) err b c
    → NotCommitted (CommandBegins command mid.held.now before) err a c
undone_so command planned err at before mid a b c came rests reads not =
    not_committed_as (not_begun_then rests reads not)
    (λ t told u written mirrors. planned_begins command planned mid a b reads t told u written (came_mirrors before mid at t came mirrors))

undone_by_err : (command : Command) (err : KeepErr) (now : ℕ) (before : Desk) (a c : KeeperSeen) → NotCommitted (CommandBegins command now before) err a c
    → NotCommanded command (not_kept err) now before a c
undone_by_err command keep.Memory now before a c not = not
undone_by_err command keep.Failed now before a c not = not

pub command_undone : (command : Command) (planned : Planned) (err : KeepErr) (at : ℕ) (before mid after : Desk) (a b c : KeeperSeen) → mid ≡ desk_at before at → Rests a
    → Reads (IsPlanned mid command planned) a b → NotCommitted (IsWritten planned.writes) err b c → after ≡ mid
    → NotCommanded command (not_kept err) after.held.now before a c
command_undone command planned err at before mid after a b c came rests reads not same =
    subst (λ (d : Desk). NotCommanded command (not_kept err) d.held.now before a c) (sym same)
    (undone_by_err command err mid.held.now before a c (undone_so command planned err at before mid a b c came rests reads not))

-- writes ask one call at most
pub at_most_one : (writes : List Write) → commit_calls writes ≤ 1
at_most_one [] = omega arith
at_most_one (write ∷ writes) = omega arith

-- what was planned commits no more than its command may
pub commits_within : (command : Command) (planned : Planned) → AnswersCommand command planned → commit_calls planned.writes ≤ most_commits command
commits_within (PutHub number site) planned is = at_most_one planned.writes
commits_within (PutSubscriber number subscriber) planned is = at_most_one planned.writes
commits_within (PutAddOn owner number settings) planned is = at_most_one planned.writes
commits_within (PutModem mac modem) planned is = at_most_one planned.writes
commits_within (PutClass number class) planned is = at_most_one planned.writes
commits_within (PutPool number pool hub) planned is = at_most_one planned.writes
commits_within (PutDevicePool number pool) planned is = at_most_one planned.writes
commits_within (Remove removed) planned is = at_most_one planned.writes
commits_within (Show shown) planned is = subst (λ (writes : List Write). commit_calls writes ≤ 0) (sym is.1) (omega arith)
commits_within (Import kind batch digest rows) planned is = at_most_one planned.writes

-- what was planned of an import is answered with its number of rows
pub counts_rows : (command : Command) (planned : Planned) → AnswersImport command planned
    → CountsRows command planned.reply
counts_rows (PutHub number site) planned is = tt
counts_rows (PutSubscriber number subscriber) planned is = tt
counts_rows (PutAddOn owner number settings) planned is = tt
counts_rows (PutModem mac modem) planned is = tt
counts_rows (PutClass number class) planned is = tt
counts_rows (PutPool number pool hub) planned is = tt
counts_rows (PutDevicePool number pool) planned is = tt
counts_rows (Remove removed) planned is = tt
counts_rows (Show shown) planned is = tt
counts_rows (Import kind batch digest rows) planned is = is

-- the commit of nothing, and of something
pub none_spent : (writes : List Write) (a : KeeperSeen) → Spent (commit_calls writes) a a
none_spent writes a = spent_within (spent_none a) (omega arith)

pub commit_spent : (writes : List Write) {a b : KeeperSeen} → (length writes ≡ 0 → ⊥) → WasCounted a b → Spent (commit_calls writes) a b
commit_spent [] some counted = absurd (some refl)
commit_spent (write ∷ writes) some counted = spent_one counted

-- a command is decided, and what was planned is committed
pub decided_spent : (most : Option ℕ) (more : ℕ) (a b : KeeperSeen) → SpentWithin most a b → SpentWithin (option_map (λ n. n + more) most) a b
decided_spent None more a b none = none
decided_spent (Some n) more a b spent = spent_within spent (omega arith)

pub done_spent : (most : Option ℕ) (calls more : ℕ) (a b c : KeeperSeen) → SpentWithin most a b → Spent calls b c → calls ≤ more
    → SpentWithin (option_map (λ n. n + more) most) a c
done_spent None calls more a b c none besides fits = none
done_spent (Some n) calls more a b c spent besides fits = spent_within (spent_then spent besides) (omega (arith, fits))

-- no call is within any bound
pub nothing_spent : (most : Option ℕ) (a : KeeperSeen) → SpentWithin most a a
nothing_spent None a = tt
nothing_spent (Some n) a = spent_within (spent_none a) (omega arith)
