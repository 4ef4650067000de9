-- What comes behind an opening: a commit, or a commit that isn't done.
use Rattle.std.proofs.Common.{◌⊎◌, List, ap, subst, ◌∙◌}
use mathlib.Core.Logic.{⊎_map}
use Rattle.off_defs.specs.Told.{Told}
use Rattle.off_defs.specs.Counts.{Grew, Tallied, commits_after}
use Rattle.off_orders.specs.declared.orders.Command.{Command}
use Rattle.off_defs.specs.declared.writes.Write.{Write}
use Rattle.off_defs.specs.State.{Tables}
use Rattle.off_defs.specs.Tables.{write_all}
use Rattle.off_defs.proofs.TableLemmas.{doubt_more}
use Rattle.off_account_rules.specs.Migration.{migrated}
use Rattle.off_outside.specs.declared.keeper.KeepErr.{KeepErr}
use Rattle.off_outside.specs.KeeperSeen.{KeeperSeen}
use Rattle.off_outside.specs.KeeperCalls.{NotCommitted, Settled, begun_by, keeper_faults_in}
use Rattle.off_outside.proofs.KeeperLemmas.{crash_weaker, begun_weaker, Between, crash_both}
use Rattle.off_office.specs.Desk.{Desk}
use Rattle.off_office.specs.Answering.{CommandBegins}
use Rattle.off_office.specs.Conditions.{Opened}
use Rattle.off_office.specs.Opening.{IsMigrated, OpensTo}
use Rattle.off_office.proofs.OpeningLemmas.{migrated_by}
use Rattle.off_office.specs.Closed.{Would}
use Rattle.off_import_job.specs.Importing.{LostBehind, SettledBoth}

-- what holds of the opened tables is weakened
pub opens_as : {P Q : Tables → Type 0} {a b : KeeperSeen} → OpensTo P a b → ((u : Tables) → P u → Q u) → OpensTo Q a b
opens_as opened weaker = record {
  opens = opened.opens;
  writes = opened.writes;
  are = opened.are;
  settled = opened.settled;
  tables = record { each = λ t told. let o = opened.tables.each t told in record { value = o.value; told = o.told; fits = (o.fits.0, weaker o.value o.fits.1) } };
}

-- another commit
pub settled_both : {first writes : List Write} {a b c : KeeperSeen} → Settled first a b → Settled writes b c → SettledBoth first writes a c
settled_both {first} {writes} p q = record {
  tables = record {
    each = λ t told.
        let g = p.tables.each t told in
        let h = q.tables.each g.value g.told in
        record { value = h.value; told = h.told; fits = h.fits ∙ ap (λ (v : Tables). write_all v writes) g.fits };
  };
  up = λ up. q.up (p.up up);
  faults = q.faults ∙ p.faults;
  commits = q.commits ∙ ap (commits_after writes) p.commits;
  crash = crash_both p.crash q.crash (record {
    each = λ t told.
        let g = p.tables.each t told in
        record { value = g.value; told = g.told; fits = (g.fits, λ u written. written ∙ ap (λ (v : Tables). write_all v writes) g.fits) };
  });
  doubts = λ t told u doubt. let g = p.tables.each t told in doubt_more writes (p.doubts t told u) (q.doubts g.value g.told u doubt);
}

-- a commit that isn't done
-- over the opened tables an office begins what the command makes of them
begins_there : (err : KeepErr) (desk : Desk) (command : Command) {a b : KeeperSeen} → Opened desk a b
    → Told a.tables b.tables (Between IsMigrated (begun_by err (CommandBegins command 0 desk)) (λ t u. begun_by err (Would 0 command) (migrated t) u))
begins_there err desk command opened = record {
  each = λ t told.
      let o = opened.tables.each t told in
      record {
        value = o.value;
        told = o.told;
        fits = (
          o.fits.0,
          λ u begun.
              begun_weaker err (CommandBegins command 0 desk) (Would 0 command) o.value (migrated t) u
              (λ begins. subst (λ (v : Tables). Would 0 command v u) o.fits.0 (begins o.fits.1.mirrors)) begun,
        );
      };
}

pub lost_behind : {err : KeepErr} (desk : Desk) (command : Command) {a b c : KeeperSeen} → Opened desk a b
    → NotCommitted (CommandBegins command 0 desk) err b c → LostBehind err command a c
lost_behind {err} desk command {a} {b} {c} opened not =
    let there = begins_there err desk command opened in
    record {
      opens = opened.opens;
      first = opened.writes;
      are = opened.are;
      tables = record {
        each = λ t told. let o = opened.tables.each t told in record { value = o.value; told = not.tables o.value o.told; fits = (o.fits.0, o.fits.1.good) };
      };
      up = λ up. subst (λ n. c.up ⊎ Grew 1 n c.faults) opened.settled.faults (not.up (opened.settled.up up));
      faults = subst (λ n. Tallied (keeper_faults_in err) n c.faults) opened.settled.faults not.faults;
      commits = not.commits ∙ opened.settled.commits;
      crash = crash_both (crash_weaker {P = IsMigrated} opened.settled.crash (λ t told u written. migrated_by t opened.writes (opened.are t told) u written)) not.crash there;
      doubts = λ t told u doubt.
          let g = there.each t told in
          ⊎_map (opened.settled.doubts t told u) (g.fits.1 u) (not.crash.doubts g.value g.told u doubt);
    }
