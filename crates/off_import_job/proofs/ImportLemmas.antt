-- From what each call did to what `import` promises.
use Rattle.std.proofs.Common.{◌≡◌, ◌≢◌, ℕ, true, false, List, [], ◌∷◌, Result, Ok, Err, refl, sym, ap, ◌∙◌, subst, inr, arith}
use Rattle.std.specs.Prelude.{Contains, IsTrue}
use Rattle.md5.specs.Md5.{md5}
use Rattle.csv.specs.Reading.{default_config, records, strip_bom}
use Rattle.off_defs.specs.Told.{Told}
use Rattle.off_defs.proofs.ToldLemmas.{told_weaker}
use Rattle.off_defs.specs.State.{Tables, Held, held_at, held_at_start}
use Rattle.off_defs.specs.declared.tables.ImportKind.{ImportKind}
use Rattle.off_orders.specs.declared.orders.Command.{Command}
use Rattle.off_orders.specs.declared.orders.Command.TheVariants.{Import}
use Rattle.off_orders.specs.declared.orders.ImportRow.{ImportRow}
use Rattle.off_orders.specs.declared.orders.Reply.{Reply}
use Rattle.off_orders.specs.declared.rules.Rule.{Rule}
use Rattle.off_orders.specs.declared.orders.Reply.TheVariants.{Rows}
use Rattle.off_account_rules.specs.Good.{Opens, Good, IsLeastBad}
use Rattle.off_account_rules.specs.Migration.{migrated}
use Rattle.off_orders.specs.Clerk.{Stepped, clerk_step, step_done, step_refused}
use Rattle.off_orders.specs.Sound.{is_sound}
use Rattle.off_order_laws.specs.Laws.{secret_fits}
use Rattle.off_order_laws.proofs.StepLaws.{step_keeps_good}
use Rattle.off_defs.specs.declared.writes.Write.{Write}
use Rattle.off_defs.specs.declared.keys.Key.{Key}
use Rattle.off_defs.specs.Tables.{write_all}
use Rattle.off_import_rules.specs.Reading.{◌>>=◌, import_in, table_of_records}
use Rattle.off_import_rules.specs.declared.faults.ImportFault.{ImportFault}
use Rattle.off_import_rules.specs.declared.faults.ImportErr.TheVariants as import_err
use Rattle.off_accounts.specs.declared.results.AccountErr.{AccountErr}
use Rattle.off_accounts.specs.declared.results.AccountErr.TheVariants as account_err
use Rattle.off_outside.specs.KeeperSeen.{KeeperSeen, Rests}
use Rattle.off_outside.specs.KeeperCalls.{IsWritten}
use Rattle.off_outside.specs.Streams.{SourceSeen, SinkSeen}
use Rattle.off_jobs.specs.Ending.{Tells}
use Rattle.off_jobs.specs.Health.{Stood, of_keeper, NoFault}
use Rattle.off_jobs.specs.Jobs.{streams}
use Rattle.off_jobs.specs.declared.input.InputErr.TheVariants as input_err
use Rattle.off_jobs.proofs.EndingLemmas.{stands, kept, told_whole, sink_kept, ends_by, source_kept, unread_status}
use Rattle.off_jobs.proofs.JobLemmas.{told_file, too_many_of}
use Rattle.off_office.specs.Answering.{Commanded, NotCommanded, CountsRows}
use Rattle.off_office.specs.Conditions.{Opened}
use Rattle.off_office.specs.Opening.{OpensTo}
use Rattle.off_office.specs.Desk.{Desk}
use Rattle.off_office.specs.declared.office.StartErr.TheVariants as start_err
use Rattle.off_office.specs.Closed.{SameOrGood}
use Rattle.off_import_job.specs.Telling.{import_end}
use Rattle.off_import_job.specs.Importing.{ReadAs, NotTaken, DidCommand, CarriesOut, LeftUndone, Ends, Doable, Imports}
use Rattle.off_import_job.specs.declared.importing.Ended.{Ended}
use Rattle.off_office.proofs.ClosedLemmas.{closed_status, closed_kept, closed_same}
use Rattle.off_office.proofs.OpeningLemmas.{opens_then}
use Rattle.off_import_job.proofs.BehindLemmas.{opens_as, settled_both, lost_behind}
use Rattle.off_import_job.specs.declared.importing.Ended.TheVariants.{Closed, Unread, NoImport, NotDone, Done}

-- an office that has just begun comes to moment 0
pub at_zero : (a b : Held) → b ≡ held_at a 0 → a ≡ held_at_start → b.now ≡ 0
at_zero a b came fresh = ap (λ (h : Held). h.now) came ∙ ap (λ (h : Held). (held_at h 0).now) fresh

-- what bytes are read as is an import, and is answered with its number of rows
abbrev NumbersRows : Reply → Result Command ImportFault → Type 0
NumbersRows reply (Ok command) = CountsRows command reply → (n : ℕ) × (reply ≡ Rows n)
NumbersRows reply (Err err) = Unit {0}

abbrev rows_as : ImportKind → ℕ → List ℕ → List ImportRow → Result Command ImportFault
rows_as kind batch digest rows = Ok (Import kind batch digest rows)

table_numbers : (kind : ImportKind) (batch : ℕ) (digest : List ℕ) (reply : Reply) (table : Result (List ImportRow) ImportFault)
    → NumbersRows reply (table >>= rows_as kind batch digest)
table_numbers kind batch digest reply (Ok rows) = λ counts. counts
table_numbers kind batch digest reply (Err err) = tt

import_numbers : (kind : ImportKind) (batch : ℕ) (bytes : List ℕ) (reply : Reply) → NumbersRows reply (import_in kind batch bytes)
import_numbers kind batch bytes reply =
    table_numbers kind batch (md5 bytes) reply (table_of_records kind (records default_config (strip_bom bytes)))

pub numbered : (kind : ImportKind) (batch : ℕ) (bytes : List ℕ) (command : Command) (reply : Reply) → import_in kind batch bytes ≡ Ok command
    → CountsRows command reply → (n : ℕ) × (reply ≡ Rows n)
numbered kind batch bytes command reply is counts =
    let f : NumbersRows reply (Ok command) = subst (NumbersRows reply) is (import_numbers kind batch bytes reply) in f counts

-- what bytes are read as leaves good tables good
abbrev KeepsGood : Result Command ImportFault → Type 0
KeepsGood (Ok command) = IsTrue (secret_fits command)
KeepsGood (Err err) = Unit {0}

table_keeps : (kind : ImportKind) (batch : ℕ) (digest : List ℕ) (table : Result (List ImportRow) ImportFault)
    → KeepsGood (table >>= rows_as kind batch digest)
table_keeps kind batch digest (Ok rows) = refl
table_keeps kind batch digest (Err err) = tt

import_keeps : (kind : ImportKind) (batch : ℕ) (bytes : List ℕ) → KeepsGood (import_in kind batch bytes)
import_keeps kind batch bytes = table_keeps kind batch (md5 bytes) (table_of_records kind (records default_config (strip_bom bytes)))

good_behind : (kind : ImportKind) (batch : ℕ) (bytes : List ℕ) (command : Command) (t u : Tables) (writes : List Write) (reply : Reply)
    → import_in kind batch bytes ≡ Ok command → IsTrue (is_sound command) → clerk_step t 0 command ≡ step_done t writes reply → u ≡ write_all t writes
    → Good t → Good u
good_behind kind batch bytes command t u writes reply is sound step written good =
    let fits : IsTrue (secret_fits command) = subst KeepsGood is (import_keeps kind batch bytes) in
    let after : Good (step_done t writes reply).tables = subst (λ (s : Stepped). Good s.tables) step (step_keeps_good t 0 command sound fits good) in
    subst (λ (v : Tables). Good v) (sym written) after

-- so the rows that are told are those of the answer
pub told_rows : (kind : ImportKind) (batch rows : ℕ) (bytes : List ℕ) (command : Command) (reply : Reply) → import_in kind batch bytes ≡ Ok command
    → CountsRows command reply → ((n : ℕ) → reply ≡ Rows n → rows ≡ n) → reply ≡ Rows rows
told_rows kind batch rows bytes command reply is counts are =
    let found = numbered kind batch bytes command reply is counts in
    found.1 ∙ ap (λ (n : ℕ). let r : Reply = Rows n in r) (sym (are found.0 found.1))

left_undone : (err : AccountErr) (desk : Desk) (command : Command) (k l m : KeeperSeen) → Rests k → Opened desk k l
    → NotCommanded command err 0 desk l m → LeftUndone err command k m
left_undone (account_err.Refused row broken) desk command k l m rests opened not = opens_then rests opened not (λ u fits says. (fits.good, says fits.mirrors))
left_undone account_err.Failed desk command k l m rests opened not = lost_behind desk command opened not
left_undone account_err.Memory desk command k l m rests opened not = lost_behind desk command opened not

pub opens_good : {desk : Desk} {k l : KeeperSeen} → Opened desk k l → OpensTo Good k l
opens_good opened = opens_as opened (λ u fits. fits.good)

-- the office opened, the import was read, and the command was given to the office
pub ends_given : (ended : Ended) (kind : ImportKind) (batch : ℕ) (command : Command) (desk : Desk) (k l m : KeeperSeen) (s s' : SourceSeen) → Rests k
    → Opened desk k l → ReadAs kind batch command s s' → IsTrue (is_sound command) → CarriesOut ended command desk l m → Ends ended kind batch k m s s'
ends_given (Closed err) kind batch command desk k l m s s' rests opened read sound did = absurd did
ends_given (Unread err) kind batch command desk k l m s s' rests opened read sound did = absurd did
ends_given (NoImport err) kind batch command desk k l m s s' rests opened read sound did = absurd did
ends_given (NotDone err) kind batch command desk k l m s s' rests opened read sound did = record {
  command = command;
  read = read;
  undone = left_undone err desk command k l m rests opened did;
}
ends_given (Done rows) kind batch command desk k l m s s' rests opened read sound did =
    let is : did.reply ≡ Rows rows = told_rows kind batch rows read.bytes command did.reply read.means did.counts did.rows_are in
    record {
      command = command;
      read = read;
      opens = opened.opens;
      first = opened.writes;
      are = opened.are;
      writes = did.done.writes;
      tables = record {
        each = λ t told.
            let o = opened.tables.each t told in
            let g = did.done.tables.each o.value o.told in
            let p = g.fits.holds o.fits.1.mirrors in
            record {
              value = g.value;
              told = g.told;
              fits = subst (λ (v : Tables). (clerk_step v 0 command ≡ step_done v did.done.writes (Rows rows)) × IsWritten did.done.writes v g.value) o.fits.0
                  (subst (λ (r : Reply). clerk_step o.value 0 command ≡ step_done o.value did.done.writes r) is p.0, p.1);
            };
      };
      settled = settled_both opened.settled did.done.settled;
      stays_good = record {
        each = λ t told.
            let o = opened.tables.each t told in
            let g = did.done.tables.each o.value o.told in
            let p = g.fits.holds o.fits.1.mirrors in
            record {
              value = g.value;
              told = g.told;
              fits = good_behind kind batch read.bytes command o.value g.value did.done.writes did.reply read.means sound p.0 p.1 o.fits.1.good;
            };
      };
    }

-- the office opened, and no import was taken from the source
pub ends_unread : (ended : Ended) (kind : ImportKind) (batch : ℕ) (desk : Desk) (k l : KeeperSeen) (s s' : SourceSeen)
    → Opened desk k l → NotTaken ended kind batch s s' → Ends ended kind batch k l s s'
ends_unread (Closed err) kind batch desk k l s s' opened not = absurd not
ends_unread (Unread err) kind batch desk k l s s' opened not = (opens_good opened, not)
ends_unread (NoImport err) kind batch desk k l s s' opened not = (opens_good opened, not)
ends_unread (NotDone err) kind batch desk k l s s' opened not = absurd not
ends_unread (Done rows) kind batch desk k l s s' opened not = absurd not

-- what an office that has just begun did at its moment, it did at moment 0
pub did_command : (command : Command) (reply : Reply) (rows : ℕ) (before after : Desk) (k l : KeeperSeen) → after.held ≡ held_at before.held 0
    → before.held ≡ held_at_start → Commanded command reply after.held.now before after k l → CountsRows command reply
    → ((n : ℕ) → reply ≡ Rows n → rows ≡ n) → DidCommand rows command before k l
did_command command reply rows before after k l came fresh done counts are = record {
  reply = reply;
  after = after;
  done = subst (λ (now : ℕ). Commanded command reply now before after k l) (at_zero before.held after.held came fresh) done;
  counts = counts;
  rows_are = are;
}

pub did_nothing : (command : Command) (err : AccountErr) (before after : Desk) (k l : KeeperSeen) → after.held ≡ held_at before.held 0
    → before.held ≡ held_at_start → NotCommanded command err after.held.now before k l → NotCommanded command err 0 before k l
did_nothing command err before after k l came fresh not =
    subst (λ (now : ℕ). NotCommanded command err now before k l) (at_zero before.held after.held came fresh) not

-- ---- where no count rose

abbrev Calm : KeeperSeen → KeeperSeen → SourceSeen → SourceSeen → SinkSeen → SinkSeen → Type 0
Calm k k' s s' t t' = NoFault (of_keeper k k' ∷ streams s s' t t')

few_of : (ended : Ended) (kind : ImportKind) (batch : ℕ) (k k' : KeeperSeen) (s s' : SourceSeen) → Ends ended kind batch k k' s s' → Stood k.faults k'.faults → Stood s.faults s'.faults
    → Contains (0 ∷ 2 ∷ 6 ∷ 9 ∷ []) (import_end ended).status
few_of (Closed err) kind batch k k' s s' ends keeper source = closed_status err (0 ∷ 2 ∷ 6 ∷ 9 ∷ []) k k' ends.0 keeper (1, omega arith, refl) (2, omega arith, refl)
few_of (Unread err) kind batch k k' s s' ends keeper source = unread_status _ 9 err (0 ∷ 2 ∷ 6 ∷ 9 ∷ []) _ _ ends.1 source (2, omega arith, refl) (3, omega arith, refl)
few_of (NoImport (import_err.Fault fault)) kind batch k k' s s' ends keeper source = (3, omega arith, refl)
few_of (NoImport import_err.Memory) kind batch k k' s s' ends keeper source = (2, omega arith, refl)
few_of (NotDone (account_err.Refused row broken)) kind batch k k' s s' ends keeper source = (3, omega arith, refl)
few_of (NotDone account_err.Failed) kind batch k k' s s' ends keeper source = absurd (stands keeper ends.undone.faults.grew)
few_of (NotDone account_err.Memory) kind batch k k' s s' ends keeper source = (2, omega arith, refl)
few_of (Done rows) kind batch k k' s s' ends keeper source = (0, omega arith, refl)

keeper_kept : (ended : Ended) (kind : ImportKind) (batch : ℕ) (k k' : KeeperSeen) (s s' : SourceSeen) → Ends ended kind batch k k' s s' → Stood k.faults k'.faults → k.up → k'.up
keeper_kept (Closed err) kind batch k k' s s' ends stood up = closed_kept err k k' ends.0 stood up
keeper_kept (Unread err) kind batch k k' s s' ends stood up = ends.0.settled.up up
keeper_kept (NoImport err) kind batch k k' s s' ends stood up = ends.0.settled.up up
keeper_kept (NotDone (account_err.Refused row broken)) kind batch k k' s s' ends stood up = ends.undone.settled.up up
keeper_kept (NotDone account_err.Failed) kind batch k k' s s' ends stood up = kept stood (ends.undone.up up)
keeper_kept (NotDone account_err.Memory) kind batch k k' s s' ends stood up = kept stood (ends.undone.up up)
keeper_kept (Done rows) kind batch k k' s s' ends stood up = ends.settled.up up

import_source_kept : (ended : Ended) (kind : ImportKind) (batch : ℕ) (k k' : KeeperSeen) (s s' : SourceSeen) → Ends ended kind batch k k' s s' → Stood s.faults s'.faults → s.up → s'.up
import_source_kept (Closed err) kind batch k k' s s' ends stood up = ends.1.up up
import_source_kept (Unread err) kind batch k k' s s' ends stood up = source_kept _ err _ _ ends.1 stood up
import_source_kept (NoImport err) kind batch k k' s s' ends stood up = ends.1.took.took.up up
import_source_kept (NotDone err) kind batch k k' s s' ends stood up = ends.read.took.took.up up
import_source_kept (Done rows) kind batch k k' s s' ends stood up = ends.read.took.took.up up

-- whatever became of the import, the tables are as before or good
good_then : {P : Tables → Tables → Type 0} (k k' : KeeperSeen) → Told k.tables k'.tables P → ((t u : Tables) → P t u → Good u) → Told k.tables k'.tables SameOrGood
good_then k k' told good = told_weaker told (λ t u p. inr (good t u p))

good_of : (ended : Ended) (kind : ImportKind) (batch : ℕ) (k k' : KeeperSeen) (s s' : SourceSeen) → Ends ended kind batch k k' s s'
    → Told k.tables k'.tables SameOrGood
good_of (Closed err) kind batch k k' s s' ends = closed_same err k k' ends.0
good_of (Unread err) kind batch k k' s s' ends = good_then k k' ends.0.tables (λ t u p. p.1)
good_of (NoImport err) kind batch k k' s s' ends = good_then k k' ends.0.tables (λ t u p. p.1)
good_of (NotDone (account_err.Refused row broken)) kind batch k k' s s' ends = good_then k k' ends.undone.tables (λ t u p. p.1.0)
good_of (NotDone account_err.Failed) kind batch k k' s s' ends = good_then k k' ends.undone.tables (λ t u p. p.1)
good_of (NotDone account_err.Memory) kind batch k k' s s' ends = good_then k k' ends.undone.tables (λ t u p. p.1)
good_of (Done rows) kind batch k k' s s' ends = good_then k k' ends.stays_good (λ t u good. good)

-- tables that open have no bad key
not_bad : (t : Tables) (key : Key) → Opens t → IsLeastBad t key → ⊥
not_bad t key opens bad = let e : true ≡ false = sym (opens key bad.held bad.there) ∙ bad.breaks in cc

-- bytes are one command
abbrev StepsTo : Tables → Stepped → Result Command ImportFault → Type 0
StepsTo t s (Ok command) = clerk_step t 0 command ≡ s
StepsTo t s (Err err) = ⊥

same_step : (kind : ImportKind) (batch : ℕ) (bytes other : List ℕ) (command given : Command) (t : Tables) (s : Stepped) → import_in kind batch bytes ≡ Ok command
    → import_in kind batch other ≡ Ok given → bytes ≡ other → clerk_step t 0 command ≡ s → clerk_step t 0 given ≡ s
same_step kind batch bytes other command given t s is means same step =
    let e : Ok command ≡ import_in kind batch other = sym is ∙ ap (import_in kind batch) same in
    let f : StepsTo t s (Ok given) = subst (StepsTo t s) (e ∙ means) step in f

no_fault : (kind : ImportKind) (batch : ℕ) (bytes other : List ℕ) (command : Command) (err : ImportFault) → import_in kind batch bytes ≡ Ok command → bytes ≡ other
    → import_in kind batch other ≡ Err err → ⊥
no_fault kind batch bytes other command err is same fault = let e : Ok command ≡ Err err = sym is ∙ (ap (import_in kind batch) same ∙ fault) in cc

not_refused : (t : Tables) (writes : List Write) (reply : Reply) (row : ℕ) (broken : Rule) → step_done t writes reply ≡ step_refused t row broken → ⊥
not_refused t writes reply row broken is = let e = ap (λ (s : Stepped). s.answer) is in cc

done_of : (ended : Ended) (kind : ImportKind) (batch status : ℕ) (k k' : KeeperSeen) (s s' : SourceSeen) (t t' : SinkSeen) → Ends ended kind batch k k' s s'
    → Doable kind batch k s → Calm k k' s s' t t' → status ≢ 6 → status ≡ (import_end ended).status → status ≡ 0
done_of (Closed (start_err.Bad key)) kind batch status k k' s s' t t' ends can none other is =
    absurd (not_bad can.tables key can.opens (ends.0.tables can.tables can.told).1)
done_of (Closed start_err.Failed) kind batch status k k' s s' t t' ends can none other is = absurd (stands none.0 ends.0.faults.grew)
done_of (Closed start_err.Memory) kind batch status k k' s s' t t' ends can none other is = absurd (other is)
done_of (Unread input_err.TooLong) kind batch status k k' s s' t t' ends can none other is =
    absurd (too_many_of ends.1 can.held can.short)
done_of (Unread input_err.Failed) kind batch status k k' s s' t t' ends can none other is = absurd (stands none.1.0 ends.1.faults)
done_of (Unread input_err.Memory) kind batch status k k' s s' t t' ends can none other is = absurd (other is)
done_of (NoImport (import_err.Fault fault)) kind batch status k k' s s' t t' ends can none other is =
    absurd (no_fault kind batch can.bytes ends.1.bytes can.command fault can.means (told_file ends.1.took can.held)
    ends.1.why)
done_of (NoImport import_err.Memory) kind batch status k k' s s' t t' ends can none other is = absurd (other is)
done_of (NotDone (account_err.Refused row broken)) kind batch status k k' s s' t t' ends can none other is =
    let step = same_step kind batch can.bytes ends.read.bytes can.command ends.command (migrated can.tables) _ can.means ends.read.means (told_file ends.read.took can.held) can.step in
    let o = ends.undone.tables.each can.tables can.told in
    let refused = subst (λ (v : Tables). clerk_step v 0 ends.command ≡ step_refused v row broken) o.fits.0 o.fits.1.1 in
    absurd (not_refused (migrated can.tables) can.writes can.reply row broken (sym step ∙ refused))
done_of (NotDone account_err.Failed) kind batch status k k' s s' t t' ends can none other is = absurd (stands none.0 ends.undone.faults.grew)
done_of (NotDone account_err.Memory) kind batch status k k' s s' t t' ends can none other is = absurd (other is)
done_of (Done rows) kind batch status k k' s s' t t' ends can none other is = is

pub imports_by : (ended : Ended) (kind : ImportKind) (batch status : ℕ) (k k' : KeeperSeen) (s s' : SourceSeen) (t t' : SinkSeen) → Ends ended kind batch k k' s s'
    → Tells (import_end ended) status t t' → Imports kind batch status k k' s s' t t'
imports_by ended kind batch status k k' s s' t t' ends told = record {
  ends =
      ends_by ended ends told (λ none. none.1.1.0) (λ none. few_of ended kind batch k k' s s' ends none.0 none.1.0)
      (λ none. (keeper_kept ended kind batch k k' s s' ends none.0, (import_source_kept ended kind batch k k' s s' ends none.1.0, (sink_kept told none.1.1.0, tt))));
  complete = λ can none other. done_of ended kind batch status k k' s s' t t' ends can none other (told_whole told none.1.1.0).0;
  good = good_of ended kind batch k k' s s' ends;
}
