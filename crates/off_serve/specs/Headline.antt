-- The promise of `run`: whatever events come, lost, repeated or interleaved, `serve` sends and
-- writes what a run of the abstract office does, and only want of memory or a counted fault departs
-- from it.
use Rattle.std.specs.Prelude.{◌≡◌, ℕ, ◌+◌, ◌-◌, ◌*◌, ◌<◌, ◌≤◌, true, List, [], ◌∷◌, ◌++◌, length, drop, max, All, ◌⊎◌, ◌≢◌}
use Rattle.off_defs.specs.Told.{Told}
use Rattle.off_defs.specs.Counts.{Grew, Tallied, one_more, commits_after}
use Rattle.off_defs.specs.declared.writes.Write.{Write}
use Rattle.off_defs.specs.State.{Tables, State, Held, state_of, start}
use Rattle.off_defs.specs.declared.results.Outcome.TheVariants as outcome
use Rattle.off_book.specs.Run.{Turn, Run, SaysMemory, TellsItsOutcome, failures_by, commits_by, writes_by, sent_by, lost_by, lines_from, line_of, events_of, first_events, is_end, IsNoEnd, EndsLast}
use Rattle.off_book.specs.Crashes.{turn_steps, SafeWhenSent}
use Rattle.off_laws.specs.Leases.{LeasesHoldThrough}
use Rattle.off_cpe_runs.specs.Holding.{DevicesHoldThrough}
use Rattle.off_transfer_runs.specs.Served.{FilesAreServedThrough}
use Rattle.off_boot_laws.specs.Went.{GoesWell, Anyhow}
use Rattle.off_boot_laws.specs.Served.{ModemsAreServed}
use Rattle.off_cpe_boot_laws.specs.Served.{DevicesAreServed}
use Rattle.off_isolation.specs.Alone.{IsolatedThrough}
use Rattle.off_import_runs.specs.Once.{ImportsActOnceThrough}
use Rattle.off_account_rules.specs.Good.{Opens, Good}
use Rattle.off_account_rules.specs.Migration.{migration, migrated}
use Rattle.off_outside.specs.LinkSeen.{LinkSeen}
use Rattle.off_outside.specs.KeeperSeen.{KeeperSeen}
use Rattle.off_office.specs.Desk.{Desk}
use Rattle.off_outside.specs.KeeperCalls.{StaysUp, Unasked}
use Rattle.off_outside.specs.LinkCalls.{LinkUnasked, LinkStaysUp}
use Rattle.off_office.specs.Opening.{SavesOpened}
use Rattle.off_office.specs.Conditions.{WhereFit, StaysFit}
use Rattle.off_office.specs.Acting.{NotStarted}
use Rattle.off_outside.specs.Streams.{SourceSeen, SourceUnasked, SinkSeen, SinkUnasked, SinkStaysUp, HasFront}
use Rattle.off_book.specs.Words.{Job, to_serve, to_import, to_drill, to_seal, to_check}
use Rattle.off_office.specs.Closed.{closed_end}
use Rattle.off_import_job.specs.Importing.{Imports}
use Rattle.off_drill_job.specs.Drilling.{Drills}
use Rattle.off_jobs.specs.Health.{Health, of_link, of_keeper, of_sink, NoFault, AllUp}
use Rattle.off_jobs.specs.Ending.{Ending, words_refused, link_refused, memory_refused, Tells, JobEnds}
use Rattle.off_jobs.specs.Jobs.{SealsInput, ChecksInput}
use Rattle.off_turns.specs.Serving.{World, world_of}
use Rattle.off_turns.specs.Loop.{WroteText, CutText, RanTurns, KeeperRan, Finished, LackedMemory, LostLink, SinkRefused}
use Rattle.off_turns.specs.declared.events.Stop.{Stop}
use Rattle.off_turns.specs.declared.events.Stop.TheVariants as stop

-- What a crash leaves of the turns, after the opening of the tables, and when what they say was sent:
-- at each moment so many of the turns are safe, that is a crash then, or later, leaves them; and at
-- the moment at which an item of a turn was sent, the turn was safe, if it was acted on.
pub record AnswersAreSaved (old new : KeeperSeen) (t : Tables) (turns : List Turn)
    (moments : List ℕ) (last : State) : Type 0 where
  pub opened : SavesOpened turn_steps old new t turns last
  pub sent : SafeWhenSent opened.saves.safe 0 turns moments

-- The turns are a run of the office, from its start over the tables that were told, once the site
-- of a store from before hubs is the hub 0, to what it held at the end over those that are told then.
pub record RanOffice (turns : List Turn) (moments : List ℕ) (held : Held) (old new : KeeperSeen)
    : Type 0 where
  pub run : Told old.tables new.tables (λ t u. Run (start (migrated t)) turns (state_of u held))
  -- and nothing that was answered is lost: at the moment at which an item was sent, and ever after,
  -- an opening after a crash gives tables in which its turn has its place
  pub crash : Told old.tables new.tables
      (λ t u. AnswersAreSaved old new t turns moments (state_of u held))
  -- what was written first is the migration
  pub first : List Write
  pub are : (t : Tables) → old.tables t → first ≡ migration t
  pub keeper : KeeperRan first turns old new
  pub tell : All TellsItsOutcome turns

-- the run's own line was written behind the text, and the status is the line's; or it was cut off,
-- and the status is 4
abbrev pub OwnLine : Ending → List ℕ → ℕ → SinkSeen → SinkSeen → Type 0
OwnLine own text status old new =
    ((status ≡ own.status) × WroteText (text ++ own.text) old new)
    ⊎ ((status ≡ 4) × CutText text own.text old new)

-- the end of the run: its own line, where it has one, and the status
abbrev pub Ended : Stop → ℕ → SinkSeen → SinkSeen → Type 0
Ended stop.Finished status old new = (status ≡ 0) × SinkUnasked old new
Ended stop.Memory status old new = Tells memory_refused status old new
Ended stop.Link status old new = Tells link_refused status old new
Ended stop.Sink status old new = (status ≡ 4) × SinkUnasked old new

-- what was written at the end, and the status. 0: all turns were taken, or an End; 4: the sink
-- failed in the run's last write; 5: the link failed sixteen times in a row; 6: memory was wanted
-- for the next event
abbrev pub Ends : Stop → ℕ → List Turn → World → World → ℕ → Type 0
Ends stop.Finished budget turns old new status = (status ≡ 0) × Finished budget turns old new
Ends stop.Memory budget turns old new status =
    LackedMemory budget turns old.link new.link
    × OwnLine memory_refused (lines_from 1 turns) status old.sink new.sink
Ends stop.Link budget turns old new status =
    LostLink budget turns old.link new.link
    × OwnLine link_refused (lines_from 1 turns) status old.sink new.sink
Ends stop.Sink budget turns old new status = (status ≡ 4) × SinkRefused turns old new

-- `serve` needs all of its world
abbrev pub all_of : World → World → List Health
all_of old new =
    of_link old.link new.link ∷ of_keeper old.keeper new.keeper ∷ of_sink old.sink new.sink ∷ []

-- every event had its outcome, every item went out, and the status is 0
pub record Completed (turns : List Turn) (status : ℕ) : Type 0 where
  pub did : All (λ turn. turn.outcome ≡ outcome.Did) turns
  pub lost : lost_by turns ≡ 0
  pub well : All GoesWell turns
  pub status_is : status ≡ 0

-- The office didn't open: 2, the tables don't open, and the line names their least bad key; 3, the
-- keeper failed; 6, memory was wanted. No event is taken, nothing is sent, and the tables stay;
-- where the keeper failed a crash may leave what the opening would have made of them. Where no
-- count rose and memory wasn't wanted, the tables don't open.
abbrev pub StaysClosed : World → World → ℕ → Type 0
StaysClosed old new status =
    JobEnds (λ why. NotStarted why old.keeper new.keeper × LinkUnasked old.link new.link) closed_end
    (2 ∷ 6 ∷ []) (all_of old new) status old.sink new.sink

-- a counter of writes behind the own line of the end, where there is one
abbrev pub own_writes : Stop → ℕ → ℕ
own_writes stop.Finished calls = calls
own_writes stop.Memory calls = one_more calls
own_writes stop.Link calls = one_more calls
own_writes stop.Sink calls = calls

-- The headline. The tables opened, and `turns` are the events that were taken, with what the office
-- said of each.
pub record RunsAsOffice (budget : ℕ) (old new : World) (status : ℕ) : Type 0 where
  pub reason : Stop
  pub turns : List Turn
  pub held : Held
  -- the tables were such that open
  pub opens : (t : Tables) → old.keeper.tables t → Opens t
  -- at most `budget` events, and no End but the last
  pub within : length turns ≤ budget
  pub ends_last : EndsLast turns
  -- the keeper's moments at which each turn's items were sent
  pub moments : List ℕ
  -- they are the first of the link's, and what the office says is what was sent
  pub ran : RanTurns turns moments old.link new.link
  -- they are a run of the abstract office, and leave its tables; what was sent is saved
  pub office : RanOffice turns moments held old.keeper new.keeper
  -- the tables that it leaves are good
  pub good : Told old.keeper.tables new.keeper.tables (λ t u. Good u)
  -- over the run, from its start over the opened tables: no address is live for two clients, no
  -- client has two leases, and what is acknowledged is the client's until its end
  pub leases : (t : Tables) → old.keeper.tables t → LeasesHoldThrough (start (migrated t)) turns
  -- and of devices behind modems: no address is live for two, or of a modem too, what is granted is
  -- within the limit of the modem's subscriber, and a device's message leaves all rows but leases
  -- of devices
  pub devices : (t : Tables) → old.keeper.tables t
      → DevicesHoldThrough (start (migrated t)) turns
  -- what a modem has acknowledged joins to a prefix of its own one file, the one that it had when
  -- its read request was accepted
  pub files : (t : Tables) → old.keeper.tables t → FilesAreServedThrough (start (migrated t)) turns
  -- a modem that asks boots, from each place of the run, and one that asks again keeps its address,
  -- whatever others ask in between
  pub modems : (t : Tables) → old.keeper.tables t
      → ModemsAreServed GoesWell (start (migrated t)) turns
  -- a device that asks is bound to an address where its modem may have one device more, and one
  -- that asks again keeps it
  pub served_devices : (t : Tables) → old.keeper.tables t
      → DevicesAreServed GoesWell (start (migrated t)) turns
  -- what an address gets by its TFTP datagrams and by Ticks is what it gets alone, over its own
  -- transfers
  pub isolated : (t : Tables) → old.keeper.tables t → IsolatedThrough (start (migrated t)) turns
  -- a batch is put once, stays as it was put, and an import of it is answered by it from then on
  pub imports : (t : Tables) → old.keeper.tables t
      → ImportsActOnceThrough (start (migrated t)) turns
  -- what was written, and the status
  pub ends : Ends reason budget turns old new status
  pub writes : new.sink.calls ≡ own_writes reason (writes_by turns old.sink.calls)
  -- where no count rose, what is told of the link, the tables and the sink is one value each
  pub up : NoFault (all_of old new) → AllUp (all_of old new)
  -- where no count rose and no line says `memory`, nothing departs from the run
  pub complete : NoFault (all_of old new) → All (λ turn. ¬ (SaysMemory turn)) turns → status ≢ 6
      → Completed turns status
  -- and each modem and each device is served, of whose turns nothing is asked
  pub all_modems : (t : Tables) → old.keeper.tables t → NoFault (all_of old new)
      → All (λ turn. ¬ (SaysMemory turn)) turns → status ≢ 6
      → ModemsAreServed Anyhow (start (migrated t)) turns
  pub all_devices : (t : Tables) → old.keeper.tables t → NoFault (all_of old new)
      → All (λ turn. ¬ (SaysMemory turn)) turns → status ≢ 6
      → DevicesAreServed Anyhow (start (migrated t)) turns

abbrev pub ServesAsOffice : ℕ → World → World → ℕ → Type 0
ServesAsOffice budget old new status =
    StaysClosed old new status ⊎ RunsAsOffice budget old new status

-- words that fit no form: nothing but the one line
pub record RefusesWords (old new : World) (status : ℕ) : Type 0 where
  pub link : LinkUnasked old.link new.link
  pub keeper : Unasked old.keeper new.keeper
  pub told : Tells words_refused status old.sink new.sink

-- what is seen of the whole outside
pub record Outside : Type 1 where
  pub link : LinkSeen
  pub keeper : KeeperSeen
  pub source : SourceSeen
  pub sink : SinkSeen

abbrev pub outside_of : LinkSeen → KeeperSeen → SourceSeen → SinkSeen → Outside
outside_of link keeper source sink =
    record { link = link; keeper = keeper; source = source; sink = sink }

abbrev pub world_in : Outside → World
world_in all = world_of all.link all.keeper all.sink

-- neither an event was taken nor anything sent, and the tables are as they were
pub record OfficeSame (old new : Outside) : Type 0 where
  pub link : LinkUnasked old.link new.link
  pub keeper : Unasked old.keeper new.keeper

-- What a job does. Only `serve` takes events, only `serve` and `drill` send, and `import`, `seal`
-- and `check` take bytes of the source. `seal` and `check` don't open the tables.
abbrev pub DoesJob : Job → Outside → Outside → ℕ → Type 0
DoesJob (to_serve serve) old new status =
    ServesAsOffice serve.turns (world_in old) (world_in new) status
    × SourceUnasked old.source new.source
DoesJob (to_import import) old new status =
    Imports import.kind import.batch status old.keeper new.keeper old.source new.source
    old.sink new.sink
    × LinkUnasked old.link new.link
DoesJob (to_drill modems) old new status =
    Drills modems status old.keeper new.keeper old.link new.link old.sink new.sink
    × SourceUnasked old.source new.source
DoesJob (to_seal secret) old new status =
    SealsInput secret status old.source new.source old.sink new.sink × OfficeSame old new
DoesJob (to_check secret) old new status =
    ChecksInput secret status old.source new.source old.sink new.sink × OfficeSame old new

-- what words that fit no form do
abbrev pub RefusesAll : Outside → Outside → ℕ → Type 0
RefusesAll old new status =
    RefusesWords (world_in old) (world_in new) status × SourceUnasked old.source new.source
