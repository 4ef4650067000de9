-- From what an event comes to, to the step of the book.
use Rattle.std.proofs.Common.{◌≡◌, ℕ, true, false, ◌⊎◌, List, [], ◌∷◌, ◌++◌, codes, refl, sym, ap, ◌∙◌, subst, inl, inr, append-nil}
use Rattle.std.specs.FinMap as map
use Rattle.off_base.specs.declared.addresses.Peer.{Peer}
use Rattle.off_defs.specs.declared.events.Event.{Event}
use Rattle.off_defs.specs.declared.events.What.{What}
use Rattle.off_defs.specs.declared.events.What.TheVariants.{Datagram, Piece, Closed, Tick, End}
use Rattle.off_defs.specs.declared.events.Service.{Service}
use Rattle.off_defs.specs.declared.events.Service.TheVariants.{Dhcp, Time, Tftp}
use Rattle.off_defs.specs.declared.writes.Write.{Write}
use Rattle.off_defs.specs.declared.results.Outcome.{Outcome}
use Rattle.off_defs.specs.declared.results.Outcome.TheVariants.{Did, Memory, Keeper}
use Rattle.off_defs.specs.State.{Tables, Held, Said, state_of, held_at, says_nothing}
use Rattle.off_defs.specs.Told.{Told}
use Rattle.off_defs.proofs.ToldLemmas.{told_self, told_weaker}
use Rattle.off_defs.proofs.CountLemmas.{tallied_none}
use Rattle.off_book.specs.Http.{PieceDid}
use Rattle.off_book.specs.Step.{Step, Does, TellsOutcome, completed, service_word}
use Rattle.off_defs.specs.Tables.{write_all, doubt_behind}
use Rattle.off_book.specs.Crashes.{doubt_in}
use Rattle.off_laws.proofs.StepLaws.{step_good, tables_by_commit}
use Rattle.off_outside.specs.declared.keeper.KeepErr.{KeepErr}
use Rattle.off_outside.specs.declared.keeper.KeepErr.TheVariants as keep
use Rattle.off_outside.specs.KeeperSeen.{KeeperSeen}
use Rattle.off_outside.specs.KeeperCalls.{Crash, IsWritten, NotCommitted}
use Rattle.off_outside.proofs.KeeperLemmas.{unasked_self, crash_self, crash_weaker, spent_none}
use Rattle.off_kept.specs.Entries.{without_written}
use Rattle.off_kept.proofs.RightLemmas.{nothing_written}
use Rattle.off_laws.proofs.Lines.{does_line}
use Rattle.off_office.specs.Desk.{Desk}
use Rattle.off_office.specs.Conditions.{Mirrors, Under, StaysFit, StaysAs}
use Rattle.off_office.proofs.MirrorLemmas.{stays_self, stays_by, stays_then, mirrors_as, fits_as, stays_at}
use Rattle.off_office.specs.Acting.{Acts, Handled, forgets, desk_undone, IsUndone, StepOn, DoesOn, CountsFaults, LeavesNothing, EventBegins, EventBegan, DoingBegins, begun_in, is_quiet, desk_at, effect_of, kept_behind, KeepsBodies}
use Rattle.off_office.specs.Asking.{Asks, AsksFew}
use Rattle.off_office.specs.Saying.{SaysTime}
use Rattle.off_sessions.specs.Answers.{failed_said, Fails}
use Rattle.off_office.specs.Answering.{HeardPiece, NotHeard}

-- nothing is added to what a piece did
as_said : (conn : ℕ) (piece : List ℕ) (said : Said) → completed (Piece conn piece) Did said ≡ said
as_said conn piece said = ap (λ items. record said { items = items }) (append-nil said.items)

pub heard_handled : (conn : ℕ) (piece : List ℕ) (said : Said) (before after : Desk) (a b : KeeperSeen) → HeardPiece conn piece said before after a b
    → Asks (Piece conn piece) before.held a b → Handled (Piece conn piece) Did said before after a b
heard_handled conn piece said before after a b heard asks = record {
  commit = heard.commit;
  tables = told_weaker heard.tables (λ t u under. record {
    holds = λ mirrors.
        subst (λ (x : Said). PieceDid (state_of t before.held) conn piece (record { said = x; commit = heard.commit; after = state_of u after.held }))
        (sym (as_said conn piece said)) (under.holds mirrors);
    stays = under.stays;
  });
  written = heard.settled.tables;
  keeps = told_weaker heard.settled.tables (λ t u written mirrors. heard.kept);
  few = tt;
  up = λ up. inl (heard.settled.up up);
  faults = heard.settled.faults;
  commits = heard.settled.commits;
  waits = heard.settled.waits;
  asks = asks;
  crash = heard.settled.crash;
  doubts = heard.settled.doubts;
  tells = heard.tells;
  undone = tt;
  leaves = tt;
  quiet = λ other. absurd (let e : false ≡ true = other in cc);
  moment = heard.moment;
}

-- a piece that couldn't be acted on
failed_on : (conn : ℕ) (piece line : List ℕ) (outcome : Outcome) (said : Said) (before after : Desk) (t : Tables)
    → said ≡ failed_said line → after ≡ forgets before conn
    → effect_of (Piece conn piece) outcome said [] (state_of t after.held) ≡ effect_of (Piece conn piece) outcome (failed_said line) [] (state_of t (forgets before conn).held)
failed_on conn piece line outcome said before after t is gone =
    ap (λ (x : Said). effect_of (Piece conn piece) outcome x [] (state_of t after.held)) is
    ∙ ap (λ (d : Desk). effect_of (Piece conn piece) outcome (failed_said line) [] (state_of t d.held)) gone

mirrors_still : (conn : ℕ) (before after : Desk) (t : Tables) → after ≡ forgets before conn → Mirrors before t → Mirrors after t
mirrors_still conn before after t gone =
    mirrors_as before after t (stays_by before (forgets before conn) after gone (record { counts = refl; kept = refl; agreements = refl; pools = refl; device_pools = refl; users = refl; devices = refl }))

-- nothing was written
pub stay_written : (a b : KeeperSeen) → ((t : Tables) → a.tables t → b.tables t) → Told a.tables b.tables (IsWritten [])
stay_written a b stay = record { each = λ t told. record { value = t; told = stay t told; fits = refl } }

-- where nothing is written all bodies stay
pub kept_unwritten : (before after : Desk) → after.kept ≡ before.kept → after.kept ≡ without_written [] before.kept
kept_unwritten before after same = same ∙ sym (nothing_written before.kept)

-- what is kept where nothing was done
kept_undone : (what : What) (outcome : Outcome) (desk : Desk) (t : Tables) → (outcome ≡ Did → ⊥) → desk.kept ≡ kept_behind what outcome [] desk t
kept_undone (Datagram Tftp from bytes) Did desk t other = absurd (other refl)
kept_undone (Datagram Tftp from bytes) Memory desk t other = refl
kept_undone (Datagram Tftp from bytes) Keeper desk t other = refl
kept_undone (Datagram Dhcp from bytes) outcome desk t other = kept_unwritten desk desk refl
kept_undone (Datagram Time from bytes) outcome desk t other = refl
kept_undone (Piece conn piece) outcome desk t other = kept_unwritten desk desk refl
kept_undone (Closed conn) outcome desk t other = refl
kept_undone Tick outcome desk t other = refl
kept_undone End outcome desk t other = refl

memory_not_did : Memory ≡ Did → ⊥
memory_not_did is = cc

keeper_not_did : Keeper ≡ Did → ⊥
keeper_not_did is = cc

-- nothing else may be in doubt
pub only_doubt : {d : Type 0} → d ⊎ ⊥ → d
only_doubt (inl doubt) = doubt
only_doubt (inr none) = absurd none

memory_handled : (conn : ℕ) (piece : List ℕ) (said : Said) (before after : Desk) (a b : KeeperSeen) → NotHeard keep.Memory conn piece before after a b
    → Asks (Piece conn piece) before.held a b → said ≡ failed_said (codes "http memory") → Handled (Piece conn piece) Memory said before after a b
memory_handled conn piece said before after a b not asks is = record {
  commit = [];
  tables = record {
    each = λ t told. record {
      value = t;
      told = not.keeper.tables t told;
      fits = record {
        holds = λ mirrors. failed_on conn piece (codes "http memory") Memory said before after t is not.forgotten;
        stays = λ fits. mirrors_still conn before after t not.forgotten fits.mirrors;
      };
    };
  };
  written = stay_written a b not.keeper.tables;
  keeps = told_weaker (stay_written a b not.keeper.tables) (λ t u written mirrors. kept_unwritten before after (ap (λ (d : Desk). d.kept) not.forgotten));
  few = tt;
  up = not.keeper.up;
  faults = not.keeper.faults;
  commits = not.keeper.commits;
  waits = not.keeper.waits;
  asks = asks;
  crash = not.keeper.crash;
  doubts = λ t told u doubt. only_doubt (not.keeper.crash.doubts t told u doubt);
  tells = ap (λ (x : Said). x.line) is;
  undone = (refl, not.forgotten);
  leaves = ap (λ (x : Said). x.items) is;
  quiet = λ other. absurd (let e : false ≡ true = other in cc);
  moment = ap (λ (d : Desk). d.held.now) not.forgotten;
}

keeper_handled : (conn : ℕ) (piece : List ℕ) (said : Said) (before after : Desk) (a b : KeeperSeen) → NotHeard keep.Failed conn piece before after a b
    → Asks (Piece conn piece) before.held a b → said ≡ failed_said (codes "http keeper") → Handled (Piece conn piece) Keeper said before after a b
keeper_handled conn piece said before after a b not asks is = record {
  commit = [];
  tables = record {
    each = λ t told. record {
      value = t;
      told = not.keeper.tables t told;
      fits = record {
        holds = λ mirrors. failed_on conn piece (codes "http keeper") Keeper said before after t is not.forgotten;
        stays = λ fits. mirrors_still conn before after t not.forgotten fits.mirrors;
      };
    };
  };
  written = stay_written a b not.keeper.tables;
  keeps = told_weaker (stay_written a b not.keeper.tables) (λ t u written mirrors. kept_unwritten before after (ap (λ (d : Desk). d.kept) not.forgotten));
  few = tt;
  up = not.keeper.up;
  faults = not.keeper.faults;
  commits = not.keeper.commits;
  waits = not.keeper.waits;
  asks = asks;
  crash = not.keeper.crash;
  doubts = not.keeper.crash.doubts;
  tells = ap (λ (x : Said). x.line) is;
  undone = (refl, not.forgotten);
  leaves = ap (λ (x : Said). x.items) is;
  quiet = λ other. absurd (let e : false ≡ true = other in cc);
  moment = ap (λ (d : Desk). d.held.now) not.forgotten;
}

pub failed_handled : (conn : ℕ) (piece : List ℕ) (err : KeepErr) (outcome : Outcome) (said : Said) (before after : Desk) (a b : KeeperSeen)
    → NotHeard err conn piece before after a b → Asks (Piece conn piece) before.held a b → Fails err outcome said
    → Handled (Piece conn piece) outcome said before after a b
failed_handled conn piece keep.Memory outcome said before after a b not asks is =
    subst (λ (o : Outcome). Handled (Piece conn piece) o said before after a b) (sym is.0) (memory_handled conn piece said before after a b not asks is.1)
failed_handled conn piece keep.Failed outcome said before after a b not asks is =
    subst (λ (o : Outcome). Handled (Piece conn piece) o said before after a b) (sym is.0) (keeper_handled conn piece said before after a b not asks is.1)

loud_only : (what : What) (P : Type 0) → is_quiet what ≡ false → is_quiet what ≡ true → P
loud_only what P loud quiet = cc

-- an event that couldn't be acted on leaves the office as it was: memory was wanted, or the keeper failed
pub memory_leaves : (what : What) (line : List ℕ) (said : Said) (desk : Desk) (a b : KeeperSeen)
    → is_quiet what ≡ false → desk_undone what desk ≡ desk → line ≡ service_word what ++ codes " memory" → ((t : Tables) → DoesOn what Memory (failed_said line) [] desk desk t t)
    → NotCommitted (DoingBegins what desk) keep.Memory a b → Asks what desk.held a b → AsksFew what desk desk a b → said ≡ failed_said line
    → Handled what Memory said desk desk a b
memory_leaves what line said desk a b loud stays named does not asks few is = record {
  commit = [];
  tables = record {
    each = λ t told. record {
      value = t;
      told = not.tables t told;
      fits = record { holds = λ mirrors. subst (λ (x : Said). DoesOn what Memory x [] desk desk t t) (sym is) (does t); stays = λ fits. fits.mirrors };
    };
  };
  written = stay_written a b not.tables;
  keeps = told_weaker (stay_written a b not.tables) (λ t u written mirrors. kept_undone what Memory desk t memory_not_did);
  few = few;
  up = not.up;
  faults = not.faults;
  commits = not.commits;
  waits = not.waits;
  asks = asks;
  crash = not.crash;
  doubts = λ t told u doubt. only_doubt (not.crash.doubts t told u doubt);
  tells = ap (λ (x : Said). x.line) is ∙ named;
  undone = (refl, sym stays);
  leaves = ap (λ (x : Said). x.items) is;
  quiet = λ is_so. loud_only what _ loud is_so;
  moment = refl;
}

pub keeper_leaves : (what : What) (line : List ℕ) (said : Said) (desk : Desk) (a b : KeeperSeen)
    → is_quiet what ≡ false → desk_undone what desk ≡ desk → line ≡ service_word what ++ codes " keeper" → ((t : Tables) → DoesOn what Keeper (failed_said line) [] desk desk t t)
    → NotCommitted (DoingBegins what desk) keep.Failed a b → Asks what desk.held a b → AsksFew what desk desk a b → said ≡ failed_said line
    → Handled what Keeper said desk desk a b
keeper_leaves what line said desk a b loud stays named does not asks few is = record {
  commit = [];
  tables = record {
    each = λ t told. record {
      value = t;
      told = not.tables t told;
      fits = record { holds = λ mirrors. subst (λ (x : Said). DoesOn what Keeper x [] desk desk t t) (sym is) (does t); stays = λ fits. fits.mirrors };
    };
  };
  written = stay_written a b not.tables;
  keeps = told_weaker (stay_written a b not.tables) (λ t u written mirrors. kept_undone what Keeper desk t keeper_not_did);
  few = few;
  up = not.up;
  faults = not.faults;
  commits = not.commits;
  waits = not.waits;
  asks = asks;
  crash = not.crash;
  doubts = not.crash.doubts;
  tells = ap (λ (x : Said). x.line) is ∙ named;
  undone = (refl, sym stays);
  leaves = ap (λ (x : Said). x.items) is;
  quiet = λ is_so. loud_only what _ loud is_so;
  moment = refl;
}

-- a step of the book keeps good tables good, so what fits the tables before it fits those behind it
pub fits_by : (event : Event) (outcome : Outcome) (said : Said) (commit : List Write) (before after : Desk) (a b : Tables → Type 0)
    → Told a b (Under before after (StepOn event outcome said commit before after)) → Told a b (StaysFit before after)
fits_by event outcome said commit before after a b told = told_weaker told (λ t u under fits.
    record {
      good = step_good (state_of t before.held) event outcome (effect_of event.what outcome said commit (state_of u after.held)) (under.holds fits.mirrors) fits.good;
      mirrors = under.stays fits;
    })

-- what a step of the book has committed is what it would leave
did_begins : (event : Event) (said : Said) (commit : List Write) (before after : Desk) (a b : KeeperSeen)
    → Told a.tables b.tables (Under before after (StepOn event Did said commit before after))
    → (t : Tables) → a.tables t → (u : Tables) → u ≡ write_all t commit → EventBegins event before t u
did_begins event said commit before after a b told t seen u written agree =
    let g = told.each t seen in
    let effect = effect_of event.what Did said commit (state_of g.value after.held) in
    let step : Step (state_of t before.held) event Did effect = g.fits.holds agree in
    (effect, (step, written ∙ sym (tables_by_commit (state_of t before.held) event Did effect step)))

-- what an event would leave at the office's moment is what it would
event_begins : (event : Event) (what : What) (before : Desk) → event.what ≡ what
    → (t u : Tables) → DoingBegins what (desk_at before event.at.0) t u → EventBegins event before t u
unfolding Step
event_begins event what before is t u begun mirrors =
    let b = begun (mirrors_as before (desk_at before event.at.0) t (stays_at before event.at.0) mirrors) in
    (b.0, (subst (λ (w : What). Does (state_of t (held_at before.held event.at.0)) w Did b.0) (sym is) b.1.0, b.1.1))

crash_by : (event : Event) (what : What) (outcome : Outcome) (said : Said) (commit : List Write) (before after : Desk) (a b : KeeperSeen)
    → event.what ≡ what → Told a.tables b.tables (Under before after (StepOn event outcome said commit before after))
    → Crash (begun_in outcome (IsWritten commit) (DoingBegins what (desk_at before event.at.0))) a b → Crash (EventBegan event outcome before) a b
crash_by event what Did said commit before after a b is told crash = crash_weaker crash (did_begins event said commit before after a b told)
crash_by event what Memory said commit before after a b is told crash = crash_weaker crash (λ t seen u begun. absurd begun)
crash_by event what Keeper said commit before after a b is told crash = crash_weaker crash (λ t seen u begun. event_begins event what before is t u begun)

doubt_as : (commit : List Write) {d e : Type 0} → (d → e) → doubt_behind commit d → doubt_behind commit e
doubt_as [] more doubt = more doubt
doubt_as (write ∷ writes) more doubt = doubt

in_as : (outcome : Outcome) (d : Type 0) {p q : Type 0} → (p → q) → doubt_in outcome d p → doubt_in outcome d q
in_as Did d more doubt = doubt
in_as Memory d more doubt = doubt
in_as Keeper d more (inl doubt) = inl doubt
in_as Keeper d more (inr begun) = inr (more begun)

-- what an event asks doesn't depend on its moment
asks_at : (what : What) (held : Held) (at : ℕ) (a b : KeeperSeen) → Asks what (held_at held at) a b → Asks what held a b
asks_at (Datagram Dhcp from bytes) held at a b asks = asks
asks_at (Datagram Time from bytes) held at a b asks = asks
asks_at (Datagram Tftp from bytes) held at a b asks = asks
asks_at (Piece conn piece) held at a b asks = asks
asks_at (Closed conn) held at a b asks = asks
asks_at Tick held at a b asks = asks
asks_at End held at a b asks = asks

pub acts_by : (event : Event) (what : What) (outcome : Outcome) (said : Said) (before mid after : Desk) (a b : KeeperSeen)
    → event.what ≡ what → mid ≡ desk_at before event.at.0 → Handled what outcome said mid after a b → Acts event outcome said before after a b
unfolding Step
acts_by event what outcome said before mid after a b is at handled =
    let now : Handled what outcome said (desk_at before event.at.0) after a b = subst (λ (d : Desk). Handled what outcome said d after a b) at handled in
    let step_of : (commit : List Write) (t u : Tables) → DoesOn what outcome said commit (desk_at before event.at.0) after t u → StepOn event outcome said commit before after t u = λ commit t u does.
    subst (λ (w : What). Does (state_of t (held_at before.held event.at.0)) w outcome (effect_of w outcome said commit (state_of u after.held))) (sym is) does in
    let tables : Told a.tables b.tables (Under before after (StepOn event outcome said now.commit before after)) = told_weaker now.tables (λ t u under. record {
      holds = λ mirrors. step_of now.commit t u (under.holds (mirrors_as before (desk_at before event.at.0) t (stays_at before event.at.0) mirrors));
      stays = λ fits. under.stays (fits_as before (desk_at before event.at.0) t (stays_at before event.at.0) fits);
    }) in
    record {
      commit = now.commit;
      tables = tables;
      written = now.written;
      keeps = told_weaker now.keeps (λ t u keeps. subst (λ (w : What). KeepsBodies w outcome now.commit (desk_at before event.at.0) after t) (sym is) keeps);
      fits = fits_by event outcome said now.commit before after a.tables b.tables tables;
      up = now.up;
      faults = now.faults;
      commits = now.commits;
      waits = now.waits;
      asks = subst (λ (w : What). Asks w before.held a b) (sym is) (asks_at what before.held event.at.0 a b now.asks);
      few = subst (λ (w : What). AsksFew w (desk_at before event.at.0) after a b) (sym is) now.few;
      crash = crash_by event what outcome said now.commit before after a b is tables now.crash;
      doubts = λ t told u doubt. doubt_as now.commit (in_as outcome (a.doubt u) (event_begins event what before is t u)) (now.doubts t told u doubt);
      tells = subst (λ (w : What). TellsOutcome w outcome said.line) (sym is) now.tells;
      undone = subst (λ (w : What). IsUndone outcome w now.commit (desk_at before event.at.0) after) (sym is) now.undone;
      leaves = now.leaves;
      quiet = λ is_so.
          let quietly = now.quiet (sym (ap is_quiet is) ∙ is_so) in
          record { step = λ t. step_of [] t t (quietly.does t); same = stays_then (stays_at before event.at.0) quietly.same; keeper = quietly.keeper };
      moment = now.moment;
    }

-- what was in doubt is so still, where the keeper didn't fail
kept_doubt : (outcome : Outcome) (d begun : Type 0) → d → doubt_in outcome d begun
kept_doubt Did d begun doubt = doubt
kept_doubt Memory d begun doubt = doubt
kept_doubt Keeper d begun doubt = inl doubt

-- what an event says and counts that asks nothing of the keeper
pub record Says (what : What) (outcome : Outcome) (said : Said) : Type 0 where
  pub faults : (n : ℕ) → CountsFaults outcome n n
  pub tells : TellsOutcome what outcome said.line
  pub leaves : LeavesNothing outcome said.items

abbrev pub DoesQuietly : What → Desk → Desk → Outcome → Said → Type 0
DoesQuietly what before after outcome said = (t : Tables) → DoesOn what outcome said [] before after t t

-- quiet events keep the bodies, and ask nothing
kept_quietly : (what : What) (outcome : Outcome) (desk : Desk) (t : Tables) → is_quiet what ≡ true → desk.kept ≡ kept_behind what outcome [] desk t
kept_quietly (Datagram Tftp from bytes) outcome desk t quiet = cc
kept_quietly (Datagram Dhcp from bytes) outcome desk t quiet = cc
kept_quietly (Datagram Time from bytes) outcome desk t quiet = refl
kept_quietly (Piece conn piece) outcome desk t quiet = cc
kept_quietly (Closed conn) outcome desk t quiet = refl
kept_quietly Tick outcome desk t quiet = refl
kept_quietly End outcome desk t quiet = refl

few_quietly : (what : What) (desk after : Desk) (k : KeeperSeen) → is_quiet what ≡ true → AsksFew what desk after k k
few_quietly (Datagram Tftp from bytes) desk after k quiet = cc
few_quietly (Datagram Dhcp from bytes) desk after k quiet = tt
few_quietly (Datagram Time from bytes) desk after k quiet = tt
few_quietly (Piece conn piece) desk after k quiet = tt
few_quietly (Closed conn) desk after k quiet = tt
few_quietly Tick desk after k quiet = tt
few_quietly End desk after k quiet = tt

pub handled_quietly : (what : What) (outcome : Outcome) (said : Said) (before after : Desk) (k : KeeperSeen)
    → after.held.now ≡ before.held.now → StaysAs before after → is_quiet what ≡ true
    → DoesQuietly what before after outcome said → Says what outcome said → IsUndone outcome what [] before after → Asks what before.held k k
    → Handled what outcome said before after k k
handled_quietly what outcome said before after k same stays quiet does says undone asks = record {
  commit = [];
  tables = told_self (λ t. record {
    holds = λ mirrors. does t;
    stays = λ fits. mirrors_as before after t stays fits.mirrors;
  });
  written = told_self (λ t. refl);
  keeps = told_self (λ t mirrors. stays.kept ∙ kept_quietly what outcome before t quiet);
  few = few_quietly what before after k quiet;
  up = λ up. inl up;
  faults = says.faults k.faults;
  commits = refl;
  waits = refl;
  asks = asks;
  crash = crash_self k;
  doubts = λ t told u doubt. kept_doubt outcome (k.doubt u) (DoingBegins what before t u) doubt;
  tells = says.tells;
  undone = undone;
  leaves = says.leaves;
  quiet = λ is_so. record { does = does; same = stays; keeper = unasked_self k };
  moment = same;
}

-- what is done whatever the tables says so by its line
pub did_says : (what : What) (before after : Desk) (said : Said) → DoesQuietly what before after Did said → Says what Did said
did_says what before after said does = record {
  faults = λ n. refl;
  tells = does_line (state_of map.empty before.held) what (effect_of what Did said [] (state_of map.empty after.held)) (does map.empty);
  leaves = tt;
}

-- an office that is as it was
as_it_was : (outcome : Outcome) (what : What) (desk : Desk) → desk_undone what desk ≡ desk → IsUndone outcome what [] desk desk
as_it_was Did what desk stays = tt
as_it_was Memory what desk stays = (refl, sym stays)
as_it_was Keeper what desk stays = (refl, sym stays)

-- a datagram to the time port
time_does : (from : Peer) (bytes : List ℕ) (desk : Desk) (outcome : Outcome) (said : Said) → SaysTime desk.held.now from outcome said
    → DoesQuietly (Datagram Time from bytes) desk desk outcome said × Says (Datagram Time from bytes) outcome said
time_does from bytes desk Did said is =
    let does : DoesQuietly (Datagram Time from bytes) desk desk Did said = λ t. ap (λ (x : Said). effect_of (Datagram Time from bytes) Did x [] (state_of t desk.held)) is in
    (does, did_says (Datagram Time from bytes) desk desk said does)
time_does from bytes desk Memory said is = (
  λ t. ap (λ (x : Said). effect_of (Datagram Time from bytes) Memory x [] (state_of t desk.held)) is,
  record { faults = tallied_none; tells = ap (λ (x : Said). x.line) is; leaves = ap (λ (x : Said). x.items) is },
)
time_does from bytes desk Keeper said is = absurd is

pub time_handled : (from : Peer) (bytes : List ℕ) (outcome : Outcome) (said : Said) (desk : Desk) (k : KeeperSeen)
    → SaysTime desk.held.now from outcome said → Handled (Datagram Time from bytes) outcome said desk desk k k
time_handled from bytes outcome said desk k is =
    let does = time_does from bytes desk outcome said is in
    handled_quietly (Datagram Time from bytes) outcome said desk desk k refl (stays_self desk) refl does.0 does.1 (as_it_was outcome (Datagram Time from bytes) desk refl) (spent_none k)

-- an event of which a line is said, or nothing, and no more
said_handled : (what : What) (outcome : Outcome) (said other : Said) (before after : Desk) (k : KeeperSeen)
    → after.held.now ≡ before.held.now → StaysAs before after → is_quiet what ≡ true → outcome ≡ Did → said ≡ other
    → DoesQuietly what before after Did other → Asks what before.held k k → Handled what outcome said before after k k
said_handled what outcome said other before after k same stays quiet did is does asks =
    subst (λ (o : Outcome). Handled what o said before after k k) (sym did)
    (subst (λ (x : Said). Handled what Did x before after k k) (sym is)
    (handled_quietly what Did other before after k same stays quiet does (did_says what before after other does) tt asks))

-- the same, by the service that a datagram is for
pub by_service : (service known : Service) (from : Peer) (bytes : List ℕ) (outcome : Outcome) (said : Said) (before after : Desk) (j k : KeeperSeen)
    → service ≡ known → Handled (Datagram known from bytes) outcome said before after j k → Handled (Datagram service from bytes) outcome said before after j k
by_service service known from bytes outcome said before after j k is handled =
    subst (λ (x : Service). Handled (Datagram x from bytes) outcome said before after j k) (sym is) handled

-- a line that is said where nothing was said before
pub line_said : (said clear : Said) (line : List ℕ) → said ≡ record clear { line = line } → clear ≡ says_nothing → said ≡ failed_said line
line_said said clear line is none = is ∙ ap (λ (s : Said). record s { line = line }) none

pub closed_handled : (conn : ℕ) (outcome : Outcome) (said : Said) (before after : Desk) (k : KeeperSeen)
    → after ≡ forgets before conn → outcome ≡ Did → said ≡ failed_said (codes "http closed") → Handled (Closed conn) outcome said before after k k
closed_handled conn outcome said before after k left did is =
    said_handled (Closed conn) outcome said (failed_said (codes "http closed")) before after k (ap (λ (x : Desk). x.held.now) left)
    (stays_by before (forgets before conn) after left (record { counts = refl; kept = refl; agreements = refl; pools = refl; device_pools = refl; users = refl; devices = refl })) refl did is
    (λ t. ap (λ (x : Desk). effect_of (Closed conn) Did (failed_said (codes "http closed")) [] (state_of t x.held)) left)
    (spent_none k)

pub end_handled : (said : Said) (desk : Desk) (k : KeeperSeen) → said ≡ says_nothing → Handled End Did said desk desk k k
end_handled said desk k is = said_handled End Did said says_nothing desk desk k refl (stays_self desk) refl refl is (λ t. refl) (spent_none k)
