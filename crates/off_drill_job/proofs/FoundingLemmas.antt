-- From what each command did to tables that are built.
use Rattle.std.proofs.Common.{◌≡◌, ◌≢◌, ℕ, zero, suc, ◌+◌, ◌<◌, ◌≤◌, List, [], ◌∷◌, ◌++◌, IsTrue, Result, Ok, Err, MatchResult, refl, sym, ap, subst, ◌∙◌, inl, inr, arith, append_assoc, append-nil}
use Rattle.std.proofs.lemmas.Bool.{cases_lt}
use Rattle.std.proofs.lemmas.List.Elements.{All-nil, All-cons, All-append}
use Rattle.std.specs.FinMap as map
use Rattle.off_defs.specs.State.{Tables, Held, held_at}
use Rattle.off_orders.specs.declared.orders.Command.{Command}
use Rattle.off_orders.specs.declared.orders.Reply.{Reply}
use Rattle.off_defs.specs.declared.results.Outcome.TheVariants.{Did}
use Rattle.off_defs.proofs.ToldLemmas.{told_then, told_self, told_weaker}
use Rattle.off_defs.proofs.CountLemmas.{later_grew, tallied_none}
use Rattle.off_account_rules.specs.Good.{Good}
use Rattle.off_orders.specs.Clerk.{Stepped, clerk_step, step_refused}
use Rattle.off_orders.specs.declared.rules.Rule.{Rule}
use Rattle.off_orders.specs.Sound.{is_sound}
use Rattle.off_order_laws.specs.Laws.{secret_fits}
use Rattle.off_order_laws.proofs.StepLaws.{step_keeps_good}
use Rattle.off_accounts.specs.declared.results.AccountErr.{AccountErr}
use Rattle.off_accounts.specs.declared.results.AccountErr.TheVariants.{Refused, Failed, Memory}
use Rattle.off_outside.specs.declared.keeper.KeepErr.{KeepErr}
use Rattle.off_outside.specs.declared.keeper.KeepErr.TheVariants as keep
use Rattle.off_outside.specs.KeeperSeen.{KeeperSeen, Rests}
use Rattle.off_outside.specs.KeeperCalls.{NotCommitted}
use Rattle.off_outside.proofs.KeeperLemmas.{tallied_behind}
use Rattle.off_office.specs.Answering.{Commanded, CommandBegins, NotCommanded}
use Rattle.off_office.specs.Conditions.{Mirrors, StaysAs}
use Rattle.off_office.specs.Desk.{Desk}
use Rattle.off_office.proofs.MirrorLemmas.{fits_as}
use Rattle.off_drill_rules.specs.Rows.{begins_at, with_site, with_class, founded, peopled}
use Rattle.off_drill_rules.specs.Law.{held_behind}
use Rattle.off_office.specs.Given.{Given}
use Rattle.off_drill_job.specs.Stepping.{commands_of, book_writes, KeeperDid}
use Rattle.off_drill_parts.specs.Commands.{put_hub, put_class, put_pool, put_subscriber, put_modem, settling, peopling, founding}
use Rattle.off_drill_job.specs.Founding.{GaveCommand, AllGiven, Builds, GaveFront, Halts, PassesOver}
use Rattle.off_office.proofs.GivenLemmas.{done, undone}
use Rattle.off_drill_job.proofs.CrashLemmas.{commands_append, keeper_none, keeper_given, keeper_commanded, keeper_refused, keeper_lost, undone_not}
use Rattle.off_drill_parts.proofs.CommandLemmas.{with_subscriber, site_step, pool_step, subscriber_step, modem_step}

-- ---- the front of the commands

front_one : (given : Given) → (given.outcome ≢ Did) → GaveFront (given.command ∷ []) [] (given ∷ [])
front_one given other = record {
  did = All-nil (λ (one : Given). one.outcome ≡ Did);
  few = omega arith;
  undone = All-cons (λ (one : Given). one.outcome ≢ Did) given [] other (All-nil (λ (one : Given). one.outcome ≢ Did));
  rest = [];
  front = refl;
}

pub gave_none : (commands : List Command) → GaveFront commands [] []
gave_none commands = record {
  did = All-nil (λ (one : Given). one.outcome ≡ Did);
  few = omega arith;
  undone = All-nil (λ (one : Given). one.outcome ≢ Did);
  rest = commands;
  front = refl;
}

front_behind : {commands more : List Command} (given : List Given) {next lost : List Given} → AllGiven given → commands_of given ≡ commands → GaveFront more next lost → GaveFront (commands ++ more) (given ++ next) lost
front_behind {commands} {more} given {next} {lost} did are gave = record {
  did = All-append (λ (one : Given). one.outcome ≡ Did) given next did gave.did;
  few = gave.few;
  undone = gave.undone;
  rest = gave.rest;
  front =
      ap (λ (v : List Given). commands_of v ++ gave.rest) (append_assoc given next lost)
      ∙ ap (λ (v : List Command). v ++ gave.rest) (commands_append given (next ++ lost))
      ∙ append_assoc (commands_of given) (commands_of (next ++ lost)) gave.rest
      ∙ (λ j. are j ++ gave.front j);
}

front_more : {commands : List Command} (more : List Command) {given lost : List Given} → GaveFront commands given lost → GaveFront (commands ++ more) given lost
front_more {commands} more {given} {lost} gave = record {
  did = gave.did;
  few = gave.few;
  undone = gave.undone;
  rest = gave.rest ++ more;
  front = sym (append_assoc (commands_of (given ++ lost)) gave.rest more) ∙ ap (λ (v : List Command). v ++ more) gave.front;
}

pub halts_more : {err : KeepErr} {commands : List Command} (more : List Command) {d : Desk} {a b : KeeperSeen} → Halts err commands d a b → Halts err (commands ++ more) d a b
halts_more more halts = record {
  after = halts.after;
  given = halts.given;
  lost = halts.lost;
  gave = front_more more halts.gave;
  tables = halts.tables;
  up = halts.up;
  faults = halts.faults;
  keeper = halts.keeper;
}

pub halts_as : {err : KeepErr} {commands other : List Command} {d : Desk} {a b : KeeperSeen} → commands ≡ other → Halts err commands d a b → Halts err other d a b
halts_as {err} {commands} {other} {d} {a} {b} is halts = subst (λ (v : List Command). Halts err v d a b) is halts

-- ---- what is passed over

refused_ends : (row : ℕ) (broken : Rule) (kept : KeepErr) → PassesOver (Refused row broken) (Err kept) → ⊥
refused_ends row broken kept is = cc

failed_ends : (done : Unit {0}) → PassesOver Failed (Ok done) → ⊥
failed_ends done is = cc

memory_ends : (done : Unit {0}) → PassesOver Memory (Ok done) → ⊥
memory_ends done is = cc

failed_as : (kept : KeepErr) → PassesOver Failed (Err kept) → keep.Failed ≡ kept
failed_as kept is = cc

memory_as : (kept : KeepErr) → PassesOver Memory (Err kept) → keep.Memory ≡ kept
memory_as kept is = cc

module _ (command : Command) (before after : Desk) (k l : KeeperSeen) (sound : IsTrue (is_sound command)) (fits : IsTrue (secret_fits command)) (first : Rests k) (rests : Rests l)
    (now : after.held.now ≡ begins_at) (comes : after.held ≡ held_at before.held begins_at) where
  pub gave_done : (reply : Reply) → Commanded command reply after.held.now before after k l → GaveCommand command before after k l
  gave_done reply done = record {
    commit = done.writes;
    tables = record {
      each = λ t told.
          let g = done.tables.each t told in
          record {
            value = g.value;
            told = g.told;
            fits = λ fit.
                let held = g.fits.holds fit.mirrors in
                let is : g.value ≡ (clerk_step t begins_at command).tables =
                held.1 ∙ ap (λ (s : Stepped). s.tables) (sym held.0) ∙ ap (λ (n : ℕ). (clerk_step t n command).tables) now in
                (record { good = subst Good (sym is) (step_keeps_good t begins_at command sound fits fit.good); mirrors = g.fits.stays fit }, is);
          };
    };
    up = done.settled.up;
    faults = done.settled.faults;
    keeper = keeper_commanded command before after k l first rests now comes reply sound fits done;
  }

  lost_by : (err : KeepErr) → StaysAs before after → NotCommitted (CommandBegins command after.held.now before) err k l → Halts err (command ∷ []) before k l
  lost_by err stays not = record {
    after = after;
    given = [];
    lost = undone command err ∷ [];
    gave = lost_front err;
    tables = record { each = λ t told. record { value = t; told = not.tables t told; fits = λ fit. fit.good } };
    up = not.up;
    faults = not.faults;
    keeper = keeper_lost command before after k l first rests now comes err not stays;
  }
    where
      lost_front : (e : KeepErr) → GaveFront (command ∷ []) [] (undone command e ∷ [])
      lost_front keep.Memory = front_one (undone command keep.Memory) (undone_not command before after k l first rests now comes keep.Memory)
      lost_front keep.Failed = front_one (undone command keep.Failed) (undone_not command before after k l first rests now comes keep.Failed)

  refused_writes : (row : ℕ) (broken : Rule) (t : Tables) → (Mirrors before t → clerk_step t after.held.now command ≡ step_refused t row broken) → Mirrors before t → book_writes t command ≡ []
  refused_writes row broken t refused agree = ap (λ (n : ℕ). (clerk_step t n command).writes) (sym now) ∙ ap (λ (s : Stepped). s.writes) (refused agree)

  refused_by : (err : AccountErr) (result : Result (Unit {0}) KeepErr) → StaysAs before after → NotCommanded command err after.held.now before k l → PassesOver err result
      → MatchResult result (λ _. GaveCommand command before after k l) (λ kept. Halts kept (command ∷ []) before k l)
  refused_by (Refused row broken) (Ok done) stays not is = record {
    commit = [];
    tables = record {
      each = λ t told.
          let one = not.tables t told in
          record {
            value = t;
            told = one.0;
            fits = λ fit. (
              fits_as before after t stays fit,
              ap (λ (s : Stepped). s.tables) (sym (one.1 fit.mirrors)) ∙ ap (λ (n : ℕ). (clerk_step t n command).tables) now,
            );
          };
    };
    up = not.quiet.up;
    faults = not.quiet.faults;
    keeper =
        keeper_refused command before after k l first rests now comes (λ t. Mirrors before t → clerk_step t after.held.now command ≡ step_refused t row broken) not
        (refused_writes row broken) stays;
  }
  refused_by (Refused row broken) (Err kept) stays not is = absurd (refused_ends row broken kept is)
  refused_by Failed (Ok done) stays not is = absurd (failed_ends done is)
  refused_by Failed (Err kept) stays not is = subst (λ (v : KeepErr). Halts v (command ∷ []) before k l) (failed_as kept is) (lost_by keep.Failed stays not)
  refused_by Memory (Ok done) stays not is = absurd (memory_ends done is)
  refused_by Memory (Err kept) stays not is = subst (λ (v : KeepErr). Halts v (command ∷ []) before k l) (memory_as kept is) (lost_by keep.Memory stays not)

  pub gave_refused : (err : AccountErr) (result : Result (Unit {0}) KeepErr) → StaysAs before after → NotCommanded command err after.held.now before k l → PassesOver err result
      → MatchResult result (λ _. GaveCommand command before after k l) (λ kept. Halts kept (command ∷ []) before k l)
  gave_refused = refused_by

pub begun_now : (after : Held) → after ≡ held_behind 0 → after.now ≡ begins_at
begun_now after is = ap (λ (h : Held). h.now) is

pub come_to : (before after : Held) → after ≡ held_at before begins_at → held_at before begins_at ≡ held_behind 0 → after ≡ held_behind 0
come_to before after is ready = is ∙ ready

pub come_again : (h : Held) → h ≡ held_behind 0 → held_at h begins_at ≡ held_behind 0
come_again h is = ap (λ (v : Held). held_at v begins_at) is

-- ---- commands in a row

pub builds_none : (t : Tables) (d : Desk) (k : KeeperSeen) → Rests k → Builds [] t t d d k k
builds_none t d k rests = record {
  given = [];
  did = All-nil (λ (one : Given). one.outcome ≡ Did);
  are = refl;
  tables = told_self (λ u fit. (fit, λ is. is));
  up = λ up. up;
  faults = refl;
  keeper = keeper_none d k rests;
}

-- one command alone
gave_builds : {from to : Tables} {before after : Desk} {a b : KeeperSeen} {command : Command} → GaveCommand command before after a b → (clerk_step from begins_at command).tables ≡ to
    → Builds (command ∷ []) from to before after a b
gave_builds {command = command} gave step = record {
  given = done command gave.commit ∷ [];
  did = All-cons (λ (one : Given). one.outcome ≡ Did) (done command gave.commit) [] refl (All-nil (λ (one : Given). one.outcome ≡ Did));
  are = refl;
  tables = told_weaker gave.tables (λ t u is fit.
      let both = is fit in
      (both.0, λ same. both.1 ∙ ap (λ (v : Tables). (clerk_step v begins_at command).tables) same ∙ step));
  up = gave.up;
  faults = gave.faults;
  keeper = gave.keeper;
}

pub builds_then : {commands more : List Command} {from mid to : Tables} {first before after : Desk} {a b c : KeeperSeen} → Builds commands from mid first before a b
    → Builds more mid to before after b c → Builds (commands ++ more) from to first after a c
builds_then {commands} {more} built next = record {
  given = built.given ++ next.given;
  did = All-append (λ (one : Given). one.outcome ≡ Did) built.given next.given built.did next.did;
  are = commands_append built.given next.given ∙ (λ j. built.are j ++ next.are j);
  tables = told_then built.tables next.tables (λ x y z one other fit.
      let half = one fit in
      let whole = other half.0 in
      (whole.0, λ is. whole.1 (half.1 is)));
  up = λ up. next.up (built.up up);
  faults = next.faults ∙ built.faults;
  keeper = keeper_given built.keeper next.keeper;
}

pub halts_then : {commands more : List Command} {from mid : Tables} {first before : Desk} {a b c : KeeperSeen} {err : KeepErr} → Builds commands from mid first before a b
    → Halts err more before b c → Halts err (commands ++ more) first a c
halts_then {first = first} {a = a} {c = c} built halts = record {
  after = halts.after;
  given = built.given ++ halts.given;
  lost = halts.lost;
  gave = front_behind built.given built.did built.are halts.gave;
  tables = told_then built.tables halts.tables (λ x y z one other fit. other (one fit).0);
  up = λ up. let u = halts.up (built.up up) in elim u [ inl still ↦ inl still | inr grew ↦ inr (later_grew (omega (arith, built.faults)) grew) ];
  faults = tallied_behind built.faults halts.faults;
  keeper = subst (λ (v : List Given). KeeperDid v [] first halts.after a c) (sym (append_assoc built.given halts.given halts.lost)) (keeper_given built.keeper halts.keeper);
}

-- memory was wanted before any call
pub halts_at_once : (commands : List Command) (d : Desk) (k : KeeperSeen) → Rests k → Halts keep.Memory commands d k k
halts_at_once commands d k rests = record {
  after = d;
  given = [];
  lost = [];
  gave = gave_none commands;
  tables = told_self (λ t fit. fit.good);
  up = λ up. inl up;
  faults = tallied_none k.faults;
  keeper = keeper_none d k rests;
}

pub ends_builds : (result : Result (Unit {0}) KeepErr) (command : Command) (from to : Tables) (before after : Desk) (a b : KeeperSeen) → (clerk_step from begins_at command).tables ≡ to
    → MatchResult result (λ _. GaveCommand command before after a b) (λ err. Halts err (command ∷ []) before a b)
    → MatchResult result (λ _. Builds (command ∷ []) from to before after a b) (λ err. Halts err (command ∷ []) before a b)
ends_builds (Ok done) command from to before after a b step gave = gave_builds gave step
ends_builds (Err err) command from to before after a b step halts = halts

pub ends_behind : (result : Result (Unit {0}) KeepErr) (commands more : List Command) (from mid to : Tables) (first before after : Desk) (a b c : KeeperSeen) → Builds commands from mid first before a b
    → MatchResult result (λ _. Builds more mid to before after b c) (λ err. Halts err more before b c)
    → MatchResult result (λ _. Builds (commands ++ more) from to first after a c) (λ err. Halts err (commands ++ more) first a c)
ends_behind (Ok done) commands more from mid to first before after a b c built next = builds_then built next
ends_behind (Err err) commands more from mid to first before after a b c built halts = halts_then built halts

next_subscriber : (k : ℕ) → k < 4000 → (clerk_step (peopled k) begins_at (put_subscriber (k + 1))).tables ≡ with_subscriber k
next_subscriber k few = let e : k + 1 ≡ suc k = omega arith in ap (λ (i : ℕ). (clerk_step (peopled k) begins_at (put_subscriber i)).tables) e ∙ subscriber_step k few

next_modem : (k : ℕ) → k < 4000 → (clerk_step (with_subscriber k) begins_at (put_modem (k + 1))).tables ≡ peopled (k + 1)
next_modem k few =
    let e : k + 1 ≡ suc k = omega arith in
    ap (λ (i : ℕ). (clerk_step (with_subscriber k) begins_at (put_modem i)).tables) e ∙ modem_step k few ∙ ap peopled (sym e)

pub settles : (k : ℕ) (result : Result (Unit {0}) KeepErr) (before mid after : Desk) (a b c : KeeperSeen) → k < 4000 → GaveCommand (put_subscriber (k + 1)) before mid a b
    → MatchResult result (λ _. GaveCommand (put_modem (k + 1)) mid after b c) (λ err. Halts err (put_modem (k + 1) ∷ []) mid b c)
    → MatchResult result (λ _. Builds (settling k) (peopled k) (peopled (k + 1)) before after a c) (λ err. Halts err (settling k) before a c)
settles k result before mid after a b c few one other =
    ends_behind result (put_subscriber (k + 1) ∷ []) (put_modem (k + 1) ∷ []) (peopled k) (with_subscriber k) (peopled (k + 1)) before mid after a b c (gave_builds one (next_subscriber k few))
    (ends_builds result (put_modem (k + 1)) (with_subscriber k) (peopled (k + 1)) mid after b c (next_modem k few) other)

-- the commands of more modems
peopling_next : (k : ℕ) → peopling k ++ settling k ≡ peopling (k + 1)
peopling_next k = let e : suc k ≡ k + 1 = omega arith in ap peopling e

peopling_front : (k n : ℕ) → k ≤ n → (more : List Command) × (peopling k ++ more ≡ peopling n)
peopling_front k zero few = let e : k ≡ 0 = omega (arith, few) in ([], append-nil (peopling k) ∙ ap peopling e)
peopling_front k (suc n) few =
    elim (cases_lt n k) as (λ _. (more : List Command) × (peopling k ++ more ≡ peopling (suc n))) [
      | inl last ↦ (let e : k ≡ suc n = omega (arith, few, last) in ([], append-nil (peopling k) ∙ ap peopling e))
      | inr early ↦ (
          let rest = peopling_front k n early in
          (rest.0 ++ settling n, sym (append_assoc (peopling k) rest.0 (settling n)) ∙ ap (λ (v : List Command). v ++ settling n) rest.1)
          )
    ]

pub people_next : (k : ℕ) {from : Tables} {d e f : Desk} {a b c : KeeperSeen} → Builds (peopling k) from (peopled k) d e a b → Builds (settling k) (peopled k) (peopled (k + 1)) e f b c
    → Builds (peopling (k + 1)) from (peopled (k + 1)) d f a c
people_next k {from} {d} {e} {f} {a} {b} {c} built next =
    subst (λ (v : List Command). Builds v from (peopled (k + 1)) d f a c) (peopling_next k) (builds_then built next)

pub people_halts : (k n : ℕ) {from : Tables} {d e : Desk} {a b c : KeeperSeen} {err : KeepErr} → k < n → Builds (peopling k) from (peopled k) d e a b → Halts err (settling k) e b c
    → Halts err (peopling n) d a c
people_halts k n more built halts =
    let behind = peopling_front (k + 1) n (omega (arith, more)) in
    halts_as (ap (λ (v : List Command). v ++ behind.0) (peopling_next k) ∙ behind.1) (halts_more behind.0 (halts_then built halts))

-- the first three commands, and so many subscribers and modems behind them
pub founds : (count : ℕ) (result : Result (Unit {0}) KeepErr) (d e f g h : Desk) (a b c i j : KeeperSeen) → GaveCommand put_hub d e a b → Builds (put_class ∷ []) with_site with_class e f b c
    → GaveCommand put_pool f g c i → MatchResult result (λ _. Builds (peopling count) founded (peopled count) g h i j) (λ err. Halts err (peopling count) g i j)
    → MatchResult result (λ _. Builds (founding count) map.empty (peopled count) d h a j) (λ err. Halts err (founding count) d a j)
founds count result d e f g h a b c i j site class pool more =
    ends_behind result (put_hub ∷ put_class ∷ put_pool ∷ []) (peopling count) map.empty founded (peopled count) d g h a i j
    (builds_then (builds_then (gave_builds site site_step) class) (gave_builds pool pool_step)) more

pub site_halts : {d : Desk} {a b : KeeperSeen} {err : KeepErr} (count : ℕ) → Halts err (put_hub ∷ []) d a b → Halts err (founding count) d a b
site_halts count halts = halts_more (put_class ∷ put_pool ∷ peopling count) halts

pub class_halts : {d e : Desk} {a b c : KeeperSeen} {err : KeepErr} (count : ℕ) → GaveCommand put_hub d e a b → Halts err (put_class ∷ []) e b c → Halts err (founding count) d a c
class_halts count site halts = halts_more (put_pool ∷ peopling count) (halts_then (gave_builds site site_step) halts)

pub pool_halts : {d e f : Desk} {a b c i : KeeperSeen} {err : KeepErr} (count : ℕ) → GaveCommand put_hub d e a b → Builds (put_class ∷ []) with_site with_class e f b c
    → Halts err (put_pool ∷ []) f c i → Halts err (founding count) d a i
pool_halts count site class halts = halts_more (peopling count) (halts_then (builds_then (gave_builds site site_step) class) halts)

-- the same command by another name
pub gave_as : {command other : Command} {before after : Desk} {a b : KeeperSeen} → command ≡ other → GaveCommand command before after a b → GaveCommand other before after a b
gave_as {before = before} {after = after} {a = a} {b = b} is gave = subst (λ (c : Command). GaveCommand c before after a b) is gave

pub halts_of : {command other : Command} {before : Desk} {a b : KeeperSeen} {err : KeepErr} → command ≡ other → Halts err (command ∷ []) before a b → Halts err (other ∷ []) before a b
halts_of {before = before} {a = a} {b = b} {err = err} is halts = subst (λ (c : Command). Halts err (c ∷ []) before a b) is halts

pub ends_as : (result : Result (Unit {0}) KeepErr) (command other : Command) (before after : Desk) (a b : KeeperSeen) → command ≡ other
    → MatchResult result (λ _. GaveCommand command before after a b) (λ err. Halts err (command ∷ []) before a b)
    → MatchResult result (λ _. GaveCommand other before after a b) (λ err. Halts err (other ∷ []) before a b)
ends_as (Ok done) command other before after a b is gave = gave_as is gave
ends_as (Err err) command other before after a b is halts = halts_of is halts

pub settled_halts : {k : ℕ} {before mid : Desk} {a b c : KeeperSeen} {err : KeepErr} → k < 4000 → GaveCommand (put_subscriber (k + 1)) before mid a b → Halts err (put_modem (k + 1) ∷ []) mid b c
    → Halts err (settling k) before a c
settled_halts {k} few one halts = halts_then (gave_builds one (next_subscriber k few)) halts

pub settled_first : (k : ℕ) {before : Desk} {a b : KeeperSeen} {err : KeepErr} → Halts err (put_subscriber (k + 1) ∷ []) before a b → Halts err (settling k) before a b
settled_first k halts = halts_more (put_modem (k + 1) ∷ []) halts
