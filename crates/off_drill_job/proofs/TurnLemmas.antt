-- One turn of a drill, and an event that couldn't be acted on.
use Rattle.std.proofs.Common.{◌≡◌, ◌≢◌, ℕ, ◌+◌, Bool, List, [], ◌∷◌, ◌++◌, length, refl, sym, ap, subst, ◌∙◌, arith, append-nil}
use Rattle.std.proofs.lemmas.List.Elements.{All-nil, All-cons}
use Rattle.std.specs.Str.{bytes_eq}
use Rattle.off_defs.specs.declared.events.Event.{Event}
use Rattle.off_defs.specs.declared.events.What.{What}
use Rattle.off_defs.specs.declared.events.What.TheVariants.{Datagram, Piece, Closed, Tick, End}
use Rattle.off_defs.specs.declared.results.Outcome.TheVariants.{Did, Memory, Keeper}
use Rattle.off_defs.specs.declared.results.Sent.{Sent}
use Rattle.off_defs.specs.Counts.{Tallied}
use Rattle.off_defs.specs.State.{Said, state_of}
use Rattle.off_defs.proofs.ToldLemmas.{told_weaker}
use Rattle.off_book.specs.Step.{Step, completed}
use Rattle.off_book.specs.Run.{Turn, effect_of, sent_in, lost_in}
use Rattle.off_laws.proofs.RunLaws.{run_keeps_good}
use Rattle.off_outside.specs.declared.keeper.KeepErr.TheVariants as keep
use Rattle.off_outside.specs.KeeperSeen.{KeeperSeen, Rests}
use Rattle.off_outside.specs.LinkSeen.{LinkSeen}
use Rattle.off_office.specs.Acting.{Acts}
use Rattle.off_office.specs.Desk.{Desk}
use Rattle.off_office.specs.Sending.{SentAll}
use Rattle.off_drill_rules.specs.declared.tally.Tally.{Tally}
use Rattle.off_drill_rules.specs.Numbers.{tally_of}
use Rattle.off_drill_job.specs.Stepping.{KeeperDid}
use Rattle.off_drill_parts.specs.Tallying.{raised_by}
use Rattle.off_drill_job.specs.Exercising.{TookTurn, TriedOne, LostTurn}
use Rattle.off_drill_job.proofs.CrashLemmas.{keeper_turn}

did_whole : (what : What) (said : Said) → completed what Did said ≡ said
did_whole (Datagram service from bytes) said = λ j. record { items = append-nil said.items j; line = said.line }
did_whole (Piece conn bytes) said = λ j. record { items = append-nil said.items j; line = said.line }
did_whole (Closed conn) said = λ j. record { items = append-nil said.items j; line = said.line }
did_whole Tick said = λ j. record { items = append-nil said.items j; line = said.line }
did_whole End said = λ j. record { items = append-nil said.items j; line = said.line }

pub took : (event : Event) (words : List ℕ) (said : Said) (all same : Bool) (before after : Desk) (a b : KeeperSeen) (l m : LinkSeen) (c d : Tally) {moment : ℕ}
    → Rests a → Rests b → Acts event Did said before after a b → SentAll said.items moment all l m → d ≡ raised_by c (tally_of said) → same ≡ bytes_eq said.line words
    → TookTurn event words same before after a b l m c d
took event words said all same before after a b l m c d first rests acts sending counts says =
    let turn : Turn = record { event = event; outcome = Did; said = said; commit = acts.commit; went = sending.marks } in
    record {
      turn = turn;
      event_is = refl;
      did = refl;
      says = says;
      tables = told_weaker acts.tables (λ t u under fit.
          let held = under.holds fit.mirrors in
          let step : Step (state_of t before.held) event Did (effect_of turn (state_of u after.held)) =
          subst (λ (s : Said). Step (state_of t before.held) event Did (record { said = s; commit = acts.commit; after = state_of u after.held })) (did_whole event.what said) held in
          let good = run_keeps_good (state_of t before.held) (state_of u after.held) (turn ∷ []) (state_of u after.held, (step, refl)) fit.good in
          (record { good = good; mirrors = under.stays fit }, step));
      up = acts.up;
      faults = acts.faults;
      keeper =
          subst (λ (s : Said). KeeperDid [] (record { event = event; outcome = Did; said = s; commit = acts.commit; went = sending.marks } ∷ []) before after a b) (did_whole event.what said)
          (keeper_turn event Did said sending.marks before after a b first rests acts);
      sent = record {
        left = sending.left;
        marks = All-cons (λ (t : Turn). length t.said.items ≡ length t.went) turn [] sending.each (All-nil (λ (t : Turn). length t.said.items ≡ length t.went));
        sent = told_weaker sending.sent (λ x y is. is ∙ ap (λ (v : List Sent). x ++ v) (sym (append-nil (sent_in turn))));
        unsent = (let one : lost_in turn ≡ lost_in turn + 0 = omega arith in subst (λ (n : ℕ). Tallied n l.unsent m.unsent) one sending.unsent);
        up = sending.up;
        missed = sending.missed;
        longest = sending.longest;
        faults = sending.faults;
      };
      counts = counts;
    }

tried_one : (turn : Turn) → turn.outcome ≢ Did → TriedOne (turn ∷ [])
tried_one turn other = record { few = omega arith; undone = All-cons (λ (t : Turn). t.outcome ≢ Did) turn [] other (All-nil (λ (t : Turn). t.outcome ≢ Did)) }

pub tried_none : TriedOne []
tried_none = record { few = omega arith; undone = All-nil (λ (t : Turn). t.outcome ≢ Did) }

pub wanted_memory : (event : Event) (said : Said) (before after : Desk) (a b : KeeperSeen) → Rests a → Rests b → Acts event Memory said before after a b → LostTurn keep.Memory before a b
wanted_memory event said before after a b first rests acts =
    let turn : Turn = record { event = event; outcome = Memory; said = completed event.what Memory said; commit = acts.commit; went = [] } in
    record {
      after = after;
      tried = turn ∷ [];
      one = tried_one turn (λ e. cc);
      tables = told_weaker acts.fits (λ t u stays fit. (stays fit).good);
      up = acts.up;
      faults = acts.faults;
      keeper = keeper_turn event Memory said [] before after a b first rests acts;
    }

pub keeper_failed : (event : Event) (said : Said) (before after : Desk) (a b : KeeperSeen) → Rests a → Rests b → Acts event Keeper said before after a b → LostTurn keep.Failed before a b
keeper_failed event said before after a b first rests acts =
    let turn : Turn = record { event = event; outcome = Keeper; said = completed event.what Keeper said; commit = acts.commit; went = [] } in
    record {
      after = after;
      tried = turn ∷ [];
      one = tried_one turn (λ e. cc);
      tables = told_weaker acts.fits (λ t u stays fit. (stays fit).good);
      up = acts.up;
      faults = acts.faults;
      keeper = keeper_turn event Keeper said [] before after a b first rests acts;
    }
