-- Each modem of a drill acknowledges all of its file.
use Rattle.std.proofs.Common.{◌≡◌, ℕ, zero, suc, ◌+◌, ◌≤◌, max, Bool, true, false, if◌then◌else◌, List, [], ◌∷◌, refl, sym, ap, subst, ◌∙◌, inl, arith}
use Rattle.std.proofs.lemmas.List.Elements.{All-head, All-tail}
use Rattle.std.specs.List.{range_with_len}
use Rattle.off_base.specs.declared.addresses.Peer.{Peer}
use Rattle.off_defs.specs.declared.events.Event.{Event}
use Rattle.off_defs.specs.declared.events.Service.TheVariants.{Tftp}
use Rattle.off_defs.specs.declared.events.What.{What}
use Rattle.off_defs.specs.declared.events.What.TheVariants.{Datagram}
use Rattle.off_defs.specs.declared.results.Outcome.{Outcome}
use Rattle.off_defs.specs.declared.results.Outcome.TheVariants.{Did}
use Rattle.off_defs.specs.declared.writes.Write.{Write}
use Rattle.off_defs.specs.State.{Tables, State, at_moment}
use Rattle.off_defs.specs.Tables.{write_all}
use Rattle.off_transfer_rules.proofs.PeerLemmas.{own_peer}
use Rattle.off_book.specs.Step.{Step}
use Rattle.off_book.specs.Run.{Turn, Run, effect_of, events_of}
use Rattle.off_laws.specs.Parts.{Changes, part_of}
use Rattle.off_laws.proofs.StepLaws.{changes_its_part, moment_is_greatest, tables_by_commit}
use Rattle.off_drill_rules.specs.Rows.{site, modem, mac, address, is_active, drill_tables}
use Rattle.off_drill_rules.specs.Messages.{by_modem, name, read_request, acknowledgement}
use Rattle.off_drill_rules.specs.Events.{acknowledges, acknowledgements, blocks_of}
use Rattle.off_drill_rules.specs.Law.{AllDid}
use Rattle.off_drill_laws.proofs.RowLemmas.{drill_rows, address_within, site_read_at, modem_read}
use Rattle.off_transfer_runs.specs.Answering.{Ask, Speaks, Aside, ask, AnswersBy, AnswersUpTo}
use Rattle.off_boot_laws.specs.Boot.{KeepsName}
use Rattle.off_drill_laws.proofs.PacketLemmas.{acknowledgement_says}
use Rattle.off_boot_drill.specs.Met.{EachAcknowledgesAll}

speaks : (peer : Peer) (bytes : List ℕ) → ask peer (Datagram Tftp peer bytes) ≡ Speaks bytes
speaks peer bytes = ap (λ b. if b then Speaks bytes else Aside) (own_peer peer)

-- a packet writes nothing
writes_none : (s after : State) (turn : Turn) (peer : Peer) (bytes : List ℕ) → Step s turn.event turn.outcome (effect_of turn after)
    → turn.event.what ≡ Datagram Tftp peer bytes → turn.outcome ≡ Did → turn.commit ≡ []
writes_none s after turn peer bytes step came did =
    let now = at_moment s turn.event.at.0 in
    let changes : Changes (part_of (Datagram Tftp peer bytes) Did) now (effect_of turn after) =
    subst (λ (o : Outcome). Changes (part_of (Datagram Tftp peer bytes) o) now (effect_of turn after)) did
    (subst (λ (w : What). Changes (part_of w turn.outcome) now (effect_of turn after)) came
    (changes_its_part s turn.event turn.outcome (effect_of turn after) step)) in
    changes.commit

module _ (i : ℕ) (t : Tables) where
  abbrev Named : Tables → ℕ → Type 0
  Named tables now = KeepsName tables (mac i) i (address i) (name i)

  abbrev UpTo : ℕ → Tables → ℕ → ℕ → ℕ → List Turn → Type 0
  UpTo last tables now number ticks soon = AnswersUpTo (read_request i) 0 last (by_modem i) Named tables now number ticks soon

  acks_up : (m number : ℕ) (s last : State) (soon : List Turn) → number + m ≤ 4 → KeepsName t (mac i) i (address i) (name i) → s.tables ≡ t → Run s soon last
      → events_of soon ≡ acknowledgements i (range_with_len number m) → AllDid soon → UpTo (number + m) s.tables s.held.now number 5 soon
  acks_up zero number s last [] few named is run events did = omega arith
  acks_up zero number s last (turn ∷ soon) few named is run events did = cc
  acks_up (suc m) number s last [] few named is run events did = cc
  acks_up (suc m) number s last (turn ∷ soon) few named is run events did =
      let own : turn.event ≡ acknowledges i number = cc in
      let rest : events_of soon ≡ acknowledgements i (range_with_len (number + 1) m) = cc in
      let done : turn.outcome ≡ Did = All-head (λ (u : Turn). u.outcome ≡ Did) turn soon did in
      let came : turn.event.what ≡ Datagram Tftp (by_modem i) (acknowledgement number) = ap (λ (e : Event). e.what) own in
      let none : turn.commit ≡ [] = writes_none s run.0 turn (by_modem i) (acknowledgement number) run.1.0 came done in
      let tables : run.0.tables ≡ write_all s.tables turn.commit = tables_by_commit s turn.event turn.outcome (effect_of turn run.0) run.1.0 in
      let next : UpTo ((number + 1) + m) run.0.tables run.0.held.now (number + 1) 5 soon =
      acks_up m (number + 1) run.0 last soon (omega (arith, few)) named (tables ∙ ap (λ (w : List Write). write_all s.tables w) none ∙ is) run.1.1 rest
      (All-tail (λ (u : Turn). u.outcome ≡ Did) turn soon did) in
      let moment : run.0.held.now ≡ max s.held.now turn.event.at.0 = moment_is_greatest s turn.event turn.outcome (effect_of turn run.0) run.1.0 in
      let all : (number + 1) + m ≡ number + suc m = omega arith in
      let more : number + 1 ≡ suc number = omega arith in
      let later : UpTo (number + suc m) (write_all s.tables turn.commit) (max s.held.now turn.event.at.0) (suc number) 5 soon =
      subst (λ (j : ℕ). UpTo (number + suc m) (write_all s.tables turn.commit) (max s.held.now turn.event.at.0) j 5 soon) more
      (subst (λ (j : ℕ). UpTo j (write_all s.tables turn.commit) (max s.held.now turn.event.at.0) (number + 1) 5 soon) all
      (subst (λ (j : ℕ). UpTo ((number + 1) + m) (write_all s.tables turn.commit) j (number + 1) 5 soon) moment
      (subst (λ (u : Tables). UpTo ((number + 1) + m) u run.0.held.now (number + 1) 5 soon) tables next))) in
      subst (λ (o : Outcome). AnswersBy (read_request i) 0 (ask (by_modem i) turn.event.what) (Named s.tables (max s.held.now turn.event.at.0)) o number 5
      (λ j ticks. UpTo (number + suc m) (write_all s.tables turn.commit) (max s.held.now turn.event.at.0) j ticks soon)) (sym done)
      (subst (λ (a : Ask). AnswersBy (read_request i) 0 a (Named s.tables (max s.held.now turn.event.at.0)) Did number 5
      (λ j ticks. UpTo (number + suc m) (write_all s.tables turn.commit) (max s.held.now turn.event.at.0) j ticks soon))
      (sym (ap (ask (by_modem i)) came ∙ speaks (by_modem i) (acknowledgement number)))
      (inl (
        record {
          read = acknowledgement_says number (omega (arith, few));
          agree = subst (λ (u : Tables). KeepsName u (mac i) i (address i) (name i)) (sym is) named;
        },
        later,
      )))

four_at_most : (active : Bool) → suc (blocks_of active) ≤ 4
four_at_most true = omega arith
four_at_most false = omega arith

pub each_acknowledges_all : EachAcknowledgesAll
each_acknowledges_all n k s last soon few more is run events did =
    let rows = drill_rows n (suc k) (suc k) few (omega arith) (omega (arith, more)) in
    let named : KeepsName (drill_tables n (suc k)) (mac (suc k)) (suc k) (address (suc k)) (name (suc k)) =
    record {
      modem = modem (suc k);
      site = site;
      modem_is = modem_read (drill_tables n (suc k)) (suc k) rows;
      owned = refl;
      site_is = site_read_at (drill_tables n (suc k)) (suc k) rows (address (suc k)) (address_within (suc k) (omega arith) (omega (arith, few, more)));
      named = refl;
    } in
    let blocks : ℕ = suc (blocks_of (is_active (suc k))) in
    let none : 0 + blocks ≡ blocks = omega arith in
    subst (λ (j : ℕ). UpTo (suc k) (drill_tables n (suc k)) j s.tables s.held.now 0 5 soon) none
    (acks_up (suc k) (drill_tables n (suc k)) blocks 0 s last soon (omega (arith, four_at_most (is_active (suc k)))) named is run events did)
