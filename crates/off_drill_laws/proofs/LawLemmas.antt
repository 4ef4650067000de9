-- The law of the drill, by one recursion over its turns, from stage to stage.
use Rattle.std.proofs.Common.{◌≡◌, ℕ, zero, suc, ◌-◌, ◌<◌, ◌≤◌, List, [], ◌∷◌, length, refl, sym, ap, subst, ◌∙◌, inl, inr, ◌⊎◌, arith}
use Rattle.std.proofs.lemmas.Bool.{cases_lt}
use Rattle.std.proofs.lemmas.List.Elements.{All-nil, All-cons, All-head, All-tail}
use Rattle.off_base.specs.declared.addresses.Peer.{Peer}
use Rattle.off_defs.specs.declared.events.Event.{Event}
use Rattle.off_defs.specs.declared.events.Service.TheVariants.{Dhcp, Tftp}
use Rattle.off_defs.specs.declared.events.What.TheVariants.{Datagram}
use Rattle.off_defs.specs.declared.results.Outcome.{Outcome}
use Rattle.off_defs.specs.declared.results.Outcome.TheVariants.{Did}
use Rattle.off_defs.specs.State.{State, Effect, at_moment}
use Rattle.off_transfer_rules.specs.Requests.{datagram_at}
use Rattle.off_transfer_laws.proofs.StepLaws.{step_is_there}
use Rattle.off_query_rules.specs.Asked.{query_of}
use Rattle.off_laws.proofs.Existence.{datagram_some}
use Rattle.off_book.specs.Step.{Step}
use Rattle.off_book.specs.Tftp.{transfers_effect, tftp_said}
use Rattle.off_book.specs.Run.{Turn, Run, effect_of, events_of}
use Rattle.off_drill_rules.specs.declared.tally.Tally.{Tally}
use Rattle.off_drill_rules.specs.Rows.{moment}
use Rattle.off_drill_rules.specs.Messages.{by_relay, by_modem, discover, request, read_request, acknowledgement}
use Rattle.off_drill_rules.specs.Events.{asks_for_offer, asks_for_lease, asks_for_file, acknowledges, events_from, drill_events}
use Rattle.off_drill_rules.specs.Numbers.{plus, tally_of, tally_by, none_yet, drill_tally}
use Rattle.off_drill_rules.specs.Law.{AllDid, DrillLaw, DrillIsThere, drill_state}
use Rattle.off_drill_laws.specs.Stages.{Stage, Waits, HasOffer, HasLease, Gets, Stands, to_come, counted_at, served, Moves}
use Rattle.off_drill_laws.proofs.StageLemmas.{same_tally, waits_moves, offer_moves, lease_moves, GetsMoves, one_block, the_end, gets_moves}

-- ---- the next event of a stage

-- the office does something with a modem's message, and with its packet
some_dhcp : (s : State) (at : ℕ) (from : Peer) (bytes : List ℕ) → (effect : Effect) × Step s (record { at = record { 0 = at }; what = Datagram Dhcp from bytes }) Did effect
unfolding Step
some_dhcp s at from bytes = datagram_some (at_moment s at) bytes (query_of bytes)

some_tftp : (s : State) (at : ℕ) (from : Peer) (bytes : List ℕ) → (effect : Effect) × Step s (record { at = record { 0 = at }; what = Datagram Tftp from bytes }) Did effect
unfolding Step
some_tftp s at from bytes =
    let m = at_moment s at in
    let there = step_is_there m.tables m.held.transfers (datagram_at m.held.now from bytes) in (
      transfers_effect m there.0.transfers (tftp_said there.0),
      record { given = there.0; step = there.1; does = refl },
    )

pub record Goes (n : ℕ) (stage : Stage) (event : Event) (effect : Effect) : Type 0 where
  pub to : Stage
  pub line : List ℕ
  pub moves : Moves n stage to event line effect.said effect.after
  pub within : served to ≤ n
  pub place : (served to < n) ⊎ (to ≡ Waits n)

record Next (n : ℕ) (stage : Stage) (s : State) : Type 0 where
  event : Event
  rest : List Event
  first : to_come n stage ≡ event ∷ rest
  some : (effect : Effect) × Step s event Did effect
  goes : (effect : Effect) → Step s event Did effect → Goes n stage event effect

-- whether the next modem is one of n
placed : (n k : ℕ) → k ≤ n → (k < n) ⊎ (Waits k ≡ Waits n)
placed n k within = elim (cases_lt k n) as (λ c. (k < n) ⊎ (Waits k ≡ Waits n)) [ inl more ↦ inl more | inr above ↦ inr (let same : k ≡ n = omega (arith, within, above) in ap Waits same) ]

next_from : (n : ℕ) (stage : Stage) (s : State) (event : Event) → (effect : Effect) × Step s event Did effect → ((effect : Effect) → Step s event Did effect → Goes n stage event effect) → Next n stage s
next_from n stage s event some goes =
    let g = goes some.0 some.1 in
    record { event = event; rest = to_come n g.to; first = g.moves.tail; some = some; goes = goes }

gets_goes : (n k number : ℕ) → k < n → (effect : Effect) → (few : n ≤ 4000) (more : k < n) → GetsMoves n k more few number effect.said effect.after → Goes n (Gets k number) (acknowledges (suc k) number) effect
gets_goes n k number below effect few more (one_block short moves) =
    record { to = Gets k (suc number); line = _; moves = moves; within = omega (arith, below); place = inl below }
gets_goes n k number below effect few more (the_end moves) =
    record { to = Waits (suc k); line = _; moves = moves; within = below; place = placed n (suc k) below }

next_at : (n : ℕ) → n ≤ 4000 → (stage : Stage) (s : State) → served stage < n → Stands n stage s → Next n stage s
next_at n few (Waits k) s more stands =
    next_from n (Waits k) s (asks_for_offer (suc k)) (some_dhcp s (moment (suc k)) by_relay (discover (suc k)))
    (λ effect did. record { to = HasOffer k; line = _; moves = waits_moves n k more few s effect stands did; within = omega (arith, more); place = inl more })
next_at n few (HasOffer k) s more stands =
    next_from n (HasOffer k) s (asks_for_lease (suc k)) (some_dhcp s (moment (suc k)) by_relay (request (suc k)))
    (λ effect did. record { to = HasLease k; line = _; moves = offer_moves n k more few s effect stands did; within = omega (arith, more); place = inl more })
next_at n few (HasLease k) s more stands =
    next_from n (HasLease k) s (asks_for_file (suc k)) (some_tftp s (moment (suc k)) (by_modem (suc k)) (read_request (suc k)))
    (λ effect did. record { to = Gets k 0; line = _; moves = lease_moves n k more few s effect stands did; within = omega (arith, more); place = inl more })
next_at n few (Gets k number) s more stands =
    next_from n (Gets k number) s (acknowledges (suc k) number) (some_tftp s (moment (suc k)) (by_modem (suc k)) (acknowledgement number))
    (λ effect did. gets_goes n k number more effect few more (gets_moves n k more few number s effect stands did))

-- ---- the law

pub none_left : (n : ℕ) → to_come n (Waits n) ≡ []
none_left n = let none : n - n ≡ 0 = omega arith in ap (events_from n) none

abbrev pub Place : ℕ → Stage → Type 0
Place n stage = (served stage < n) ⊎ (stage ≡ Waits n)

pub plus_none : (a : Tally) → plus none_yet a ≡ a
plus_none a = same_tally (plus none_yet a) a (omega arith) (omega arith) (omega arith) (omega arith) (omega arith)

plus_moved : (one rest from to end : Tally) → plus one from ≡ to → plus rest to ≡ end → plus (plus one rest) from ≡ end
plus_moved one rest from to end moves ends =
    same_tally (plus (plus one rest) from) (plus rest (plus one from)) (omega arith) (omega arith) (omega arith) (omega arith) (omega arith)
    ∙ ap (plus rest) moves ∙ ends

module _ (n : ℕ) (few : n ≤ 4000) where
  law_from : (stage : Stage) (s : State) (turns : List Turn) (last : State) → Place n stage → Stands n stage s → Run s turns last → events_of turns ≡ to_come n stage → AllDid turns
      → (last ≡ drill_state n n) × (plus (tally_by turns) (counted_at stage) ≡ counted_at (Waits n))
  law_from stage s [] last (inl more) stands run events did = let f = events ∙ (next_at n few stage s more stands).first in cc
  law_from stage s [] last (inr same) stands run events did =
      let here : s ≡ drill_state n n = subst (λ (v : Stage). Stands n v s) same stands in
      (run ∙ here, plus_none (counted_at stage) ∙ ap counted_at same)
  law_from stage s (turn ∷ turns) last (inr same) stands run events did =
      let f = events ∙ ap (to_come n) same ∙ none_left n in cc
  law_from stage s (turn ∷ turns) last (inl more) stands run events did =
      let next = next_at n few stage s more stands in
      let both : turn.event ∷ events_of turns ≡ next.event ∷ next.rest = events ∙ next.first in
      let own : turn.event ≡ next.event = cc in
      let done : turn.outcome ≡ Did = All-head (λ (t : Turn). t.outcome ≡ Did) turn turns did in
      let step : Step s next.event Did (effect_of turn run.0) =
      subst (λ (e : Event). Step s e Did (effect_of turn run.0)) own (subst (λ (o : Outcome). Step s turn.event o (effect_of turn run.0)) done run.1.0) in
      let g = next.goes (effect_of turn run.0) step in
      let tails : turn.event ∷ events_of turns ≡ next.event ∷ to_come n g.to = events ∙ g.moves.tail in
      let rest : events_of turns ≡ to_come n g.to = cc in
      let found = law_from g.to run.0 turns last g.place g.moves.stands run.1.1 rest (All-tail (λ (t : Turn). t.outcome ≡ Did) turn turns did) in
      (found.0, plus_moved (tally_of turn.said) (tally_by turns) (counted_at stage) (counted_at g.to) (counted_at (Waits n)) g.moves.counts found.1)

plus_zero : (a b : Tally) → plus a (drill_tally 0) ≡ b → a ≡ b
plus_zero a b e = sym (same_tally (plus a (drill_tally 0)) a (omega arith) (omega arith) (omega arith) (omega arith) (omega arith)) ∙ e

pub events_all : (n : ℕ) → drill_events n ≡ to_come n (Waits 0)
events_all n = let all : n ≡ n - 0 = omega arith in ap (events_from 0) all

pub drill_law : DrillLaw
drill_law n turns last few whole =
    let found = law_from n few (Waits 0) (drill_state n 0) turns last (placed n 0 (omega arith)) refl whole.run (whole.events ∙ events_all n) whole.did in
    (found.0, plus_zero (tally_by turns) (drill_tally n) found.1)

-- ---- the rest of a drill

pub record Rest (n : ℕ) (stage : Stage) (s : State) : Type 0 where
  pub turns : List Turn
  pub last : State
  pub run : Run s turns last
  pub events : events_of turns ≡ to_come n stage
  pub did : AllDid turns

module _ (n : ℕ) (few : n ≤ 4000) where
  rest_by : (length_left : ℕ) (stage : Stage) (s : State) → Place n stage → Stands n stage s → length (to_come n stage) ≡ length_left → Rest n stage s
  rest_by len stage s (inr same) stands is =
      record { turns = []; last = s; run = refl; events = sym (ap (to_come n) same ∙ none_left n); did = All-nil (λ (t : Turn). t.outcome ≡ Did) }
  rest_by zero stage s (inl more) stands is = absurd (let e = ap length (next_at n few stage s more stands).first in omega (arith, is, e))
  rest_by (suc len) stage s (inl more) stands is =
      let next = next_at n few stage s more stands in
      let effect = next.some.0 in
      let g = next.goes effect next.some.1 in
      let left : length (to_come n g.to) ≡ len = (let e = ap length g.moves.tail in omega (arith, is, e)) in
      let rest = rest_by len g.to effect.after g.place g.moves.stands left in
      let turn : Turn = record { event = next.event; outcome = Did; said = effect.said; commit = effect.commit; went = [] } in
      record {
        turns = turn ∷ rest.turns;
        last = rest.last;
        run = (effect.after, (next.some.1, rest.run));
        events = ap (λ (es : List Event). next.event ∷ es) rest.events ∙ sym g.moves.tail;
        did = All-cons (λ (t : Turn). t.outcome ≡ Did) turn rest.turns refl rest.did;
      }

  pub rest_of : (stage : Stage) (s : State) → Place n stage → Stands n stage s → Rest n stage s
  rest_of stage s place stands = rest_by (length (to_come n stage)) stage s place stands refl

pub drill_is_there : DrillIsThere
drill_is_there n few =
    let rest = rest_of n few (Waits 0) (drill_state n 0) (placed n 0 (omega arith)) refl in
    (rest.turns, (rest.last, record { run = rest.run; events = rest.events ∙ sym (events_all n); did = rest.did }))
