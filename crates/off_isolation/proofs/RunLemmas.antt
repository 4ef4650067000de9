-- Turn by turn: what a turn is to the address it is alone too, and what is nothing to it leaves its
-- transfers.
use Rattle.std.proofs.Common.{◌≡◌, ◌≢◌, ℕ, max, Bool, true, false, not, ◌&&◌, List, [], ◌∷◌, Option, Some, None, option_map, if◌then◌else◌, refl, sym, ap, subst, ◌∙◌}
use Rattle.std.specs.FinMap as map
use Rattle.off_base.specs.declared.addresses.Ip4.{Ip4}
use Rattle.off_base.specs.declared.addresses.Peer.{Peer}
use Rattle.off_defs.specs.declared.events.Event.{Event}
use Rattle.off_defs.specs.declared.events.Service.TheVariants.{Dhcp, Time, Tftp}
use Rattle.off_defs.specs.declared.events.What.{What}
use Rattle.off_defs.specs.declared.events.What.TheVariants.{Datagram, Piece, Closed, Tick, End}
use Rattle.off_defs.specs.declared.results.Outcome.{Outcome}
use Rattle.off_defs.specs.declared.results.Outcome.TheVariants.{Did, Memory, Keeper}
use Rattle.off_defs.specs.State.{Tables, State, Said, Effect, at_moment}
use Rattle.off_defs.specs.Tables.{write_all}
use Rattle.off_transfer_rules.specs.Requests.{datagram_at}
use Rattle.off_transfer_rules.specs.Transfers.{Transfers}
use Rattle.off_transfer_rules.specs.Words.{tftp_line}
use Rattle.off_transfer_laws.proofs.StepLaws.{step_is_there, others_stay, refusals_leave, answers_go_back}
use Rattle.off_book.specs.Tftp.{TftpDid, TickDid}
use Rattle.off_book.specs.Step.{Step, Does}
use Rattle.off_book.specs.Run.{effect_of}
use Rattle.off_laws.specs.Parts.{Changes, part_of}
use Rattle.off_laws.proofs.StepLaws.{changes_its_part, tables_by_commit, moment_is_greatest}
use Rattle.off_isolation.specs.Own.{is_at, Happening, Came, Passed, says_full, happening_by, happening, in_front, OwnEvent, own_event, own_from, items_to, share_of, given_to}
use Rattle.off_isolation.specs.Alone.{StepAlone, Alone, AreOwn}
use Rattle.off_isolation.specs.Laws.{RunsAreIsolated, RunsAreIsolatedFrom}
use Rattle.off_isolation.proofs.OwnLemmas.{own_of_none, own_of_same}
use Rattle.off_isolation.proofs.StepLemmas.{answered_alone, full_refuses, all_back, ticks_alone}

-- what a turn makes of the address's own transfers
abbrev Turned : Ip4 → State → Effect → Transfers → Option Happening → Type 0
Turned ip s effect own None = AreOwn ip effect.after.held.transfers own
Turned ip s effect own (Some what) =
    (after : Transfers) × (AreOwn ip effect.after.held.transfers after × StepAlone s.tables s.held.now what own after (share_of ip effect.said what))

-- ---- a datagram

module _ (ip : Ip4) (s : State) (from : Peer) (bytes : List ℕ) (effect : Effect) (own : Transfers) (are : AreOwn ip s.held.transfers own) (did : TftpDid s from bytes effect) where
  left : effect.after.held.transfers ≡ did.given.transfers
  left = ap (λ (e : Effect). e.after.held.transfers) did.does

  line : effect.said.line ≡ tftp_line did.given.word
  line = ap (λ (e : Effect). e.said.line) did.does

  -- of another address
  apart_from : is_at ip from ≡ false → (peer : Peer) → is_at ip peer ≡ true → peer ≢ from
  apart_from away peer here same = let e : is_at ip peer ≡ is_at ip from = ap (is_at ip) same in cc

  of_others : is_at ip from ≡ false → AreOwn ip effect.after.held.transfers own
  of_others away =
      own_of_same ip s.held.transfers effect.after.held.transfers own
      (λ peer here e is.
      sym (others_stay s.tables s.held.transfers (datagram_at s.held.now from bytes) did.given did.step peer (apart_from away peer (e ∙ is)))
      ∙ sym (ap (λ (xs : Transfers). map.get xs peer) left))
      are

  -- refused since all transfers are taken
  refused : says_full effect.said.line ≡ true → AreOwn ip effect.after.held.transfers own
  refused full =
      subst (λ (xs : Transfers). AreOwn ip xs own)
      (sym (left ∙ refusals_leave s.tables s.held.transfers (datagram_at s.held.now from bytes) did.given did.step (full_refuses did.given.word (sym (ap says_full line) ∙ full))))
      are

  -- answered
  answered : is_at ip from ≡ true → says_full effect.said.line ≡ false → Turned ip s effect own (Some (Came from bytes))
  answered here room =
      let some = step_is_there s.tables own (datagram_at s.held.now from bytes) in
      let same = answered_alone ip s.tables s.held.now s.held.transfers own from bytes did.given some.0 are here (sym (ap says_full line) ∙ room) did.step some.1 in
      let items : items_to ip effect.said.items ≡ some.0.items =
      ap (λ (e : Effect). items_to ip e.said.items) did.does
      ∙ all_back ip from did.given.items here (answers_go_back s.tables s.held.transfers (datagram_at s.held.now from bytes) did.given did.step)
      ∙ sym same.items in
      let says : effect.said.line ≡ tftp_line some.0.word = line ∙ sym (ap tftp_line same.word) in (
        some.0.transfers,
        (
          subst (λ (xs : Transfers). AreOwn ip xs some.0.transfers) (sym left) same.own,
          record { given = some.0; step = some.1; leaves = refl; says = λ i. record { items = items i; line = says i } },
        ),
      )

  packet_turned : (here full : Bool) → is_at ip from ≡ here → says_full effect.said.line ≡ full
      → Turned ip s effect own (if here && not full then Some (Came from bytes) else None)
  packet_turned false full away says = of_others away
  packet_turned true true here full = refused full
  packet_turned true false here room = answered here room

-- ---- every turn

tick_turned : (ip : Ip4) (s : State) (effect : Effect) (own : Transfers) → AreOwn ip s.held.transfers own → TickDid s effect → Turned ip s effect own (Some Passed)
tick_turned ip s effect own are did =
    let alone = ticks_alone ip s.held.now s.held.transfers own did.transfers did.items did.ticked are did.step in (
      alone.after,
      (
        subst (λ (xs : Transfers). AreOwn ip xs alone.after) (sym (ap (λ (e : Effect). e.after.held.transfers) did.does)) alone.are,
        subst (λ (said : Said). StepAlone s.tables s.held.now Passed own alone.after (share_of ip said Passed)) (sym (ap (λ (e : Effect). e.said) did.does)) alone.waits,
      ),
    )

stays : (ip : Ip4) (s : State) (effect : Effect) (own : Transfers) → AreOwn ip s.held.transfers own → effect.after.held.transfers ≡ s.held.transfers
    → AreOwn ip effect.after.held.transfers own
stays ip s effect own are same = subst (λ (xs : Transfers). AreOwn ip xs own) (sym same) are

does_turned : (ip : Ip4) (s : State) (what : What) (outcome : Outcome) (effect : Effect) (own : Transfers) → AreOwn ip s.held.transfers own
    → Does s what outcome effect → Changes (part_of what outcome) s effect → Turned ip s effect own (happening_by ip what outcome effect.said.line)
does_turned ip s (Datagram Dhcp from bytes) Did effect own are p c = stays ip s effect own are c.transfers
does_turned ip s (Datagram Dhcp from bytes) Memory effect own are p c = stays ip s effect own are c.transfers
does_turned ip s (Datagram Dhcp from bytes) Keeper effect own are p c = stays ip s effect own are c.transfers
does_turned ip s (Datagram Time from bytes) Did effect own are p c = stays ip s effect own are c.transfers
does_turned ip s (Datagram Time from bytes) Memory effect own are p c = stays ip s effect own are c.transfers
does_turned ip s (Datagram Time from bytes) Keeper effect own are p c = absurd p
does_turned ip s (Datagram Tftp from bytes) Did effect own are p c = packet_turned ip s from bytes effect own are p (is_at ip from) (says_full effect.said.line) refl refl
does_turned ip s (Datagram Tftp from bytes) Memory effect own are p c = stays ip s effect own are c.transfers
does_turned ip s (Datagram Tftp from bytes) Keeper effect own are p c = stays ip s effect own are c.transfers
does_turned ip s (Piece conn piece) Did effect own are p c = stays ip s effect own are c.transfers
does_turned ip s (Piece conn piece) Memory effect own are p c = stays ip s effect own are c.transfers
does_turned ip s (Piece conn piece) Keeper effect own are p c = stays ip s effect own are c.transfers
does_turned ip s (Closed conn) Did effect own are p c = stays ip s effect own are c.transfers
does_turned ip s (Closed conn) Memory effect own are p c = absurd p
does_turned ip s (Closed conn) Keeper effect own are p c = absurd p
does_turned ip s Tick Did effect own are p c = tick_turned ip s effect own are p
does_turned ip s Tick Memory effect own are p c = stays ip s effect own are c.transfers
does_turned ip s Tick Keeper effect own are p c = absurd p
does_turned ip s End Did effect own are p c = stays ip s effect own are c.transfers
does_turned ip s End Memory effect own are p c = absurd p
does_turned ip s End Keeper effect own are p c = absurd p

turned : (ip : Ip4) (s : State) (event : Event) (outcome : Outcome) (effect : Effect) (own : Transfers) → AreOwn ip s.held.transfers own
    → Step s event outcome effect → Turned ip (at_moment s event.at.0) effect own (happening_by ip event.what outcome effect.said.line)
unfolding Step
turned ip s event outcome effect own are step =
    does_turned ip (at_moment s event.at.0) event.what outcome effect own are step (changes_its_part s event outcome effect step)

-- ---- the run

joined : (ip : Ip4) (s : State) (effect : Effect) (own : Transfers) (what : Option Happening) (events : List OwnEvent) (more : List Said)
    → Turned ip s effect own what
    → ((after : Transfers) → AreOwn ip effect.after.held.transfers after → Alone events after more)
    → Alone (in_front (option_map (own_event s.tables s.held.now) what) events) own (in_front (option_map (share_of ip effect.said) what) more)
joined ip s effect own None events more t rest = rest own t
joined ip s effect own (Some what) events more t rest = (t.0, t.1.1, rest t.0 t.1.0)

pub isolated_from : RunsAreIsolatedFrom
isolated_from s last [] ip own run are = tt
isolated_from s last (turn ∷ turns) ip own run are =
    let effect : Effect = effect_of turn run.0 in
    let tables : run.0.tables ≡ write_all s.tables turn.commit = tables_by_commit s turn.event turn.outcome effect run.1.0 in
    let moment : run.0.held.now ≡ max s.held.now turn.event.at.0 = moment_is_greatest s turn.event turn.outcome effect run.1.0 in
    joined ip (at_moment s turn.event.at.0) effect own (happening ip turn) (own_from ip (write_all s.tables turn.commit) (max s.held.now turn.event.at.0) turns) (given_to ip turns)
    (turned ip s turn.event turn.outcome effect own are run.1.0)
    (λ after here.
    subst (λ (t : Tables). Alone (own_from ip t (max s.held.now turn.event.at.0) turns) after (given_to ip turns)) tables
    (subst (λ (n : ℕ). Alone (own_from ip run.0.tables n turns) after (given_to ip turns)) moment
    (isolated_from run.0 last turns ip after run.1.1 here)))

pub isolated : RunsAreIsolated
isolated s last turns run none ip =
    isolated_from s last turns ip map.empty run (subst (λ (xs : Transfers). AreOwn ip xs map.empty) (sym none) (own_of_none ip))
