-- Who waits keeps what it has; and it waits where it's left alone.
use Rattle.std.proofs.Common.{◌≡◌, ◌≢◌, ◌⊎◌, inl, ℕ, ◌<◌, List, [], ◌∷◌, ◌++◌, codes, All, Some, Result, Ok, refl, sym, ap, subst, ◌∙◌, arith}
use Rattle.std.proofs.lemmas.List.Elements.{All-head, All-tail, All-same}
use Rattle.off_base.specs.declared.addresses.Ip4.{Ip4}
use Rattle.off_base.specs.declared.addresses.Peer.{Peer}
use Rattle.off_base.specs.declared.macs.Mac.{Mac}
use Rattle.off_defs.specs.declared.events.Service.TheVariants.{Dhcp}
use Rattle.off_defs.specs.declared.events.What.{What}
use Rattle.off_defs.specs.declared.events.What.TheVariants.{Datagram}
use Rattle.off_defs.specs.declared.results.Outcome.{Outcome}
use Rattle.off_defs.specs.declared.results.Outcome.TheVariants.{Did, Memory, Keeper}
use Rattle.off_defs.specs.declared.tables.Lease.{Lease}
use Rattle.off_defs.specs.State.{State, Effect, at_moment}
use Rattle.off_dhcp.specs.declared.faults.DhcpFault.{DhcpFault}
use Rattle.off_dhcp.specs.Datagram.{Received, message_of}
use Rattle.off_account_rules.specs.Rows.{lease_in}
use Rattle.off_account_rules.specs.Good.{Good, owner_of}
use Rattle.off_lease_rules.specs.declared.words.DhcpWord.{DhcpWord}
use Rattle.off_asking.specs.Asking.{client}
use Rattle.off_book.specs.Dhcp.{dhcp_line}
use Rattle.off_book.specs.Step.{Step, Does}
use Rattle.off_book.specs.Run.{Turn, Run, effect_of}
use Rattle.off_laws.specs.Leases.{TakesMessage, Serves, DoesNotServe, moment_of}
use Rattle.off_laws.proofs.Lines.{other_byte, line_is, word_says}
use Rattle.off_laws.proofs.StepLaws.{moment_is_greatest, step_good}
use Rattle.off_laws.proofs.RunLaws.{one_end, moment_never_falls}
use Rattle.off_laws.proofs.Outlasting.{turn_outlasts}
use Rattle.off_boot_laws.specs.Waiting.{AsksAgain, WaitsThrough, LeaseLasts, KeepsAddress, WhoWaitsKeeps, LeftAloneWaits, MostDoNotServe}
use Rattle.off_boot_laws.proofs.Again.{turn_keeps}

-- who waits from a state on, waits from the next one on
pub waits_on : (mac : Mac) (address : Ip4) (s after : State) (turn : Turn) (turns : List Turn) → Step s turn.event turn.outcome (effect_of turn after)
    → WaitsThrough mac address s (turn ∷ turns) → WaitsThrough mac address after turns
waits_on mac address s after turn turns step waits before later next from parts up_to =
    waits (turn ∷ before) later next from (ap (λ (rest : List Turn). turn ∷ rest) parts) (after, (step, up_to))

pub who_waits_keeps : WhoWaitsKeeps
who_waits_keeps s last [] mac address good run owned waits =
    subst (λ (u : State). KeepsAddress mac address s.tables u.tables) (sym run) (record { owned = owned; bound = λ b. b })
who_waits_keeps s last (turn ∷ turns) mac address good run owned waits =
    let here = waits [] turns turn s refl refl in
    let first = turn_keeps s run.0 turn mac address run.1.0 good owned here.0 here.1 in
    let rest =
    who_waits_keeps run.0 last turns mac address (step_good s turn.event turn.outcome (effect_of turn run.0) run.1.0 good) run.1.1 first.owned
    (waits_on mac address s run.0 turn turns run.1.0 waits) in
    record { owned = rest.owned; bound = λ b. rest.bound (first.bound b) }

-- ---- left alone

-- at each place of a run its lease is as it was
module _ (mac : Mac) (address : Ip4) (lease : Lease) (owned : owner_of lease.hold ≡ Some mac) where
  lasts_here : (s after last : State) (turn : Turn) (later : List Turn) → Step s turn.event turn.outcome (effect_of turn after) → Run after later last
      → lease_in s.tables address ≡ Some lease → last.held.now < lease.expiry.0 → LeaseLasts address s turn
  lasts_here s after last turn later step run there live other is =
      let moment = moment_is_greatest s turn.event turn.outcome (effect_of turn after) step in
      let never = moment_never_falls after last later run in
      let both : Some lease ≡ Some other = sym there ∙ is in
      let same : lease ≡ other = cc in
      subst (λ (l : Lease). moment_of s turn < l.expiry.0) same (omega (arith, moment, never, live))

  stays_at : (s from last : State) (before later : List Turn) (turn : Turn) → Good s.tables → Run s (before ++ turn ∷ later) last
      → lease_in s.tables address ≡ Some lease → All (DoesNotServe mac) (before ++ turn ∷ later) → last.held.now < lease.expiry.0 → Run s before from
      → LeaseLasts address from turn × (DoesNotServe mac turn ⊎ AsksAgain mac address from turn)
  stays_at s from last [] later turn good run there quiet live up_to =
      subst (λ (u : State). LeaseLasts address u turn × (DoesNotServe mac turn ⊎ AsksAgain mac address u turn)) (sym up_to)
      (lasts_here s run.0 last turn later run.1.0 run.1.1 there live, inl (All-head (DoesNotServe mac) turn later quiet))
  stays_at s from last (first ∷ before) later turn good run there quiet live up_to =
      let never = moment_never_falls run.0 last (before ++ turn ∷ later) run.1.1 in
      let same : up_to.0 ≡ run.0 = one_end s up_to.0 run.0 (first ∷ []) (up_to.0, (up_to.1.0, refl)) (run.0, (run.1.0, refl)) in
      let kept =
      turn_outlasts address lease mac owned s run.0 first run.1.0 good there (omega (arith, never, live))
      (All-head (DoesNotServe mac) first (before ++ turn ∷ later) quiet) in
      stays_at run.0 from last before later turn (step_good s first.event first.outcome (effect_of first run.0) run.1.0 good) run.1.1 kept
      (All-tail (DoesNotServe mac) first (before ++ turn ∷ later) quiet) live (subst (λ (u : State). Run u before from) same up_to.1.1)

pub left_alone_waits : LeftAloneWaits
left_alone_waits s last turns mac address lease good run there owned quiet live before later turn from parts up_to =
    stays_at mac address lease owned s from last before later turn good (subst (λ (ts : List Turn). Run s ts last) parts run) there
    (All-same (DoesNotServe mac) (before ++ turn ∷ later) turns (sym parts) quiet) live up_to

-- ---- turns that don't serve

undone_says : (s : State) (from : Peer) (bytes : List ℕ) (outcome : Outcome) (effect : Effect) (said : DhcpWord) → Does s (Datagram Dhcp from bytes) outcome effect
    → effect.said.line ≡ dhcp_line said → outcome ≢ Did → ⊥
undone_says s from bytes Did effect said does line undone = undone refl
undone_says s from bytes Memory effect said does line undone =
    other_byte (dhcp_line said) (codes "dhcp memory") (word_says said).0 (sym line ∙ line_is effect _ does)
undone_says s from bytes Keeper effect said does line undone =
    other_byte (dhcp_line said) (codes "dhcp keeper") (word_says said).1 (sym line ∙ line_is effect _ does)

undone_serves : (s after : State) (turn : Turn) (mac : Mac) → Step s turn.event turn.outcome (effect_of turn after) → turn.outcome ≢ Did → Serves mac turn → ⊥
unfolding Step
undone_serves s after turn mac step undone served =
    undone_says (at_moment s turn.event.at.0) served.takes.from served.takes.bytes turn.outcome (effect_of turn after) served.word
    (subst (λ (what : What). Does (at_moment s turn.event.at.0) what turn.outcome (effect_of turn after)) served.takes.came step) served.line undone

pub one_message : (turn : Turn) (m other : Received) → TakesMessage m turn → TakesMessage other turn → m ≡ other
one_message turn m other a b =
    let came : ◌≡◌ {A = What} (Datagram Dhcp a.from a.bytes) (Datagram Dhcp b.from b.bytes) = sym a.came ∙ b.came in
    let same : a.bytes ≡ b.bytes = cc in
    let read : ◌≡◌ {A = Result Received DhcpFault} (Ok m) (Ok other) = sym a.read ∙ ap message_of same ∙ b.read in
    cc

pub most_do_not_serve : MostDoNotServe
most_do_not_serve s after turn mac step = record {
  undone = λ undone served. undone_serves s after turn mac step undone served;
  another = λ m takes apart served. apart (ap client (one_message turn m served.message takes served.takes) ∙ served.sender);
}
