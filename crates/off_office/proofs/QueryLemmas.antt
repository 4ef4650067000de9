-- A relay's query, and so each datagram to the DHCP port: to the step of the book.
use Rattle.std.proofs.Common.{◌≡◌, ℕ, true, false, inl, List, [], Option, Some, None, Result, Ok, Err, MatchResult, refl, sym, ap, ◌∙◌, subst}
use Rattle.off_base.specs.declared.addresses.Peer.{Peer}
use Rattle.off_dhcp.specs.Datagram.{message_of}
use Rattle.off_defs.specs.declared.events.Service.TheVariants.{Dhcp}
use Rattle.off_defs.specs.declared.events.What.TheVariants.{Datagram}
use Rattle.off_defs.specs.declared.results.Outcome.{Outcome}
use Rattle.off_defs.specs.declared.results.Outcome.TheVariants.{Did}
use Rattle.off_defs.specs.State.{Tables, Said, state_of}
use Rattle.off_query_rules.specs.declared.results.QueryStep.{QueryStep}
use Rattle.off_query_rules.specs.Asked.{query_of}
use Rattle.off_query_rules.specs.Answers.{query_step}
use Rattle.off_query.specs.Calls.{query_calls}
use Rattle.off_book.specs.Dhcp.{DatagramDid, query_said}
use Rattle.off_laws.proofs.Lines.{query_tells}
use Rattle.off_outside.specs.declared.keeper.KeepErr.{KeepErr}
use Rattle.off_outside.specs.declared.keeper.KeepErr.TheVariants as keep
use Rattle.off_outside.specs.KeeperSeen.{KeeperSeen, Rests}
use Rattle.off_outside.specs.KeeperCalls.{Reads, Spent, NotDone}
use Rattle.off_outside.proofs.KeeperLemmas.{reads_as, reads_told, reads_forgotten, not_begun, still_crash}
use Rattle.off_office.specs.Desk.{Desk}
use Rattle.off_office.specs.Conditions.{Mirrors}
use Rattle.off_office.specs.Acting.{Handled, DoesOn, effect_of}
use Rattle.off_office.specs.Asking.{DhcpAsks}
use Rattle.off_office.specs.Leasing.{ServesDatagram, FailsMessage}
use Rattle.off_office.specs.Querying.{DidQuery, AnswersQuery}
use Rattle.off_office.proofs.LeaseLemmas.{said_nothing_more, message_handled, message_failed, undone_told}
use Rattle.off_office.proofs.StepLemmas.{kept_unwritten}

-- ---- a query that is answered

query_did : (query : List ℕ) (desk : Desk) (step : QueryStep) (said : Said) (a b : KeeperSeen)
    → Reads (λ t. Mirrors desk t → step ≡ query_step t desk.held.now query) a b → said ≡ query_said step → DidQuery query desk said a b
query_did query desk step said a b reads is = record {
  reads = reads_as reads (λ t says mirrors. is ∙ ap query_said (says mirrors));
  word = step.word;
  says = ap (λ (x : Said). x.line) is;
}

-- or there is no memory for the answer
pub said_answers : (result : Result (Unit {0}) KeepErr) (query : List ℕ) (desk : Desk) (step : QueryStep) (said : Said) (a b : KeeperSeen)
    → Reads (λ t. Mirrors desk t → step ≡ query_step t desk.held.now query) a b → MatchResult result (λ _. said ≡ query_said step) (λ err. err ≡ keep.Memory)
    → AnswersQuery result query desk said a b
said_answers (Ok u) query desk step said a b reads is = query_did query desk step said a b reads is
said_answers (Err err) query desk step said a b reads is = subst (λ (e : KeepErr). NotDone e a b) (sym is) (reads_forgotten reads)

-- ---- the step of the book

query_does : (from : Peer) (bytes query : List ℕ) (said : Said) (desk : Desk) (t : Tables) → query_of bytes ≡ Some query
    → said ≡ query_said (query_step t desk.held.now query) → DoesOn (Datagram Dhcp from bytes) Did said [] desk desk t t
query_does from bytes query said desk t asks is =
    subst (DatagramDid (state_of t desk.held) bytes (effect_of (Datagram Dhcp from bytes) Did said [] (state_of t desk.held))) (sym asks)
    (ap (λ (x : Said). record { said = x; commit = []; after = state_of t desk.held }) (said_nothing_more from bytes said ∙ is))

query_handled : (from : Peer) (bytes query : List ℕ) (said : Said) (desk : Desk) (a b : KeeperSeen) → Rests a → query_of bytes ≡ Some query
    → DidQuery query desk said a b → Spent (query_calls query) a b → Handled (Datagram Dhcp from bytes) Did said desk desk a b
query_handled from bytes query said desk a b rests asks did spent = record {
  commit = [];
  tables = reads_told did.reads (λ t says. record { holds = λ mirrors. query_does from bytes query said desk t asks (says mirrors); stays = λ fits. fits.mirrors });
  written = reads_told did.reads (λ t says. refl);
  keeps = reads_told did.reads (λ t says mirrors. kept_unwritten desk desk refl);
  few = tt;
  up = λ up. inl (did.reads.quiet.up up);
  faults = did.reads.quiet.faults;
  commits = did.reads.quiet.commits;
  waits = did.reads.quiet.waits;
  asks = subst (λ (asked : Option (List ℕ)). DhcpAsks asked (message_of bytes) a b) (sym asks) spent;
  crash = still_crash rests did.reads.quiet.still;
  doubts = λ t told u doubt. did.reads.quiet.still.doubts u doubt;
  tells = query_tells from bytes did.word said.line did.says;
  undone = tt;
  leaves = tt;
  quiet = λ other. absurd (let e : false ≡ true = other in cc);
  moment = refl;
}

-- ---- a datagram, query or message

pub datagram_handled : (from : Peer) (bytes : List ℕ) (asked : Option (List ℕ)) (u : Unit {0}) (said : Said) (before after : Desk) (a b : KeeperSeen) → Rests a → query_of bytes ≡ asked
    → ServesDatagram asked (Ok u) (message_of bytes) before after said a b → DhcpAsks asked (message_of bytes) a b
    → Handled (Datagram Dhcp from bytes) Did said before after a b
datagram_handled from bytes (Some query) u said before after a b rests asks serves spent =
    subst (λ (d : Desk). Handled (Datagram Dhcp from bytes) Did said before d a b) (sym serves.0) (query_handled from bytes query said before a b rests asks serves.1 spent)
datagram_handled from bytes None u said before after a b rests asks serves spent = message_handled from bytes said before after a b asks serves spent

pub datagram_failed : (from : Peer) (bytes : List ℕ) (asked : Option (List ℕ)) (err : KeepErr) (outcome : Outcome) (said other : Said) (before after : Desk) (a b : KeeperSeen) → Rests a → query_of bytes ≡ asked
    → ServesDatagram asked (Err err) (message_of bytes) before after other a b → DhcpAsks asked (message_of bytes) a b → FailsMessage err outcome said
    → Handled (Datagram Dhcp from bytes) outcome said before before a b
datagram_failed from bytes (Some query) err outcome said other before after a b rests asks serves spent is =
    undone_told from bytes err outcome said before a b (not_begun rests serves.1)
    (subst (λ (asked : Option (List ℕ)). DhcpAsks asked (message_of bytes) a b) (sym asks) spent) is
datagram_failed from bytes None err outcome said other before after a b rests asks serves spent is =
    message_failed from bytes err outcome said before a b asks serves spent is
