use Rattle.std.proofs.Common.{◌≡◌, false, ap, sym, subst}
use Rattle.std.specs.FinMap as map
use Rattle.off_tftp.specs.declared.deciding.Change.{Change}
use Rattle.off_tftp.specs.declared.deciding.Decision.{Decision}
use Rattle.off_tftp.specs.Deciding.{CanBe, goes_on, after_change}
use Rattle.off_tftp.specs.Keeping.{BeginsFor}
use Rattle.off_tftp.specs.Seen.{view_of, held_by}
use Rattle.off_tftp.proofs.OpenLemmas.{serves_seen, begun_sees}
use Rattle.off_tftp.proofs.transfers.Transfers.open_by.Goals as goal

pub returns-clause-done : goal.returns-clause-done
returns-clause-done c = λ profile entry serves.
    serves_seen _ _ _ _ _ _ c.in_ok-decision.decision c.with_seen.result c.with_seen.ensures.same (c.in_ok-decision.ensures.done profile entry serves)

pub returns-clause-able : goal.returns-clause-able
returns-clause-able c =
    subst (λ (change : Change). CanBe change c.args.self.now c.args.request.now.from) (sym (ap (λ (d : Decision). d.change) c.with_seen.ensures.same)) c.in_ok-decision.ensures.able

pub returns-clause-ends : goal.returns-clause-ends
returns-clause-ends c =
    subst (λ (change : Change). goes_on change ≡ false) (sym (ap (λ (d : Decision). d.change) c.with_seen.ensures.same)) c.in_ok-decision.ensures.unseen.ends

pub returns-clause-sees_begun : goal.returns-clause-sees_begun
returns-clause-sees_begun c =
    begun_sees (view_of c.args.seen.now) c.args.request.now.at.0 c.args.request.now.from c.in_ok-decision.decision c.with_seen.result c.with_seen.ensures.same c.in_ok-decision.ensures.agrees c.with_seen.ensures.stands

pub returns-clause-begins : goal.returns-clause-begins
returns-clause-begins c = λ new.
    subst (λ (change : Change). BeginsFor (held_by c.args.request.now.at.0 c.args.seen.now.lease) c.args.request.now.bytes.now (map.get (after_change change c.args.request.now.at.0 c.args.self.now c.args.request.now.from) c.args.request.now.from))
    (sym (ap (λ (d : Decision). d.change) c.with_seen.ensures.same)) (c.in_ok-decision.ensures.begins new)
