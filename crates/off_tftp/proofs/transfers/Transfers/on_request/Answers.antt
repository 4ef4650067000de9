use Rattle.std.proofs.Common.{◌∙◌, sym}
use Rattle.std.specs.FinMap as map
use Rattle.off_transfer_rules.specs.Transfers.{has_no_room}
use Rattle.off_tftp.specs.Seen.{view_at}
use Rattle.off_tftp.proofs.DoesLemmas.{looks_settled, looks_at_once, if_ok_as, if_ok_under, if_ok_both, if_settled, unseen_sees, bare_sees, shown_sees, repeat_serves, open_does, can_serve, few_settled}
use Rattle.off_tftp.specs.Deciding.{after_change}
use Rattle.off_tftp.specs.declared.deciding.Decision.{Decision}
use Rattle.off_tftp.proofs.ReadLemmas.{few_none}
use Rattle.off_tftp.proofs.transfers.Transfers.on_request.Goals as goal

pub returns-then-repeats-clause-told : goal.returns-then-repeats-clause-told
returns-then-repeats-clause-told g c =
    looks_at_once _ c.repeat.result c.settled.result _ c.settled.ensures
    (λ t. let v = view_at t c.args.request.now.hub c.args.request.now.from.ip in
    if_ok_as c.repeat.result _ _
    (if_ok_both c.repeat.result _ _
    (repeat_serves c.args.request.now.at.0 c.args.self.now c.args.request.now.from c.args.request.now.bytes.now v (has_no_room c.args.self.now) c.args.request.now.name.now c.args.request.now.options
    (map.get c.args.self.now c.args.request.now.from) c.repeat.result (sym c.repeats.ensures ∙ c.if-repeats.true) (c.repeat.ensures.done v c.args.request.now.at.0 c.args.request.now.bytes.now) c.repeat.ensures.bare)
    (unseen_sees v c.args.request.now.from.ip c.repeat.result c.repeat.ensures.unseen))
    (λ d served right. served))

pub returns-clause-told : goal.returns-clause-told
returns-clause-told g c =
    looks_settled c.open_by.result c.settled-2.result _ c.settled-2.ensures c.in_ok-seen.ensures.told
    (λ t shows. if_ok_under c.open_by.result _ (λ right.
    let v = view_at t c.args.request.now.hub c.args.request.now.from.ip in
    if_ok_both c.open_by.result _ _
    (open_does c.args.request.now.at.0 c.args.self.now c.args.request.now.from c.args.request.now.bytes.now v c.in_ok-seen.seen (has_no_room c.args.self.now)
    c.args.request.now.name.now c.args.request.now.options (map.get c.args.self.now c.args.request.now.from) c.open_by.result (sym c.repeats.ensures ∙ c.if-repeats.false) (shows right) (can_serve t c.args.request.now.hub c.args.request.now.at.0 c.args.request.now.from.ip) c.open_by.ensures.done)
    (shown_sees v c.in_ok-seen.seen c.args.request.now.at.0 c.args.request.now.from.ip c.args.request.now.name.now c.open_by.result (shows right) c.open_by.ensures.sees)))

pub returns-then-repeats-clause-few_unnamed : goal.returns-then-repeats-clause-few_unnamed
returns-then-repeats-clause-few_unnamed g c = λ t told unnamed. few_none _

pub returns-in_err-seen-clause-few_unnamed : goal.returns-in_err-seen-clause-few_unnamed
returns-in_err-seen-clause-few_unnamed g c = c.look_for_file.ensures.few_unnamed

pub returns-clause-few_unnamed : goal.returns-clause-few_unnamed
returns-clause-few_unnamed g c = c.look_for_file.ensures.few_unnamed

pub returns-clause-few_begun : goal.returns-clause-few_begun
returns-clause-few_begun g c =
    few_settled _ _ c.args.request.now.bytes.now c.args.kept.now c.args.request.now.at.0 c.in_ok-seen.seen.lease (λ (d : Decision). map.get (after_change d.change c.args.request.now.at.0 c.args.self.now c.args.request.now.from) c.args.request.now.from) c.open_by.result c.settled-2.result
    c.settled-2.ensures (c.open_by.ensures.begins (sym c.repeats.ensures ∙ c.if-repeats.false)) c.in_ok-seen.ensures.few_seen

pub returns-then-repeats-clause-ends : goal.returns-then-repeats-clause-ends
returns-then-repeats-clause-ends g c = if_settled c.repeat.result c.settled.result _ c.settled.ensures (if_ok_as c.repeat.result _ _ c.repeat.ensures.unseen (λ d unseen. unseen.ends))

pub returns-clause-ends : goal.returns-clause-ends
returns-clause-ends g c = if_settled c.open_by.result c.settled-2.result _ c.settled-2.ensures c.open_by.ensures.ends

pub returns-then-repeats-clause-sees_begun : goal.returns-then-repeats-clause-sees_begun
returns-then-repeats-clause-sees_begun g c = if_settled c.repeat.result c.settled.result _ c.settled.ensures (bare_sees c.args.request.now.at.0 c.args.request.now.from c.repeat.result c.repeat.ensures.bare)

pub returns-clause-sees_begun : goal.returns-clause-sees_begun
returns-clause-sees_begun g c = if_settled c.open_by.result c.settled-2.result _ c.settled-2.ensures c.open_by.ensures.sees_begun
