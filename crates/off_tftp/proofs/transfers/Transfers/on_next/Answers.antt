use Rattle.std.proofs.Common.{sym, ◌∙◌}
use Rattle.std.specs.FinMap as map
use Rattle.off_tftp.specs.Seen.{view_at, view_of}
use Rattle.off_tftp.proofs.DoesLemmas.{looks_settled, looks_at_once, if_settled, next_remembered, next_looked, remembers_still, remembers_seen}
use Rattle.off_tftp.proofs.transfers.Transfers.on_next.Goals as goal

pub returns-then-is_remembered-clause-told : goal.returns-then-is_remembered-clause-told
returns-then-is_remembered-clause-told g c =
    looks_at_once _ c.go_on_by.result c.settled.result _ c.settled.ensures
    (λ t. let v = view_at t c.args.datagram.now.hub c.args.datagram.now.from.ip in
    next_remembered c.args.datagram.now.at.0 c.args.self.now c.args.datagram.now.from c.args.datagram.now.bytes.now v c.args.datagram.now.from.ip c.args.agreements.now (map.get c.args.self.now c.args.datagram.now.from) c.go_on_by.result
    (sym c.is_remembered.ensures.remembered ∙ c.if-is_remembered.true) c.requires.more (c.go_on_by.ensures.done v c.args.datagram.now.at.0 c.args.datagram.now.bytes.now) c.go_on_by.ensures.agreed)

pub returns-clause-told : goal.returns-clause-told
returns-clause-told g c =
    looks_settled c.go_on_or_break.result c.settled-2.result _ c.settled-2.ensures c.in_ok-seen.ensures.told
    (λ t seen. next_looked c.args.datagram.now.at.0 c.args.self.now c.args.datagram.now.from c.args.datagram.now.bytes.now (view_at t c.args.datagram.now.hub c.args.datagram.now.from.ip) (view_of c.in_ok-seen.seen) c.args.datagram.now.from.ip c.args.agreements.now (map.get c.args.self.now c.args.datagram.now.from) c.go_on_or_break.result seen
    (c.go_on_or_break.ensures.done c.args.datagram.now.bytes.now) c.go_on_or_break.ensures.agreed)

pub returns-then-is_remembered-clause-remembers : goal.returns-then-is_remembered-clause-remembers
returns-then-is_remembered-clause-remembers g c =
    if_settled c.go_on_by.result c.settled.result _ c.settled.ensures
    (remembers_still c.args.datagram.now.at.0 c.args.datagram.now.from (map.get c.args.self.now c.args.datagram.now.from) c.args.agreements.now c.go_on_by.result (sym c.is_remembered.ensures.remembered ∙ c.if-is_remembered.true) c.go_on_by.ensures.agreed)

pub returns-clause-remembers : goal.returns-clause-remembers
returns-clause-remembers g c =
    if_settled c.go_on_or_break.result c.settled-2.result _ c.settled-2.ensures
    (remembers_seen c.args.datagram.now.at.0 c.args.datagram.now.from (map.get c.args.self.now c.args.datagram.now.from) c.args.agreements.now c.go_on_or_break.result c.is_remembered.ensures.wide c.go_on_or_break.ensures.seen)
