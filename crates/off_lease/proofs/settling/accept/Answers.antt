use Rattle.std.proofs.Common.{◌∙◌, sym, ap}
use Rattle.off_base.specs.declared.addresses.Ip4.{Ip4}
use Rattle.std.specs.Prelude.{Option}
use Rattle.off_lease_rules.specs.Steps.{declines, releases}
use Rattle.off_lease.proofs.GrantLemmas.{as_made, offers_granted, acknowledges_granted, by_discover, by_request, by_decline, by_release}
use Rattle.off_lease.proofs.settling.accept.Goals as goal

pub returns-in-Discover : goal.returns-in-Discover
returns-in-Discover c =
    let m = c.args.m.now in
    let case = c.args.case.now in
    as_made _ _ _ c.offer.ensures
    (offers_granted c.args.now.0 m case c.args.chosen c.args.lease _ _ _ c.grant.ensures.site c.grant.ensures.pool c.grant.ensures.address
    ∙ sym (by_discover c.args.now.0 m case c.args.chosen c.args.lease c.in-Discover.ensures.discovers_is))

pub returns-in-Request : goal.returns-in-Request
returns-in-Request c =
    let m = c.args.m.now in
    let case = c.args.case.now in
    as_made _ _ _ c.acknowledge.ensures
    (acknowledges_granted c.args.now.0 m case c.args.chosen _ _ _ c.grant-in-Request.ensures.site c.grant-in-Request.ensures.pool c.grant-in-Request.ensures.address
    ∙ sym (by_request c.args.now.0 m case c.args.chosen c.args.lease c.in-Request.ensures.discovers_is c.in-Request.ensures.requests_is))

pub returns-in-Decline : goal.returns-in-Decline
returns-in-Decline c =
    let m = c.args.m.now in
    let k = c.in-Decline.ensures in
    as_made _ _ _ c.decline.ensures
    (ap (λ (o : Option Ip4). declines c.args.now.0 m o) (sym c.given_back.ensures)
    ∙ sym (by_decline c.args.now.0 m c.args.case.now c.args.chosen c.args.lease k.discovers_is k.requests_is k.declines_is))

pub returns-in-Release : goal.returns-in-Release
returns-in-Release c =
    let m = c.args.m.now in
    let k = c.in-Release.ensures in
    as_made _ _ _ c.release.ensures
    (ap (λ (o : Option Ip4). releases m o) (sym c.given_back-in-Release.ensures)
    ∙ sym (by_release c.args.now.0 m c.args.case.now c.args.chosen c.args.lease k.discovers_is k.requests_is k.declines_is))
