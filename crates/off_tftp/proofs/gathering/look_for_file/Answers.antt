use Rattle.std.proofs.Common.{◌∙◌, sym}
use Rattle.off_outside.proofs.KeeperLemmas.{reads_then, reads_as}
use Rattle.off_tftp.specs.Seen.{view_at}
use Rattle.off_tftp.proofs.ReadLemmas.{is_named, shows_unnamed, shows_body, few_behind, few_seen_behind}
use Rattle.off_tftp.proofs.gathering.look_for_file.Goals as goal

pub returns-then-not-names_file-clause-told : goal.returns-then-not-names_file-clause-told
returns-then-not-names_file-clause-told g c =
    reads_as c.in_ok-seen.ensures.told
    (λ t seen right. shows_unnamed c.in_ok-seen.seen (view_at t c.args.request.now.hub c.args.request.now.from.ip) c.args.request.now.at.0 c.args.request.now.from.ip c.args.request.now.name.now c.in_ok-seen.ensures.bare seen (sym c.names_file.ensures ∙ c.if-not-names_file.true))

pub returns-clause-told : goal.returns-clause-told
returns-clause-told g c =
    reads_then c.in_ok-seen.ensures.told c.in_ok-body.ensures.told
    (λ t seen made right. shows_body t c.args.request.now.hub c.args.request.now.from.ip c.in_ok-seen.seen c.owner_by-owner.result c.in_ok-body.body c.args.request.now.at.0 c.args.request.now.name.now c.owner_by-owner.ensures seen
    (sym c.names_file.ensures ∙ c.if-not-names_file.false) (made right))

pub returns-in_err-body-clause-few : goal.returns-in_err-body-clause-few
returns-in_err-body-clause-few g c =
    few_behind c.args.request.now.hub c.args.request.now.from.ip c.args.kept.now c.in_ok-seen.seen c.owner_by-owner.result c.owner_by-owner.ensures c.in_ok-seen.ensures.told c.look.ensures.spent c.body_for.ensures.few

pub returns-clause-few : goal.returns-clause-few
returns-clause-few g c =
    few_behind c.args.request.now.hub c.args.request.now.from.ip c.args.kept.now c.in_ok-seen.seen c.owner_by-owner.result c.owner_by-owner.ensures c.in_ok-seen.ensures.told c.look.ensures.spent c.body_for.ensures.few

pub returns-clause-few_seen : goal.returns-clause-few_seen
returns-clause-few_seen g c =
    few_seen_behind c.args.kept.now c.in_ok-seen.seen c.owner_by-owner.result c.owner_by-owner.ensures c.look.ensures.spent c.body_for.ensures.few

pub returns-in_err-seen-clause-few_unnamed : goal.returns-in_err-seen-clause-few_unnamed
returns-in_err-seen-clause-few_unnamed g c = λ t told unnamed. c.look.ensures.spent

pub returns-then-not-names_file-clause-few_unnamed : goal.returns-then-not-names_file-clause-few_unnamed
returns-then-not-names_file-clause-few_unnamed g c = λ t told unnamed. c.look.ensures.spent

pub returns-in_err-body-clause-few_unnamed : goal.returns-in_err-body-clause-few_unnamed
returns-in_err-body-clause-few_unnamed g c = λ t told unnamed.
    is_named c.in_ok-seen.seen (view_at t c.args.request.now.hub c.args.request.now.from.ip) c.args.request.now.at.0 c.args.request.now.from.ip c.args.request.now.name.now (c.in_ok-seen.ensures.told.tables t told).1
    (sym c.names_file.ensures ∙ c.if-not-names_file.false) unnamed

pub returns-clause-few_unnamed : goal.returns-clause-few_unnamed
returns-clause-few_unnamed g c = λ t told unnamed.
    is_named c.in_ok-seen.seen (view_at t c.args.request.now.hub c.args.request.now.from.ip) c.args.request.now.at.0 c.args.request.now.from.ip c.args.request.now.name.now (c.in_ok-seen.ensures.told.tables t told).1
    (sym c.names_file.ensures ∙ c.if-not-names_file.false) unnamed
