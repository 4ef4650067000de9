use Rattle.std.proofs.Common.{◌∙◌, subst}
use Rattle.off_tftp.specs.Opened.{IsBegun}
use Rattle.off_tftp.proofs.OpenLemmas.{signed_is_begun}
use Rattle.off_tftp.proofs.opening.grant_for.Goals as goal

pub returns-clause-built : goal.returns-clause-built
returns-clause-built c = λ v sited spells can.
    subst (IsBegun v c.args.request.now.at.0 c.args.request.now.from.ip) c.in-Some-signed.is
    (signed_is_begun v c.in-Some.site c.as_slice.result.now c.args.body c.args.request.now.at.0 c.args.request.now.from.ip c.signed.result (sited ∙ c.in-Some.is) c.as_slice.ensures.bytes
    c.signed.ensures.built spells can)
