use Rattle.off_tftp.proofs.OpenLemmas.{begun_of}
use Rattle.off_tftp.proofs.opening.begin.Goals as goal

pub returns : goal.returns
returns c =
    begun_of c.args.request.now c.args.site.now c.args.found.now c.in_ok-entry.entry c.in_ok-share.field-0 c.grant_for-grant.result c.start.result c.in_ok-entry.ensures
    c.in_ok-share.ensures c.start.ensures c.grant_for-grant.ensures.whose c.grant_for-grant.ensures.built
