use Rattle.off_transfer_laws.proofs.OriginLemmas.{each_has_an_origin}
use Rattle.off_transfer_laws.proofs.laws.each_transfer_has_an_origin.Goals as goal

pub returns : goal.returns
returns c = each_has_an_origin
