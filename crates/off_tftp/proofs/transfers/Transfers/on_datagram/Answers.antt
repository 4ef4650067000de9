use Rattle.off_tftp.proofs.DoesLemmas.{own_answers, few_own}
use Rattle.off_tftp.proofs.transfers.Transfers.on_datagram.Goals as goal

pub returns-clause-told : goal.returns-clause-told
returns-clause-told g c = own_answers _ _ c.args.datagram.now c.args.self.now c.args.kept.now c.args.agreements.now c.decide.result c.decide.ensures.told

pub returns-clause-few_unnamed : goal.returns-clause-few_unnamed
returns-clause-few_unnamed g c = few_own c.args.datagram.now.at.0 c.args.datagram.now.hub c.args.datagram.now.from.ip c.args.datagram.now.bytes.now c.decide.ensures.few_unnamed
