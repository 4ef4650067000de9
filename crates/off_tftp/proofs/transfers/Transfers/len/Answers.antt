use Rattle.std.proofs.Common.{arith}
use Rattle.off_tftp.proofs.EntryLemmas.{length_is}
use Rattle.off_tftp.proofs.transfers.Transfers.len.Goals as goal

pub returns-clause-count : goal.returns-clause-count
returns-clause-count c =
    length_is c.args.self.now c.self.inside.live.items c.len.result c.self.invariant.0 c.self.view_is (omega (arith, c.len.ensures, c.self.inside.live.ok.0))
