use Rattle.std.proofs.Common.{arith}
use Rattle.off_tftp.proofs.EntryLemmas.{room_kept}
use Rattle.off_tftp.proofs.transfers.Transfers.is_full.Goals as goal

pub returns : goal.returns
returns c = room_kept c.args.self.now c.self.inside.live.items c.len.result c.self.invariant.0 c.self.view_is (omega (arith, c.len.ensures, c.self.inside.live.ok.0))
