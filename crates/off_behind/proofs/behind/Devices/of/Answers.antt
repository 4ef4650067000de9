use Rattle.std.proofs.Common.{arith}
use Rattle.off_outside.proofs.KeeperLemmas.{spent_none, spent_within}
use Rattle.off_behind.proofs.behind.Devices.of.Goals as goal

pub returns-in_err-buckets-clause-walks : goal.returns-in_err-buckets-clause-walks
returns-in_err-buckets-clause-walks g c = λ t told. spent_within (spent_none (g.K.Keeper.seen c.args.keeper.now)) (omega arith)
