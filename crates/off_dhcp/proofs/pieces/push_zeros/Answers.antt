use Rattle.std.proofs.Common.{ℕ}
use Rattle.std.proofs.lemmas.List.{take-replicate}
use Rattle.off_dhcp.proofs.pieces.push_zeros.Goals as goal

pub returns : goal.returns
returns c = rw (take-replicate {X = ℕ} c.args.count 300 0 c.requires) at c.push_all.ensures.ok
