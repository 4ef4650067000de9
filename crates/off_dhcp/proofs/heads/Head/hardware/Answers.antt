use Rattle.std.proofs.Common.{arith}
use Rattle.off_dhcp.proofs.DatagramLemmas.{is_long}
use Rattle.off_dhcp.proofs.heads.Head.hardware.Goals as goal

pub slice_bounds-result-end : goal.slice_bounds-result-end
slice_bounds-result-end c = let sound = is_long c.self.inside.bytes.now c.self.invariant.0 in omega (arith, sound.long)
