use Rattle.std.proofs.Common.{arith}
use Rattle.off_dhcp.proofs.DatagramLemmas.{is_long}
use Rattle.off_dhcp.proofs.heads.Head.flags.Goals as goal

pub two_bytes-requires : goal.two_bytes-requires
two_bytes-requires c = let sound = is_long c.self.inside.bytes.now c.self.invariant.0 in omega (arith, sound.long)
