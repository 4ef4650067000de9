-- Two hardware addresses are the same exactly where they are equal.
use Rattle.std.proofs.Common.{◌≡◌, Decides, ap}
use Rattle.std.specs.Cmp.Lexicographic.{bytes_decides}
use Rattle.off_base.specs.declared.macs.Mac.{Mac}
use Rattle.off_base.specs.Macs.{is_same_mac}

pub mac_decides : (a b : Mac) → Decides (is_same_mac a b) (a ≡ b)
mac_decides a b = ((λ t. ap (λ (x : _). record { 0 = x }) ((bytes_decides a.0 b.0).0 t)), λ e. (bytes_decides a.0 b.0).1 (ap (λ (m : Mac). m.0) e))
