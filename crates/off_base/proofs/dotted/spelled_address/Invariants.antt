use Rattle.std.proofs.Common.{◌≡◌, ◌<◌, drop}
use Rattle.off_base.specs.Dotted.{dotted_value}
use Rattle.off_base.proofs.dotted.spelled_address.Given as goal

abbrev pub invariant-loop-byte : goal.invariant-loop-byte
invariant-loop-byte l = (dotted_value l.whole l.last (drop l.byte-index l.text) ≡ dotted_value 0 0 l.text) × (l.last < 256)
