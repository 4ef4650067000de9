use Rattle.std.proofs.Common.{◌≤◌, ℕ, length, take, subst, arith}
use Rattle.std.proofs.lemmas.List.{length-take}
use Rattle.std.proofs.lemmas.Str.{IsUtf8-had}
use Rattle.std.specs.Prelude.{IsUtf8}
use Rattle.off_keepmem.proofs.brief.Brief.text.Goals as goal

pub unreachable-requires : goal.unreachable-requires
unreachable-requires g c =
    let NotRead : ℕ → Type 0 = λ n. length (take n c.self.inside.bytes) ≤ 64 → IsUtf8 (take n c.self.inside.bytes) → ⊥ in
    let few : length (take c.self.inside.len c.self.inside.bytes) ≤ 64 = omega (arith, length-take c.self.inside.len c.self.inside.bytes, c.self.invariant.1) in
    subst NotRead c.from.ensures c.in_default.ensures.read few (IsUtf8-had _ c.self.invariant.2)
