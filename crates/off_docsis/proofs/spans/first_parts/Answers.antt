use Rattle.std.proofs.Common.{refl, arith, ap, length}
use Rattle.off_base.specs.Parts.{parts_in}
use Rattle.off_docsis.proofs.SpanLemmas.{no_part_yet}
use Rattle.off_docsis.proofs.spans.first_parts.Goals as goal

pub parts-init : goal.parts-init
unfolding parts_in
parts-init c = (refl, omega arith, λ _. (refl, refl), λ _. (refl, refl), λ _. (refl, refl), no_part_yet _)

pub overflow_add-place : goal.overflow_add-place
overflow_add-place c = omega (arith, c.len-len.ensures, c.in-Found.ensures.found.within, ap length c.parts.invariant.0)

pub overflow_add-at : goal.overflow_add-at
overflow_add-at c = omega (arith, c.len-len.ensures, c.in-Found.ensures.found.within, ap length c.parts.invariant.0)

pub overflow_add-at-in-Found : goal.overflow_add-at-in-Found
overflow_add-at-in-Found c = omega (arith, c.len-len.ensures, c.in-Found.ensures.found.within, ap length c.parts.invariant.0)
