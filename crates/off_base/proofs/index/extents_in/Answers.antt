use Rattle.std.proofs.Common.{true, refl, ap, sym, ◌∙◌, arith}
use Rattle.std.specs.Result.{result_err}
use Rattle.off_base.proofs.PartLemmas.{left_none, found_err}
use Rattle.off_base.proofs.ExtentLemmas.{all_front, all_on, few_first, few_on}
use Rattle.off_base.proofs.index.extents_in.Goals as goal

pub parts-init : goal.parts-init
parts-init c = (
  omega arith,
  ap result_err (left_none true c.args.options.now),
  refl,
  few_first,
  λ ok. all_front c.args.options.now ok,
)

pub parts-preserved : goal.parts-preserved
parts-preserved c =
    let found = c.in-Found.ensures in
    let inv = c.parts.invariant in (
      found.within,
      sym (found_err true c.args.options.now c.parts.at c.in-Found.code c.in-Found.place c.in-Found.len found) ∙ inv.1,
      omega (arith, c.extend.auto.extents, inv.2),
      rw c.extend.ensures (few_on c.parts.at c.in-Found.code c.in-Found.place c.in-Found.len c.parts.extents inv.2 inv.3 found.ahead),
      λ ok. rw c.extend.ensures (all_on c.args.options.now c.parts.at c.in-Found.code c.in-Found.place c.in-Found.len c.parts.extents inv.2 (inv.4 ok) found),
    )
