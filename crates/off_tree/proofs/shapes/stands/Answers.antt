use Rattle.std.proofs.Common.{◌≡◌, ◌≢◌, sym, ◌∙◌, false, subst, List, ℕ}
use Rattle.off_base.specs.Tree.{code_of}
use Rattle.off_base.specs.Setting.{tree_of}
use Rattle.off_tree.specs.Fault.{contains}
use Rattle.off_tree.proofs.ShapeLemmas.{stands_at, codes_more, contains_push}
use Rattle.off_tree.proofs.shapes.stands.Goals as goal

pub returns-then-code_of-code : goal.returns-then-code_of-code
returns-then-code_of-code c =
    sym (stands_at c.args.settings.now c.loop-place.place c.args.end (tree_of c.get.result.now) c.args.code c.get.ensures c.loop-place-test.true (sym c.code_of.ensures ∙ c.if-code_of-code.true))

pub loop-place-preserved : goal.loop-place-preserved
loop-place-preserved c =
    let other : code_of (tree_of c.get.result.now) ≢ c.args.code = λ e. c.if-code_of-code.false (c.code_of.ensures ∙ e) in
    subst (λ (x : List ℕ). contains c.args.code x ≡ false) (sym (codes_more c.args.settings.now c.loop-place.place (tree_of c.get.result.now) c.get.ensures))
    (contains_push c.args.code _ (code_of (tree_of c.get.result.now)) c.loop-place.invariant other)
