use Rattle.off_tree.specs.declared.tables.Kind.TheVariants.{Class}
use Rattle.off_tree.proofs.GoodLemmas.{answer_good}
use Rattle.off_tree.proofs.checking.check_class.Goals as goal

pub returns-clause-good : goal.returns-clause-good
returns-clause-good c = answer_good Class c.args.settings.now c.check.result c.check.ensures
