use Rattle.off_tree.specs.declared.tables.Kind.TheVariants.{AddOn}
use Rattle.off_tree.proofs.GoodLemmas.{answer_good}
use Rattle.off_tree.proofs.checking.check_addon.Goals as goal

pub returns-clause-good : goal.returns-clause-good
returns-clause-good c = answer_good AddOn c.args.settings.now c.check.result c.check.ensures
