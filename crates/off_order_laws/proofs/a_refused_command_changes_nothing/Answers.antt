use Rattle.off_order_laws.proofs.StepLaws.{refused_changes_nothing}
use Rattle.off_order_laws.proofs.a_refused_command_changes_nothing.Goals as goal

pub returns : goal.returns
returns c = refused_changes_nothing
