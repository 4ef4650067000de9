use Rattle.std.proofs.Common.{subst}
use Rattle.off_outside.specs.KeeperCalls.{Reads}
use Rattle.off_opening.specs.declared.opening.Opening.{Opening}
use Rattle.off_opening.specs.Standing.{OpensAs}
use Rattle.off_office.proofs.OpeningLemmas.{opened}
use Rattle.off_office.proofs.office.Office.start.Goals as goal

pub returns-in-Open-clause-told : goal.returns-in-Open-clause-told
returns-in-Open-clause-told g c =
    opened c.found.result c.in-Open.counts c.in-Open.users _ (g.met.K.Keeper.rests c.args.keeper.now)
    (subst (λ (o : Opening). Reads (λ t. OpensAs t o) (g.K.Keeper.seen c.args.keeper.now) (g.K.Keeper.seen c.open_tables.new.keeper)) c.in-Open.is c.in_ok-counts.ensures.told)
    c.found.ensures.told
