use Rattle.std.proofs.Common.{◌==◌, ℕ, Some, None, Option, cond, sym, ap, ◌∙◌}
use Rattle.off_account_rules.specs.Rows.{passes}
use Rattle.off_runs.specs.Leases.{ground}
use Rattle.off_asking.specs.Choice.{provided}
use Rattle.off_query_rules.specs.Hubs.{lies_in_hub}
use Rattle.off_query.proofs.keeping.only_within.Goals as goal

pub returns : goal.returns
returns c = λ t keeps.
    c.within.ensures
    ∙ ap (λ (o : Option ℕ). cond (passes (λ other. other == c.args.hub) o) (Some c.in-Some.address) None) (c.hub_around.ensures (ground t) keeps)
    ∙ ap (provided (lies_in_hub t c.args.hub)) (sym c.in-Some.is)
