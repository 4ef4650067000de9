use Rattle.std.proofs.Common.{List, ap, ◌∙◌, vec_len}
use Rattle.off_runs.specs.Held.{PoolHeld, RunsHeld}
use Rattle.off_runs.proofs.EachLemmas.{none_changed}
use Rattle.off_runs.proofs.free_runs.FreeRuns.pass.Goals as goal

pub returns : goal.returns
returns c =
    let same = none_changed c.self.inside.pools.items c.pass_since.new.pools.items c.pass_since.ensures.each in
    ap (λ (ps : List PoolHeld). record { at = c.args.now.0; pools = ps; spare = vec_len c.self.inside.spare }) same
    ∙ ap (λ (h : RunsHeld). record h { at = c.args.now.0 }) c.self.view_is
