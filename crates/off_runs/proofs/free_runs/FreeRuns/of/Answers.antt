use Rattle.std.proofs.Common.{List, None, sym, subst, ◌∙◌}
use Rattle.off_defs.specs.declared.writes.Write.{Write}
use Rattle.off_outside.proofs.KeeperLemmas.{reads_then}
use Rattle.off_runs.specs.Leases.{Moves}
use Rattle.off_runs.specs.Reading.{no_ground, bare_ground}
use Rattle.off_runs.proofs.ReadLemmas.{pools_move, none_kept}
use Rattle.off_runs.proofs.WalkLemmas.{walks_thrice, walks_first}
use Rattle.off_runs.proofs.free_runs.FreeRuns.of.Goals as goal

pub returns-clause-told : goal.returns-clause-told
returns-clause-told g c =
    reads_then c.in_ok-pools.ensures.told c.in_ok-take_rows_of.ensures.told (λ t are rest. record {
      moment = c.in_ok-take_rows_of.ensures.at ∙ c.apply.ensures.at ∙ c.ready.ensures.at ∙ c.new-runs.ensures.at;
      keeps = rest
          (c.apply.ensures.keeps no_ground (bare_ground t) (λ n. None) (subst (λ (ws : List Write). Moves ws (λ n. None) no_ground (bare_ground t)) (sym are) (pools_move t))
          (none_kept c.ready.new.self.pools (c.ready.ensures.pools ∙ c.new-runs.ensures.pools)));
    })

pub returns-clause-walks : goal.returns-clause-walks
returns-clause-walks g c = walks_thrice c.in_ok-pools.ensures.walks c.in_ok-pools.ensures.told c.in_ok-take_rows_of.ensures.walks

pub returns-in_err-pools-clause-walks : goal.returns-in_err-pools-clause-walks
returns-in_err-pools-clause-walks g c = walks_first c.in_err-pools.ensures.walks

pub returns-in_err-ready-clause-walks : goal.returns-in_err-ready-clause-walks
returns-in_err-ready-clause-walks g c = walks_first c.in_ok-pools.ensures.walks

pub returns-in_err-take_rows_of-clause-walks : goal.returns-in_err-take_rows_of-clause-walks
returns-in_err-take_rows_of-clause-walks g c = walks_thrice c.in_ok-pools.ensures.walks c.in_ok-pools.ensures.told c.in_err-take_rows_of.ensures.walks
