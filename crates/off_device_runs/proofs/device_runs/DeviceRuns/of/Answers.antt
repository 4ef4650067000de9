use Rattle.std.proofs.Common.{List, None, sym, subst, ◌∙◌}
use Rattle.off_defs.specs.declared.writes.Write.{Write}
use Rattle.off_outside.proofs.KeeperLemmas.{reads_as}
use Rattle.off_runs.specs.Leases.{Moves}
use Rattle.off_runs.specs.Reading.{no_ground}
use Rattle.off_runs.proofs.ReadLemmas.{none_kept}
use Rattle.off_device_runs.specs.Ground.{device_ground}
use Rattle.off_device_runs.proofs.ReadLemmas.{rows_move}
use Rattle.off_device_runs.proofs.device_runs.DeviceRuns.of.Goals as goal

pub returns-clause-told : goal.returns-clause-told
returns-clause-told g c =
    reads_as c.in_ok-taken.ensures.told (λ t are. record {
      moment = c.apply.ensures.at ∙ c.ready.ensures.at ∙ c.new-runs.ensures.at;
      keeps =
          c.apply.ensures.keeps no_ground (device_ground t) (λ n. None) (subst (λ (ws : List Write). Moves ws (λ n. None) no_ground (device_ground t)) (sym are) (rows_move t))
          (none_kept c.ready.new.self.pools (c.ready.ensures.pools ∙ c.new-runs.ensures.pools));
    })
