use Rattle.std.proofs.Common.{List, sym, subst}
use Rattle.off_defs.specs.declared.writes.Write.{Write}
use Rattle.off_defs.specs.Tables.{write_all}
use Rattle.off_account_rules.specs.Rows.{device_pool_in}
use Rattle.off_runs.specs.Held.{RunsHeld, KeepsPools}
use Rattle.off_runs.specs.Leases.{Moves}
use Rattle.off_device_runs.specs.Ground.{device_ground}
use Rattle.off_device_runs.proofs.SeenLemmas.{moves}
use Rattle.off_device_runs.proofs.device_runs.DeviceRuns.apply.Goals as goal

pub returns-clause-tables : goal.returns-clause-tables
returns-clause-tables c = λ t writes is opens s.
    c.apply.ensures.keeps (device_ground t) (device_ground (write_all t writes)) (device_pool_in t)
    (subst (λ (ws : List Write). Moves ws (device_pool_in t) (device_ground t) (device_ground (write_all t writes))) (sym is) (moves t opens writes))
    (subst (λ (k : RunsHeld). KeepsPools k.pools (device_ground t)) (sym c.self.view_is) s)
