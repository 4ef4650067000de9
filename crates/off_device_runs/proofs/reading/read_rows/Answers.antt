use Rattle.std.proofs.Common.{◌++◌, List, ap, ◌∙◌}
use Rattle.off_defs.specs.declared.writes.Write.{Write}
use Rattle.off_outside.proofs.KeeperLemmas.{reads_then}
use Rattle.off_runs.proofs.WalkLemmas.{walks_once, walks_twice}
use Rattle.off_device_runs.specs.Reading.{pools_put, leases_put}
use Rattle.off_device_runs.proofs.reading.read_rows.Goals as goal

pub returns-clause-told : goal.returns-clause-told
returns-clause-told g c =
    reads_then c.in_ok-read_pools.ensures.told c.in_ok-read_leases.ensures.told (λ t pools leases.
    leases
    ∙ ap (λ (v : List Write). v ++ leases_put t) pools
    ∙ ap (λ (v : List Write). (v ++ pools_put t) ++ leases_put t) c.new-taken.ensures)

pub returns-clause-walks : goal.returns-clause-walks
returns-clause-walks g c = walks_twice c.in_ok-read_pools.ensures.walks c.in_ok-read_pools.ensures.told c.in_ok-read_leases.ensures.walks

pub returns-in_err-read_pools-clause-walks : goal.returns-in_err-read_pools-clause-walks
returns-in_err-read_pools-clause-walks g c = walks_once c.in_err-read_pools.ensures.walks

pub returns-in_err-read_leases-clause-walks : goal.returns-in_err-read_leases-clause-walks
returns-in_err-read_leases-clause-walks g c = walks_twice c.in_ok-read_pools.ensures.walks c.in_ok-read_pools.ensures.told c.in_err-read_leases.ensures.walks
