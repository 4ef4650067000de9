use Rattle.std.proofs.Common.{◌≡◌, Option, option_map, subst}
use Rattle.off_defs.specs.State.{Tables}
use Rattle.off_dhcp.specs.Datagram.{Received}
use Rattle.off_account_rules.specs.Rows.{devices}
use Rattle.off_outside.specs.KeeperCalls.{Looks}
use Rattle.off_behind.specs.Buckets.{Indexes}
use Rattle.off_runs.specs.Held.{StandsFor}
use Rattle.off_runs.specs.Leases.{ground}
use Rattle.off_device_runs.specs.Ground.{device_ground}
use Rattle.off_cpe_rules.specs.Steps.{device_step}
use Rattle.off_cpe_rules.specs.declared.results.DeviceStep.{DeviceStep}
use Rattle.off_cpe.specs.declared.answering.DeviceAnswer.{DeviceAnswer}
use Rattle.off_cpe.specs.Stages.{IsKnown}
use Rattle.off_readers.proofs.LooksLemmas.{looks_as}
use Rattle.off_cpe.proofs.answering.answer_read.Goals as goal

abbrev steps : Option DeviceAnswer → Option DeviceStep
steps answer = option_map (λ a. a.step) answer

pub returns : goal.returns
returns g c =
    let now = c.args.now.0 in
    let index = c.args.index.now in
    let pools = c.args.pools.now in
    let modems = c.args.modems.now in
    looks_as _ _ c.answer_by.result (λ (answer : Option DeviceAnswer) (t : Tables). IsKnown index pools modems now t → steps answer ≡ device_step t now c.args.m.now)
    (λ (answer : Option DeviceAnswer) (t : Tables). Indexes index (devices t) → StandsFor pools (device_ground t) now → StandsFor modems (ground t) now → steps answer ≡ device_step t now c.args.m.now)
    (subst (λ (r : Received). Looks c.answer_by.result (g.K.Keeper.seen c.args.keeper.now) (g.K.Keeper.seen c.answer_by.new.keeper)
    (λ (answer : Option DeviceAnswer) (t : Tables). IsKnown index pools modems now t → steps answer ≡ device_step t now r)) c.of.ensures c.answer_by.ensures.told)
    (λ answer t is leases free hubs. is (record { leases = leases; free = free; hubs = hubs }))
