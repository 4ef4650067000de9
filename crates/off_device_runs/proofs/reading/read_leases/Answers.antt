use Rattle.std.proofs.Common.{◌++◌, ◌∙◌, Some, sym, arith}
use Rattle.off_defs.specs.declared.keys.Key.TheVariants as key
use Rattle.off_outside.proofs.KeeperLemmas.{reads_as}
use Rattle.off_readers.proofs.GatherLemmas.{gathered_more, gathered_end}
use Rattle.off_runs.proofs.WalkLemmas.{walk_begins, walk_goes_on, walk_ends}
use Rattle.off_device_runs.specs.Reading.{lease_put, leases_put}
use Rattle.off_device_runs.proofs.ReadLemmas.{only_leases, none_yet}
use Rattle.off_device_runs.proofs.reading.read_leases.Goals as goal

pub walk-init : goal.walk-init
walk-init g c = record {
  read = none_yet only_leases c.args.taken.now (key.DevicePool 4294967295) _ (omega arith);
  asked = walk_begins (key.DevicePool 4294967295) (g.K.Keeper.seen c.args.keeper.now);
}

pub returns-in_default-clause-told : goal.returns-in_default-clause-told
returns-in_default-clause-told g c =
    gathered_end lease_put (λ t. c.args.taken.now ++ leases_put t) c.walk.taken (Some c.walk.place) c.walk.invariant.read
    (reads_as c.in_ok-key.ensures.told (λ t next. sym c.in_default.is ∙ next))

pub walk-preserved : goal.walk-preserved
walk-preserved g c = record {
  read =
      gathered_more lease_put (λ t. c.args.taken.now ++ leases_put t) c.walk.taken c.push_lease.new.taken (Some c.walk.place) (c.in-Some.key, c.in-Some.row) c.walk.invariant.read
      (reads_as c.in_ok-key.ensures.told (λ t next. sym c.in-Some.is ∙ next)) c.in_ok-push_lease.ensures;
  asked =
      walk_goes_on c.walk.place (c.in-Some.key, c.in-Some.row) c.walk.invariant.asked c.walk.invariant.read
      (reads_as c.in_ok-key.ensures.told (λ t next. sym c.in-Some.is ∙ next)) c.in_ok-key.ensures.counted;
}

pub returns-in_default-clause-walks : goal.returns-in_default-clause-walks
returns-in_default-clause-walks g c = walk_ends c.walk.place c.walk.invariant.asked c.in_ok-key.ensures.counted

pub returns-in_err-key-clause-walks : goal.returns-in_err-key-clause-walks
returns-in_err-key-clause-walks g c = walk_ends c.walk.place c.walk.invariant.asked c.in_err-key.ensures.counted

pub returns-in_err-push_lease-clause-walks : goal.returns-in_err-push_lease-clause-walks
returns-in_err-push_lease-clause-walks g c = walk_ends c.walk.place c.walk.invariant.asked c.in_ok-key.ensures.counted
