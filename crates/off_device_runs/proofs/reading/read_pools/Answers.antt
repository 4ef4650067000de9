use Rattle.std.proofs.Common.{◌++◌, ◌∙◌, Some, sym, arith}
use Rattle.std.proofs.lemmas.Bool.{ltb-true}
use Rattle.off_defs.specs.declared.keys.Key.TheVariants as key
use Rattle.off_rows.specs.KeyBytes.{kind_of}
use Rattle.off_outside.proofs.KeeperLemmas.{reads_as}
use Rattle.off_readers.proofs.GatherLemmas.{gathered_more, gathered_end, gathered_past}
use Rattle.off_runs.proofs.WalkLemmas.{walk_begins, walk_goes_on, walk_ends}
use Rattle.off_device_runs.specs.Reading.{pool_put, pools_put}
use Rattle.off_device_runs.proofs.ReadLemmas.{only_pools, none_yet}
use Rattle.off_device_runs.proofs.reading.read_pools.Goals as goal

pub walk-init : goal.walk-init
walk-init g c = record {
  read = none_yet only_pools c.args.taken.now (key.PoolHub 4294967295) _ (omega arith);
  asked = walk_begins (key.PoolHub 4294967295) (g.K.Keeper.seen c.args.keeper.now);
}

pub returns-in_default-clause-told : goal.returns-in_default-clause-told
returns-in_default-clause-told g c =
    gathered_end pool_put (λ t. c.args.taken.now ++ pools_put t) c.walk.taken (Some c.walk.place) c.walk.invariant.read
    (reads_as c.in_ok-key.ensures.told (λ t next. sym c.in_default.is ∙ next))

pub returns-then-is_past_device_pools-clause-told : goal.returns-then-is_past_device_pools-clause-told
returns-then-is_past_device_pools-clause-told g c =
    gathered_past 12 pool_put (λ t. c.args.taken.now ++ pools_put t) c.walk.taken (Some c.walk.place) (c.in-Some.key, c.in-Some.row) only_pools
    (ltb-true 12 (kind_of c.in-Some.key) (sym c.is_past_device_pools.ensures ∙ c.if-is_past_device_pools.true)) c.walk.invariant.read
    (reads_as c.in_ok-key.ensures.told (λ t next. sym c.in-Some.is ∙ next))

pub walk-preserved : goal.walk-preserved
walk-preserved g c = record {
  read =
      gathered_more pool_put (λ t. c.args.taken.now ++ pools_put t) c.walk.taken c.push_pool.new.taken (Some c.walk.place) (c.in-Some.key, c.in-Some.row) c.walk.invariant.read
      (reads_as c.in_ok-key.ensures.told (λ t next. sym c.in-Some.is ∙ next)) c.in_ok-push_pool.ensures;
  asked =
      walk_goes_on c.walk.place (c.in-Some.key, c.in-Some.row) c.walk.invariant.asked c.walk.invariant.read
      (reads_as c.in_ok-key.ensures.told (λ t next. sym c.in-Some.is ∙ next)) c.in_ok-key.ensures.counted;
}

pub returns-in_default-clause-walks : goal.returns-in_default-clause-walks
returns-in_default-clause-walks g c = walk_ends c.walk.place c.walk.invariant.asked c.in_ok-key.ensures.counted

pub returns-then-is_past_device_pools-clause-walks : goal.returns-then-is_past_device_pools-clause-walks
returns-then-is_past_device_pools-clause-walks g c = walk_ends c.walk.place c.walk.invariant.asked c.in_ok-key.ensures.counted

pub returns-in_err-key-clause-walks : goal.returns-in_err-key-clause-walks
returns-in_err-key-clause-walks g c = walk_ends c.walk.place c.walk.invariant.asked c.in_err-key.ensures.counted

pub returns-in_err-push_pool-clause-walks : goal.returns-in_err-push_pool-clause-walks
returns-in_err-push_pool-clause-walks g c = walk_ends c.walk.place c.walk.invariant.asked c.in_ok-key.ensures.counted
