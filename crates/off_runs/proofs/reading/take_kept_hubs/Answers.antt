use Rattle.std.proofs.Common.{◌∙◌, refl, sym, arith}
use Rattle.off_defs.specs.declared.keys.Key.TheVariants as key
use Rattle.off_outside.proofs.KeeperLemmas.{reads_as, reads_then, reads_none}
use Rattle.off_runs.specs.Leases.{HubsTaken}
use Rattle.off_runs.specs.Reading.{hub_put}
use Rattle.off_runs.proofs.LeaseLemmas.{no_hubs_taken}
use Rattle.off_runs.proofs.ReadLemmas.{only_hubs, hubs_then, none_yet, one_more, at_end, past_kind}
use Rattle.off_runs.proofs.WalkLemmas.{walk_begins, walk_goes_on, walk_ends}
use Rattle.off_runs.proofs.reading.take_kept_hubs.Goals as goal

pub walk-init : goal.walk-init
walk-init g c = record { read = reads_none (λ t. none_yet 11 hub_put only_hubs HubsTaken no_hubs_taken _ c.args.pools.now.items t (omega arith)); asked = walk_begins (key.Hub 4294967295) (g.K.Keeper.seen c.args.keeper.now); len = refl; capacity = refl }

pub returns-in_default-clause-told : goal.returns-in_default-clause-told
returns-in_default-clause-told g c =
    reads_then c.walk.invariant.read c.in_ok-key.ensures.told (λ t so_far next. at_end 11 hub_put only_hubs HubsTaken c.args.pools.now.items c.walk.pools.items c.walk.place t so_far (sym c.in_default.is ∙ next))

pub returns-then-is_past_hubs-clause-told : goal.returns-then-is_past_hubs-clause-told
returns-then-is_past_hubs-clause-told g c =
    reads_then c.walk.invariant.read c.in_ok-key.ensures.told (λ t so_far next.
    past_kind 11 hub_put only_hubs HubsTaken c.args.pools.now.items c.walk.pools.items c.walk.place (c.in-Some.key, c.in-Some.row) t so_far (sym c.in-Some.is ∙ next) (c.is_past_hubs.ensures c.if-is_past_hubs.true))

pub walk-preserved : goal.walk-preserved
walk-preserved g c = record {
  read =
      reads_then c.walk.invariant.read c.in_ok-key.ensures.told (λ t so_far next.
      one_more 11 hub_put only_hubs HubsTaken hubs_then c.args.pools.now.items c.walk.pools.items c.take_hub_row.new.pools.items c.walk.place (c.in-Some.key, c.in-Some.row) t so_far (sym c.in-Some.is ∙ next) c.take_hub_row.ensures.taken);
  asked =
      walk_goes_on c.walk.place (c.in-Some.key, c.in-Some.row) c.walk.invariant.asked c.walk.invariant.read
      (reads_as c.in_ok-key.ensures.told (λ t next. sym c.in-Some.is ∙ next)) c.in_ok-key.ensures.counted;
  len = c.take_hub_row.ensures.len ∙ c.walk.invariant.len;
  capacity = c.take_hub_row.ensures.capacity ∙ c.walk.invariant.capacity;
}

pub returns-in_default-clause-walks : goal.returns-in_default-clause-walks
returns-in_default-clause-walks g c = walk_ends c.walk.place c.walk.invariant.asked c.in_ok-key.ensures.counted

pub returns-then-is_past_hubs-clause-walks : goal.returns-then-is_past_hubs-clause-walks
returns-then-is_past_hubs-clause-walks g c = walk_ends c.walk.place c.walk.invariant.asked c.in_ok-key.ensures.counted

pub returns-in_err-key-clause-walks : goal.returns-in_err-key-clause-walks
returns-in_err-key-clause-walks g c = walk_ends c.walk.place c.walk.invariant.asked c.in_err-key.ensures.counted
