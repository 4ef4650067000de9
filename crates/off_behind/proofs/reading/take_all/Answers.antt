use Rattle.std.proofs.Common.{◌∙◌, sym, arith}
use Rattle.off_defs.specs.declared.keys.Key.TheVariants as key
use Rattle.off_outside.proofs.KeeperLemmas.{reads_then, reads_none, reads_as}
use Rattle.off_runs.proofs.WalkLemmas.{walk_begins, walk_goes_on, walk_ends}
use Rattle.off_behind.proofs.ReadLemmas.{none_yet, all_taken, taken_more}
use Rattle.off_behind.proofs.reading.take_all.Goals as goal

pub walk-init : goal.walk-init
walk-init g c = record { read = reads_none (λ t. none_yet _ (key.DevicePool 4294967295) t (omega arith) c.requires.none); asked = walk_begins (key.DevicePool 4294967295) (g.K.Keeper.seen c.args.keeper.now); len = c.requires.len }

pub returns-in_default-clause-told : goal.returns-in_default-clause-told
returns-in_default-clause-told g c =
    reads_then c.walk.invariant.read c.in_ok-key.ensures.told (λ t so_far next. all_taken _ c.walk.place t so_far (sym c.in_default.is ∙ next))

pub walk-preserved : goal.walk-preserved
walk-preserved g c = record {
  read =
      reads_then c.walk.invariant.read c.in_ok-key.ensures.told (λ t so_far next.
      taken_more _ _ c.walk.place (c.in-Some.key, c.in-Some.row) t so_far (sym c.in-Some.is ∙ next) c.in_ok-take_row.ensures.taken);
  asked =
      walk_goes_on c.walk.place (c.in-Some.key, c.in-Some.row) c.walk.invariant.asked c.walk.invariant.read
      (reads_as c.in_ok-key.ensures.told (λ t next. sym c.in-Some.is ∙ next)) c.in_ok-key.ensures.counted;
  len = c.in_ok-take_row.ensures.len ∙ c.walk.invariant.len;
}

pub returns-in_default-clause-walks : goal.returns-in_default-clause-walks
returns-in_default-clause-walks g c = walk_ends c.walk.place c.walk.invariant.asked c.in_ok-key.ensures.counted

pub returns-in_err-key-clause-walks : goal.returns-in_err-key-clause-walks
returns-in_err-key-clause-walks g c = walk_ends c.walk.place c.walk.invariant.asked c.in_err-key.ensures.counted

pub returns-in_err-take_row-clause-walks : goal.returns-in_err-take_row-clause-walks
returns-in_err-take_row-clause-walks g c = walk_ends c.walk.place c.walk.invariant.asked c.in_ok-key.ensures.counted
