use Rattle.std.proofs.Common.{None, Some}
use Rattle.off_readers.proofs.GatherLemmas.{next_is, gathered_more, gathered_end}
use Rattle.off_opening.specs.Marks.{marks_of}
use Rattle.off_opening.proofs.MarkLemmas.{give_mark, no_marks_yet, no_calls_yet, walk_asks, one_mark_more}
use Rattle.off_opening.proofs.marks.read_marks.Goals as goal

pub walk-init : goal.walk-init
walk-init g c = record {
  read = no_marks_yet c.new-marks.result.items (g.K.Keeper.seen c.args.keeper.now) c.new-marks.ensures.items;
  calls = no_calls_yet c.new-marks.result.items (g.K.Keeper.seen c.args.keeper.now) c.new-marks.ensures.items;
}

pub returns-in_default-clause-told : goal.returns-in_default-clause-told
returns-in_default-clause-told g c =
    gathered_end give_mark marks_of c.walk.marks.items c.walk.place c.walk.invariant.read
    (next_is c.walk.place c.in_ok-entry.field-0 None c.in_ok-entry.ensures.told c.in_default.is)

pub returns-in_default-clause-walks : goal.returns-in_default-clause-walks
returns-in_default-clause-walks g c =
    walk_asks c.walk.marks.items c.walk.place c.walk.invariant.read c.walk.invariant.calls c.in_ok-entry.ensures.counted

pub walk-preserved : goal.walk-preserved
walk-preserved g c = record {
  read =
      gathered_more give_mark marks_of c.walk.marks.items c.keep_mark.new.marks.items c.walk.place c.in-Some.entry c.walk.invariant.read
      (next_is c.walk.place c.in_ok-entry.field-0 (Some c.in-Some.entry) c.in_ok-entry.ensures.told c.in-Some.is)
      c.in_ok-keep_mark.ensures.ok;
  calls = one_mark_more c.walk.marks.items c.keep_mark.new.marks.items _ c.walk.invariant.calls c.in_ok-entry.ensures.counted c.in_ok-keep_mark.ensures.ok;
}

pub returns-in_err-entry-clause-walks : goal.returns-in_err-entry-clause-walks
returns-in_err-entry-clause-walks g c =
    walk_asks c.walk.marks.items c.walk.place c.walk.invariant.read c.walk.invariant.calls c.in_err-entry.ensures.counted

pub returns-in_err-keep_mark-clause-walks : goal.returns-in_err-keep_mark-clause-walks
returns-in_err-keep_mark-clause-walks g c =
    walk_asks c.walk.marks.items c.walk.place c.walk.invariant.read c.walk.invariant.calls c.in_ok-entry.ensures.counted
