use Rattle.std.proofs.Common.{rules, ap, sym, ◌∙◌}
use Rattle.off_kept.specs.Entries.{is_of_files}
use Rattle.off_defs.specs.Tables.{key_written}
use Rattle.off_kept.proofs.ListLemmas.{none_more, one_found}
use Rattle.off_kept.proofs.forgetting.changes_files.Goals as goal

pub returns-then-is_of_files : goal.returns-then-is_of_files
returns-then-is_of_files c =
    sym
    (one_found (λ write. is_of_files (key_written write)) c.args.writes.now c.loop-place.place c.get.result.now c.get.ensures
    (ap is_of_files (sym c.key_of.ensures) ∙ sym c.is_of_files.ensures ∙ c.if-is_of_files.true))

pub loop-place-preserved : goal.loop-place-preserved
loop-place-preserved c = (
  none_more (λ write. is_of_files (key_written write)) c.args.writes.now c.loop-place.place c.get.result.now c.get.ensures (search rules)
      (ap is_of_files (sym c.key_of.ensures) ∙ sym c.is_of_files.ensures ∙ c.if-is_of_files.false),
  c.len-place-end.ensures,
)
