use Rattle.std.proofs.Common.{rules, refl, sym, ◌∙◌}
use Rattle.off_kept.specs.Entries.{is_written}
use Rattle.off_kept.proofs.TurnLemmas.{passed_none, passed_more, passed_all}
use Rattle.off_kept.proofs.WriteLemmas.{all_stay}
use Rattle.off_kept.proofs.forgetting.forget_written.Goals as goal

pub loop-passed-init : goal.loop-passed-init
loop-passed-init c = (passed_none (is_written c.args.writes.now) c.args.cache.now.entries, refl, c.len-passed-end.ensures.len)

pub loop-passed-preserved : goal.loop-passed-preserved
loop-passed-preserved c = (
  passed_more (is_written c.args.writes.now) c.args.cache.now.entries c.loop-passed.cache.entries c.turn.new.cache.entries c.loop-passed._passed c.loop-passed.invariant.0 (search rules)
      c.turn.ensures.turns,
  c.turn.ensures.cap ∙ c.loop-passed.invariant.1,
  c.len-passed-end.ensures.len,
)

pub returns-clause-entries : goal.returns-clause-entries
returns-clause-entries c =
    passed_all (is_written c.args.writes.now) c.args.cache.now.entries c.loop-passed.cache.entries c.loop-passed._passed c.loop-passed.invariant.0 (search rules)

pub returns-then-not-is_of_files-clause-entries : goal.returns-then-not-is_of_files-clause-entries
returns-then-not-is_of_files-clause-entries c = sym (all_stay c.args.writes.now c.args.cache.now.entries (sym c.changes_files-is_of_files.ensures ∙ search rules))
