use Rattle.std.proofs.Common.{◌≡◌, rules, sym, ◌∙◌}
use Rattle.off_sqlcells.proofs.CallLemmas.{finished_tells, finish_refused}
use Rattle.off_sqlcells.proofs.writing.is_open.Goals as goal

pub returns-clause-kept : goal.returns-clause-kept
returns-clause-kept g c = λ steady.
    let final : c.conn-1.given.0 ≡ c.finish.new.work.0 = search rules in
    rw final (finished_tells g.S.Store c.args.conn.now c.finish.new.work.0 c.finish.result (rw c.transaction-work.ensures.begun at (c.finish.ensures.ended steady)))

pub returns-clause-shut : goal.returns-clause-shut
returns-clause-shut g c = λ steady shut.
    let final : c.conn-1.given.0 ≡ c.finish.new.work.0 = search rules in
    rw final (finish_refused _ _ c.finish.result (sym c.is_ok.ensures.value ∙ shut) (rw c.transaction-work.ensures.begun at (c.finish.ensures.ended steady)))
