use Rattle.std.proofs.lemmas.Result.{err_from_is_err_and}
use Rattle.off_keepsql.proofs.OverLemmas.{uncommitted_over}
use Rattle.off_keepsql.proofs.CallLemmas.{read_counted, commit_done}
use Rattle.off_keepsql.proofs.sql_keeper.SqlKeeperKeeper.commit.Goals as goal

pub returns-in_err-commit-clause-told : goal.returns-in_err-commit-clause-told
returns-in_err-commit-clause-told g c =
    let p = err_from_is_err_and c.from_residual-in_err-commit.result c.from_residual-in_err-commit.ensures.1 in
    rw (p.1, p.2) (uncommitted_over c.args.writes.now c.in_err-commit.ensures.told
    (read_counted c.args.self.now.counts c.count_call.new.self c.spell_all.new.own c.count_call.ensures.after c.in_ok-spelled.ensures.2))

pub returns-clause-told : goal.returns-clause-told
returns-clause-told g c =
    commit_done c.args.writes.now c.args.self.now.counts c.count_call.new.self c.spell_all.new.own c.in_ok-spelled.spelled c.count_commit.new.self
    c.count_call.ensures.after c.in_ok-spelled.ensures c.in_ok-commit.ensures.told c.count_commit.ensures
