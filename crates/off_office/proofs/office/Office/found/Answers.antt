use Rattle.std.proofs.Common.{subst}
use Rattle.std.proofs.lemmas.Result.{err_from_is_err_and}
use Rattle.off_account_rules.specs.declared.counts.Counts.{Counts}
use Rattle.off_outside.proofs.KeeperLemmas.{reads_then}
use Rattle.off_office.specs.Conditions.{Follows, any_tables}
use Rattle.off_office.proofs.OpeningLemmas.{founded, not_done, not_started_then, not_migrated, founding_calls}
use Rattle.off_office.proofs.office.Office.found.Goals as goal

pub returns-in_err-writes-clause-told : goal.returns-in_err-writes-clause-told
returns-in_err-writes-clause-told g c =
    let p = err_from_is_err_and c.from_residual.result c.from_residual.ensures.1 in
    rw (p.1, p.2) (not_done _ (g.met.K.Keeper.rests c.args.keeper.now) c.in_err-writes.ensures.told)

pub returns-in_err-office-clause-told : goal.returns-in_err-office-clause-told
returns-in_err-office-clause-told g c =
    let p = err_from_is_err_and c.from_residual-in_err-office.result c.from_residual-in_err-office.ensures.1 in
    rw (p.1, p.2) (not_started_then _ _ (g.met.K.Keeper.rests c.args.keeper.now) c.in_ok-writes.ensures.told c.in_err-office.ensures.told)

pub returns-in_err-settle-clause-told : goal.returns-in_err-settle-clause-told
returns-in_err-settle-clause-told g c =
    let p = err_from_is_err_and c.from_residual-in_err-settle.result c.from_residual-in_err-settle.ensures.1 in
    rw (p.1, p.2)
    (not_migrated _ c.in_ok-writes.writes (g.met.K.Keeper.rests c.args.keeper.now)
    (reads_then c.in_ok-writes.ensures.told c.in_ok-office.ensures.told (λ t are begun. are)) c.in_err-settle.ensures.told)

pub returns-clause-told : goal.returns-clause-told
returns-clause-told g c =
    founded c.args.counts c.args.users c.in_ok-writes.writes c.in_ok-office.office c.settle.new.self (g.met.K.Keeper.rests c.args.keeper.now) c.in_ok-writes.ensures.told
    c.in_ok-office.ensures.told c.in_ok-settle.ensures.told
    (subst (λ (counts : Counts). Follows any_tables c.in_ok-office.office c.settle.new.self counts c.in_ok-writes.writes) c.counts_behind.ensures c.in_ok-settle.ensures.ok)

pub returns-clause-walks : goal.returns-clause-walks
returns-clause-walks g c = founding_calls c.in_ok-writes.writes c.in_ok-writes.ensures.counted c.in_ok-writes.ensures.told c.in_ok-office.ensures.walks c.in_ok-settle.ensures.spent
