use Rattle.std.proofs.Common.{◌∙◌}
use Rattle.std.proofs.lemmas.Result.{err_from_is_err_and}
use Rattle.off_keepsql.proofs.OverLemmas.{kept_over}
use Rattle.off_keepsql.proofs.CallLemmas.{called_counted, next_none, next_some, next_unread}
use Rattle.off_keepsql.proofs.sql_keeper.SqlKeeperKeeper.next.Goals as goal

pub returns-in_err-cell-clause-told : goal.returns-in_err-cell-clause-told
returns-in_err-cell-clause-told g c =
    let p = err_from_is_err_and c.from_residual.result c.from_residual.ensures.1 in
    rw (p.1, p.2) (kept_over c.in_err-cell.ensures.told (called_counted c.args.self.now.counts c.count_call.new.self c.count_call.ensures.after))

pub returns-in_default-clause-told : goal.returns-in_default-clause-told
returns-in_default-clause-told g c =
    next_none _ _ c.in_ok-cell.cell c.in_ok-cell.ensures.told (c.as_ref.ensures.value ∙ c.place_of-place.ensures.bytes) c.place_of-place.ensures.ranged c.in_default.is
    (called_counted c.args.self.now.counts c.count_call.new.self c.count_call.ensures.after)

pub returns-in_err-entry-clause-told : goal.returns-in_err-entry-clause-told
returns-in_err-entry-clause-told g c =
    let p = err_from_is_err_and c.from_residual-in_err-entry.result c.from_residual-in_err-entry.ensures.1 in
    rw (p.1, p.2) (next_unread _ c.args.self.now.counts c.count_call.new.self c.entry_of.new.own _ _ c.in_ok-cell.ensures.told
    c.count_call.ensures.after c.in_err-entry.ensures)

pub returns-clause-told : goal.returns-clause-told
returns-clause-told g c =
    next_some c.args.self.now.counts c.count_call.new.self c.entry_of.new.own _ _ (c.in-Some.ident, c.in-Some.val) _ c.in_ok-cell.cell c.in_ok-entry.entry
    c.in_ok-cell.ensures.told (c.as_ref.ensures.value ∙ c.place_of-place.ensures.bytes) c.place_of-place.ensures.ranged c.in-Some.is c.count_call.ensures.after c.in_ok-entry.ensures (cc) (cc)
