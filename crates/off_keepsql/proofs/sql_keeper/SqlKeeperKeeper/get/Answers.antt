use Rattle.std.proofs.lemmas.Result.{err_from_is_err_and}
use Rattle.off_keepsql.proofs.OverLemmas.{kept_over}
use Rattle.off_keepsql.proofs.CallLemmas.{called_counted, get_none, get_some, get_unread, own_some}
use Rattle.off_keepsql.proofs.sql_keeper.SqlKeeperKeeper.get.Goals as goal

pub returns-in_err-val-clause-told : goal.returns-in_err-val-clause-told
returns-in_err-val-clause-told g c =
    let p = err_from_is_err_and c.from_residual.result c.from_residual.ensures.1 in
    rw (p.1, p.2) (kept_over c.in_err-val.ensures.told (called_counted c.args.self.now.counts c.count_call.new.self c.count_call.ensures.after))

pub returns-in_default-clause-told : goal.returns-in_default-clause-told
returns-in_default-clause-told g c =
    get_none c.args.key.now c.encode_key-ident.result c.in_ok-val.val c.in_ok-val.ensures.told c.encode_key-ident.ensures.bytes c.encode_key-ident.ensures.ranged c.in_default.is
    (called_counted c.args.self.now.counts c.count_call.new.self c.count_call.ensures.after)

pub returns-in_err-row-clause-told : goal.returns-in_err-row-clause-told
returns-in_err-row-clause-told g c =
    let p = err_from_is_err_and c.from_residual-in_err-row.result c.from_residual-in_err-row.ensures.1 in
    rw (p.1, p.2) (get_unread _ c.args.self.now.counts c.count_call.new.self c.row_of.new.own c.args.key.now c.as_slice.result.now _ c.in_ok-val.ensures.told
    c.count_call.ensures.after c.in_err-row.ensures)

pub returns-clause-told : goal.returns-clause-told
returns-clause-told g c =
    get_some c.args.self.now.counts c.count_call.new.self c.row_of.new.own c.args.key.now c.encode_key-ident.result c.in-Some.val c.as_slice.result.now c.in_ok-val.val c.in_ok-row.row
    c.in_ok-val.ensures.told c.encode_key-ident.ensures.bytes c.encode_key-ident.ensures.ranged c.in-Some.is c.as_slice.ensures c.count_call.ensures.after c.in_ok-row.ensures

pub returns-clause-own : goal.returns-clause-own
returns-clause-own g c = λ m told.
    own_some m c.args.self.now.counts c.count_call.new.self c.row_of.new.own c.args.key.now c.encode_key-ident.result c.in-Some.val c.as_slice.result.now c.in_ok-val.val c.in_ok-row.row
    (c.in_ok-val.ensures.told.cells m told).1 c.encode_key-ident.ensures.bytes c.encode_key-ident.ensures.ranged c.in-Some.is c.as_slice.ensures c.count_call.ensures.after c.in_ok-row.ensures
