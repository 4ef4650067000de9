use Rattle.std.proofs.Common.{refl}
use Rattle.off_office.proofs.QueryLemmas.{datagram_handled, datagram_failed}
use Rattle.off_office.proofs.LeaseLemmas.{same_desk}
use Rattle.off_office.proofs.office.Office.take_message.Goals as goal

pub returns-in-Ok : goal.returns-in-Ok
returns-in-Ok g c =
    datagram_handled _ _ _ _ _ _ _ _ _ (g.met.K.Keeper.rests c.args.keeper.now) refl c.in-Ok.ensures.told c.serve_datagram.ensures.spent

pub returns-in-Err : goal.returns-in-Err
returns-in-Err g c =
    same_desk _ _ _ _ _ _ _ _ c.in-Err.ensures.same
    (datagram_failed _ _ _ _ _ _ _ _ _ _ _ (g.met.K.Keeper.rests c.args.keeper.now) refl c.in-Err.ensures.told c.serve_datagram.ensures.spent c.fail_message.ensures)
