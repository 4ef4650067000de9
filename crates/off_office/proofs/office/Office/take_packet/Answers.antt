use Rattle.off_office.proofs.TransferLemmas.{packet_handled, packet_failed}
use Rattle.off_office.proofs.office.Office.take_packet.Goals as goal

pub returns-in-Ok : goal.returns-in-Ok
returns-in-Ok g c =
    packet_handled _ _ _ _ _ _ _ (g.met.K.Keeper.rests c.args.keeper.now) c.in-Ok.ensures.told c.serve_packet.ensures.moves c.in-Ok.ensures.says c.serve_packet.ensures.spent c.serve_packet.ensures.few

pub returns-in-Err : goal.returns-in-Err
returns-in-Err g c =
    packet_failed _ _ _ _ _ _ _ _ _ (g.met.K.Keeper.rests c.args.keeper.now) c.in-Err.ensures.told c.serve_packet.ensures.spent c.serve_packet.ensures.few c.in-Err.ensures.kept
    c.fail_packet.ensures
