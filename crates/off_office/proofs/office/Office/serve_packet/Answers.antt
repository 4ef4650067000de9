use Rattle.std.proofs.Common.{refl}
use Rattle.off_office.specs.contracts.office.Office.{the_view}
use Rattle.off_office.proofs.TransferLemmas.{packet_told, packet_moves, packet_says, packet_stays, packet_few, unmoved_few}
use Rattle.off_office.proofs.office.Office.serve_packet.Goals as goal

pub returns-in-Ok-clause-told : goal.returns-in-Ok-clause-told
returns-in-Ok-clause-told g c =
    packet_told c.carry_packet.result _ (the_view c.self.inside) c.args.self.now c.carry_packet.new.self c.carry_packet.new.out c.in-Ok.decision _ _ c.self.view_is refl
    c.hub_around.ensures c.in-Ok.ensures.told c.carry_packet.ensures.carried

pub returns-in-Ok-clause-moves : goal.returns-in-Ok-clause-moves
returns-in-Ok-clause-moves g c =
    packet_moves c.carry_packet.result c.args.from c.args.self.now c.carry_packet.new.self c.carry_packet.new.out c.in-Ok.decision c.carry_packet.ensures.carried

pub returns-in-Ok-clause-says : goal.returns-in-Ok-clause-says
returns-in-Ok-clause-says g c =
    packet_says c.carry_packet.result c.args.from c.args.self.now c.carry_packet.new.self c.carry_packet.new.out c.in-Ok.decision c.carry_packet.ensures.carried

pub returns-in-Ok-clause-kept : goal.returns-in-Ok-clause-kept
returns-in-Ok-clause-kept g c =
    packet_stays c.carry_packet.result c.args.from c.args.self.now c.carry_packet.new.self c.carry_packet.new.out c.in-Ok.decision c.carry_packet.ensures.carried

pub returns-in-Ok-clause-few : goal.returns-in-Ok-clause-few
returns-in-Ok-clause-few g c =
    packet_few c.carry_packet.result (record { from = c.args.from; hub = c.hub_around.result; at = c.self.inside.now; bytes = c.args.bytes }) (the_view c.self.inside) c.args.self.now c.carry_packet.new.self c.carry_packet.new.out c.in-Ok.decision _ _ c.self.view_is refl
    c.carry_packet.ensures.carried c.on_datagram.ensures.few c.on_datagram.ensures.few_before c.in-Ok.ensures.few_begun c.on_datagram.ensures.unasked c.in-Ok.ensures.remembers c.in-Ok.ensures.sees_begun

pub returns-in-Err-clause-few : goal.returns-in-Err-clause-few
returns-in-Err-clause-few g c =
    unmoved_few c.args.from c.args.bytes.now (the_view c.self.inside) c.args.self.now _ _ c.self.view_is c.on_datagram.ensures.few c.on_datagram.ensures.few_before c.on_datagram.ensures.unasked
