use Rattle.std.proofs.Common.{◌≡◌, Ok, Err, ap, ◌∙◌, refl, sym, subst}
use Rattle.std.specs.FinMap as map
use Rattle.off_packets.specs.Packets.{Reads, Writes, Acknowledges, GivesUp, IsOther, packet_of, meant_by}
use Rattle.off_transfer_rules.specs.Steps.{access_violation, illegal_operation, octet_only}
use Rattle.off_packets.specs.declared.packets.Packet.{Packet}
use Rattle.off_packets.specs.declared.faults.PacketFault.{PacketFault}
use Rattle.off_packets.specs.declared.faults.PacketFault.TheVariants as fault
use Rattle.off_outside.proofs.KeeperLemmas.{reads_none}
use Rattle.off_tftp.specs.Calls.{asks_by_name}
use Rattle.off_packets.specs.Pieces.{AsksEnough}
use Rattle.off_tftp.specs.Seen.{view_at}
use Rattle.off_tftp.proofs.ReadLemmas.{acknowledgement_few, few_none}
use Rattle.off_tftp.proofs.DoesLemmas.{looks_as, looks_at_once, if_ok_as, if_settled, decides_by, deny_decides, leave_decides, judged, judged_both, refused_unseen, refused_sees, bare_sees, unseen_remembers, ended_remembers, not_asked, acknowledged_looks}
use Rattle.off_tftp.proofs.transfers.Transfers.decide.Goals as goal

pub on_request-requires-clause-least : goal.on_request-requires-clause-least
on_request-requires-clause-least g c = subst AsksEnough c.in-Ok-Read.field-0-is c.in-Ok-Read.ensures.least

pub on_request-requires-clause-read : goal.on_request-requires-clause-read
on_request-requires-clause-read g c = c.in-Ok-Read.ensures.exact ∙ ap (λ (p : Packet). Ok (meant_by p)) c.in-Ok-Read.field-0-is

pub returns-in-Ok-Read-clause-told : goal.returns-in-Ok-Read-clause-told
returns-in-Ok-Read-clause-told g c =
    let is : packet_of c.args.datagram.now.bytes.now ≡ Ok (Reads c.in-Ok-Read.name.now c.in-Ok-Read.options) = c.in-Ok-Read.ensures.exact ∙ ap (λ (p : Packet). Ok (meant_by p)) c.in-Ok-Read.field-0-is in
    judged_both _ _ c.args.datagram.now.at.0 c.args.self.now c.args.datagram.now.from c.args.datagram.now.bytes.now c.args.kept.now c.args.agreements.now (λ t. view_at t c.args.datagram.now.hub c.args.datagram.now.from.ip) c.on_request.result
    (looks_as _ _ c.on_request.result _ _ c.on_request.ensures.told
    (λ d t both right. let serves = both right in (decides_by c.args.datagram.now.at.0 c.args.self.now c.args.datagram.now.from c.args.datagram.now.bytes.now (view_at t c.args.datagram.now.hub c.args.datagram.now.from.ip) (Ok (Reads c.in-Ok-Read.name.now c.in-Ok-Read.options)) d is serves.0, serves.1)))

pub returns-in-Ok-Ack-clause-told : goal.returns-in-Ok-Ack-clause-told
returns-in-Ok-Ack-clause-told g c =
    let is : packet_of c.args.datagram.now.bytes.now ≡ Ok (Acknowledges c.in-Ok-Ack.number) = c.in-Ok-Ack.ensures.exact ∙ ap (λ (p : Packet). Ok (meant_by p)) c.in-Ok-Ack.field-0-is in
    acknowledged_looks _ _ c.args.datagram.now.at.0 c.args.self.now c.args.datagram.now.from c.args.datagram.now.bytes.now c.in-Ok-Ack.number c.args.kept.now c.args.agreements.now (λ t. view_at t c.args.datagram.now.hub c.args.datagram.now.from.ip) c.on_acknowledgement.result is c.on_acknowledgement.ensures.bare
    c.on_acknowledgement.ensures.told

pub returns-in-Ok-Error-clause-told : goal.returns-in-Ok-Error-clause-told
returns-in-Ok-Error-clause-told g c =
    let is : packet_of c.args.datagram.now.bytes.now ≡ Ok GivesUp = c.in-Ok-Error.ensures.exact ∙ ap (λ (p : Packet). Ok (meant_by p)) c.in-Ok-Error.field-0-is in
    reads_none (λ t right remembers. record { sees = tt; decides = leave_decides c.args.datagram.now.at.0 c.args.self.now c.args.datagram.now.from c.args.datagram.now.bytes.now (view_at t c.args.datagram.now.hub c.args.datagram.now.from.ip) c.find-place.result is })

pub returns-in-Ok-Write-clause-told : goal.returns-in-Ok-Write-clause-told
returns-in-Ok-Write-clause-told g c =
    let is : packet_of c.args.datagram.now.bytes.now ≡ Ok Writes = c.in-Ok-Write.ensures.exact ∙ ap (λ (p : Packet). Ok (meant_by p)) c.in-Ok-Write.field-0-is in
    judged _ _ c.args.datagram.now.at.0 c.args.self.now c.args.datagram.now.from c.args.datagram.now.bytes.now c.args.kept.now c.args.agreements.now (λ t. view_at t c.args.datagram.now.hub c.args.datagram.now.from.ip) c.settled.result (if_settled c.refuse.result c.settled.result _ c.settled.ensures (refused_unseen c.args.datagram.now.from access_violation c.refuse.result c.refuse.ensures))
    (looks_at_once _ c.refuse.result c.settled.result _ c.settled.ensures
    (λ t. if_ok_as c.refuse.result _ _
    (deny_decides c.args.datagram.now.at.0 c.args.self.now c.args.datagram.now.from c.args.datagram.now.bytes.now (view_at t c.args.datagram.now.hub c.args.datagram.now.from.ip) (Ok Writes) access_violation c.refuse.result is refl c.refuse.ensures) (λ d decides right. decides)))

pub returns-in-Ok-Other-clause-told : goal.returns-in-Ok-Other-clause-told
returns-in-Ok-Other-clause-told g c =
    let is : packet_of c.args.datagram.now.bytes.now ≡ Ok IsOther = c.in-Ok-Other.ensures.exact ∙ ap (λ (p : Packet). Ok (meant_by p)) c.in-Ok-Other.field-0-is in
    judged _ _ c.args.datagram.now.at.0 c.args.self.now c.args.datagram.now.from c.args.datagram.now.bytes.now c.args.kept.now c.args.agreements.now (λ t. view_at t c.args.datagram.now.hub c.args.datagram.now.from.ip) c.settled-in-Ok-Other.result (if_settled c.refuse-in-Ok-Other.result c.settled-in-Ok-Other.result _ c.settled-in-Ok-Other.ensures (refused_unseen c.args.datagram.now.from illegal_operation c.refuse-in-Ok-Other.result c.refuse-in-Ok-Other.ensures))
    (looks_at_once _ c.refuse-in-Ok-Other.result c.settled-in-Ok-Other.result _ c.settled-in-Ok-Other.ensures
    (λ t. if_ok_as c.refuse-in-Ok-Other.result _ _
    (deny_decides c.args.datagram.now.at.0 c.args.self.now c.args.datagram.now.from c.args.datagram.now.bytes.now (view_at t c.args.datagram.now.hub c.args.datagram.now.from.ip) (Ok IsOther) illegal_operation c.refuse-in-Ok-Other.result is refl c.refuse-in-Ok-Other.ensures) (λ d decides right. decides)))

pub returns-in-Err-Form-clause-told : goal.returns-in-Err-Form-clause-told
returns-in-Err-Form-clause-told g c =
    let is : packet_of c.args.datagram.now.bytes.now ≡ Err fault.Form = c.in-Err-Form.ensures.exact ∙ ap (λ (f : PacketFault). Err f) c.in-Err-Form.field-0-is in
    judged _ _ c.args.datagram.now.at.0 c.args.self.now c.args.datagram.now.from c.args.datagram.now.bytes.now c.args.kept.now c.args.agreements.now (λ t. view_at t c.args.datagram.now.hub c.args.datagram.now.from.ip) c.settled-in-Err-Form.result (if_settled c.refuse-in-Err-Form.result c.settled-in-Err-Form.result _ c.settled-in-Err-Form.ensures (refused_unseen c.args.datagram.now.from illegal_operation c.refuse-in-Err-Form.result c.refuse-in-Err-Form.ensures))
    (looks_at_once _ c.refuse-in-Err-Form.result c.settled-in-Err-Form.result _ c.settled-in-Err-Form.ensures
    (λ t. if_ok_as c.refuse-in-Err-Form.result _ _
    (deny_decides c.args.datagram.now.at.0 c.args.self.now c.args.datagram.now.from c.args.datagram.now.bytes.now (view_at t c.args.datagram.now.hub c.args.datagram.now.from.ip) (Err fault.Form) illegal_operation c.refuse-in-Err-Form.result is refl c.refuse-in-Err-Form.ensures)
    (λ d decides right. decides)))

pub returns-in-Err-Mode-clause-told : goal.returns-in-Err-Mode-clause-told
returns-in-Err-Mode-clause-told g c =
    let is : packet_of c.args.datagram.now.bytes.now ≡ Err fault.Mode = c.in-Err-Mode.ensures.exact ∙ ap (λ (f : PacketFault). Err f) c.in-Err-Mode.field-0-is in
    judged _ _ c.args.datagram.now.at.0 c.args.self.now c.args.datagram.now.from c.args.datagram.now.bytes.now c.args.kept.now c.args.agreements.now (λ t. view_at t c.args.datagram.now.hub c.args.datagram.now.from.ip) c.settled-in-Err-Mode.result (if_settled c.refuse-in-Err-Mode.result c.settled-in-Err-Mode.result _ c.settled-in-Err-Mode.ensures (refused_unseen c.args.datagram.now.from octet_only c.refuse-in-Err-Mode.result c.refuse-in-Err-Mode.ensures))
    (looks_at_once _ c.refuse-in-Err-Mode.result c.settled-in-Err-Mode.result _ c.settled-in-Err-Mode.ensures
    (λ t. if_ok_as c.refuse-in-Err-Mode.result _ _
    (deny_decides c.args.datagram.now.at.0 c.args.self.now c.args.datagram.now.from c.args.datagram.now.bytes.now (view_at t c.args.datagram.now.hub c.args.datagram.now.from.ip) (Err fault.Mode) octet_only c.refuse-in-Err-Mode.result is refl c.refuse-in-Err-Mode.ensures)
    (λ d decides right. decides)))

pub returns-in-Ok-Read-clause-few_unnamed : goal.returns-in-Ok-Read-clause-few_unnamed
returns-in-Ok-Read-clause-few_unnamed g c =
    let is : packet_of c.args.datagram.now.bytes.now ≡ Ok (Reads c.in-Ok-Read.name.now c.in-Ok-Read.options) = c.in-Ok-Read.ensures.exact ∙ ap (λ (p : Packet). Ok (meant_by p)) c.in-Ok-Read.field-0-is in
    λ t told unnamed. c.on_request.ensures.few_unnamed t told
    (sym (ap (asks_by_name c.args.datagram.now.at.0 c.args.datagram.now.from.ip (view_at t c.args.datagram.now.hub c.args.datagram.now.from.ip)) is) ∙ unnamed)

pub returns-in-Ok-Ack-clause-few_unnamed : goal.returns-in-Ok-Ack-clause-few_unnamed
returns-in-Ok-Ack-clause-few_unnamed g c = λ t told unnamed.
    acknowledgement_few c.in-Ok-Ack.number (map.get c.args.self.now c.args.datagram.now.from) c.on_acknowledgement.ensures.spent

pub returns-in-Ok-Error-clause-few_unnamed : goal.returns-in-Ok-Error-clause-few_unnamed
returns-in-Ok-Error-clause-few_unnamed g c = λ t told unnamed. few_none _

pub returns-in-Ok-Write-clause-few_unnamed : goal.returns-in-Ok-Write-clause-few_unnamed
returns-in-Ok-Write-clause-few_unnamed g c = λ t told unnamed. few_none _

pub returns-in-Ok-Other-clause-few_unnamed : goal.returns-in-Ok-Other-clause-few_unnamed
returns-in-Ok-Other-clause-few_unnamed g c = λ t told unnamed. few_none _

pub returns-in-Err-Form-clause-few_unnamed : goal.returns-in-Err-Form-clause-few_unnamed
returns-in-Err-Form-clause-few_unnamed g c = λ t told unnamed. few_none _

pub returns-in-Err-Mode-clause-few_unnamed : goal.returns-in-Err-Mode-clause-few_unnamed
returns-in-Err-Mode-clause-few_unnamed g c = λ t told unnamed. few_none _

pub returns-in-Ok-Read-clause-unasked : goal.returns-in-Ok-Read-clause-unasked
returns-in-Ok-Read-clause-unasked g c =
    let is : packet_of c.args.datagram.now.bytes.now ≡ Ok (Reads c.in-Ok-Read.name.now c.in-Ok-Read.options) = c.in-Ok-Read.ensures.exact ∙ ap (λ (p : Packet). Ok (meant_by p)) c.in-Ok-Read.field-0-is in
    not_asked c.args.datagram.now.at.0 c.args.datagram.now.from c.args.datagram.now.bytes.now c.args.self.now c.args.agreements.now _ _ (Ok (Reads c.in-Ok-Read.name.now c.in-Ok-Read.options)) is refl

pub returns-in-Ok-Read-clause-remembers : goal.returns-in-Ok-Read-clause-remembers
returns-in-Ok-Read-clause-remembers g c = ended_remembers c.args.datagram.now.at.0 c.args.datagram.now.from (map.get c.args.self.now c.args.datagram.now.from) c.args.agreements.now c.on_request.result c.on_request.ensures.ends

pub returns-in-Ok-Write-clause-remembers : goal.returns-in-Ok-Write-clause-remembers
returns-in-Ok-Write-clause-remembers g c =
    unseen_remembers c.args.datagram.now.at.0 c.args.datagram.now.from (map.get c.args.self.now c.args.datagram.now.from) c.args.agreements.now c.settled.result
    (if_settled c.refuse.result c.settled.result _ c.settled.ensures (refused_unseen c.args.datagram.now.from access_violation c.refuse.result c.refuse.ensures))

pub returns-in-Ok-Other-clause-remembers : goal.returns-in-Ok-Other-clause-remembers
returns-in-Ok-Other-clause-remembers g c =
    unseen_remembers c.args.datagram.now.at.0 c.args.datagram.now.from (map.get c.args.self.now c.args.datagram.now.from) c.args.agreements.now c.settled-in-Ok-Other.result
    (if_settled c.refuse-in-Ok-Other.result c.settled-in-Ok-Other.result _ c.settled-in-Ok-Other.ensures (refused_unseen c.args.datagram.now.from illegal_operation c.refuse-in-Ok-Other.result c.refuse-in-Ok-Other.ensures))

pub returns-in-Err-Form-clause-remembers : goal.returns-in-Err-Form-clause-remembers
returns-in-Err-Form-clause-remembers g c =
    unseen_remembers c.args.datagram.now.at.0 c.args.datagram.now.from (map.get c.args.self.now c.args.datagram.now.from) c.args.agreements.now c.settled-in-Err-Form.result
    (if_settled c.refuse-in-Err-Form.result c.settled-in-Err-Form.result _ c.settled-in-Err-Form.ensures (refused_unseen c.args.datagram.now.from illegal_operation c.refuse-in-Err-Form.result c.refuse-in-Err-Form.ensures))

pub returns-in-Err-Mode-clause-remembers : goal.returns-in-Err-Mode-clause-remembers
returns-in-Err-Mode-clause-remembers g c =
    unseen_remembers c.args.datagram.now.at.0 c.args.datagram.now.from (map.get c.args.self.now c.args.datagram.now.from) c.args.agreements.now c.settled-in-Err-Mode.result
    (if_settled c.refuse-in-Err-Mode.result c.settled-in-Err-Mode.result _ c.settled-in-Err-Mode.ensures (refused_unseen c.args.datagram.now.from octet_only c.refuse-in-Err-Mode.result c.refuse-in-Err-Mode.ensures))

pub returns-in-Ok-Ack-clause-sees_begun : goal.returns-in-Ok-Ack-clause-sees_begun
returns-in-Ok-Ack-clause-sees_begun g c = bare_sees c.args.datagram.now.at.0 c.args.datagram.now.from c.on_acknowledgement.result c.on_acknowledgement.ensures.bare

pub returns-in-Ok-Write-clause-sees_begun : goal.returns-in-Ok-Write-clause-sees_begun
returns-in-Ok-Write-clause-sees_begun g c =
    if_settled c.refuse.result c.settled.result _ c.settled.ensures (refused_sees c.args.datagram.now.at.0 c.args.datagram.now.from access_violation c.refuse.result c.refuse.ensures)

pub returns-in-Ok-Other-clause-sees_begun : goal.returns-in-Ok-Other-clause-sees_begun
returns-in-Ok-Other-clause-sees_begun g c =
    if_settled c.refuse-in-Ok-Other.result c.settled-in-Ok-Other.result _ c.settled-in-Ok-Other.ensures (refused_sees c.args.datagram.now.at.0 c.args.datagram.now.from illegal_operation c.refuse-in-Ok-Other.result c.refuse-in-Ok-Other.ensures)

pub returns-in-Err-Form-clause-sees_begun : goal.returns-in-Err-Form-clause-sees_begun
returns-in-Err-Form-clause-sees_begun g c =
    if_settled c.refuse-in-Err-Form.result c.settled-in-Err-Form.result _ c.settled-in-Err-Form.ensures (refused_sees c.args.datagram.now.at.0 c.args.datagram.now.from illegal_operation c.refuse-in-Err-Form.result c.refuse-in-Err-Form.ensures)

pub returns-in-Err-Mode-clause-sees_begun : goal.returns-in-Err-Mode-clause-sees_begun
returns-in-Err-Mode-clause-sees_begun g c =
    if_settled c.refuse-in-Err-Mode.result c.settled-in-Err-Mode.result _ c.settled-in-Err-Mode.ensures (refused_sees c.args.datagram.now.at.0 c.args.datagram.now.from octet_only c.refuse-in-Err-Mode.result c.refuse-in-Err-Mode.ensures)
