use Rattle.std.proofs.Common.{ap, subst, ℕ}
use Rattle.off_office.specs.Desk.{Desk}
use Rattle.off_office.specs.Saying.{SaysTime}
use Rattle.off_office.proofs.StepLemmas.{time_handled, by_service}
use Rattle.off_office.proofs.office.Office.take_datagram.Goals as goal

pub returns-in-Dhcp : goal.returns-in-Dhcp
returns-in-Dhcp g c = by_service _ _ _ _ _ _ _ _ _ _ c.in-Dhcp.is c.take_message.ensures

pub returns-in-Time : goal.returns-in-Time
returns-in-Time g c =
    by_service _ _ _ _ _ _ _ _ _ _ c.in-Time.is
    (time_handled _ _ _ _ _ _
    (subst (λ (n : ℕ). SaysTime n c.args.from c.tell_time.result c.tell_time.new.out) (ap (λ (d : Desk). d.held.now) c.self.view_is) c.tell_time.ensures))

pub returns-in-Tftp : goal.returns-in-Tftp
returns-in-Tftp g c =
    by_service _ _ _ _ _ _ _ _ _ _ c.in-Tftp.is c.take_packet.ensures
