use Rattle.std.proofs.Common.{true, sym}
use Rattle.off_base.proofs.PartLemmas.{is_reading}
use Rattle.off_dhcp.proofs.DatagramLemmas.{in_fixed}
use Rattle.off_dhcp.proofs.reading.Message.read.Goals as goal

pub returns-in-Some-clause-message : goal.returns-in-Some-clause-message
returns-in-Some-clause-message c = sym (in_fixed c.args.bytes.now c.in-Some.fault (sym c.in-Some.ensures.first))

pub returns-in-Some-clause-options : goal.returns-in-Some-clause-options
returns-in-Some-clause-options c = is_reading true _

pub returns-in-None-clause-options : goal.returns-in-None-clause-options
returns-in-None-clause-options c = is_reading true _
