use Rattle.std.proofs.Common.{sym, refl, subst, Option, Result, List, ℕ}
use Rattle.off_dhcp.specs.Datagram.{Received, message_of}
use Rattle.off_dhcp.specs.declared.faults.DhcpFault.{DhcpFault}
use Rattle.off_office.specs.Asking.{DhcpAsks, ReadAsks}
use Rattle.off_office.specs.Leasing.{ServesDatagram, ServesMessage}
use Rattle.off_office.proofs.office.Office.serve_datagram.Goals as goal

pub returns-in-Ok-clause-told : goal.returns-in-Ok-clause-told
returns-in-Ok-clause-told g c =
    subst
    (λ (asked : Option (List ℕ)). ServesDatagram asked c.serve_query.result (message_of c.args.bytes.now) c.args.self.now c.args.self.now c.serve_query.new.out
    (g.K.Keeper.seen c.args.keeper.now) (g.K.Keeper.seen c.serve_query.new.keeper))
    (sym c.in-Ok.ensures) (refl, c.serve_query.ensures.told)

pub returns-in-Ok-clause-spent : goal.returns-in-Ok-clause-spent
returns-in-Ok-clause-spent g c =
    subst
    (λ (asked : Option (List ℕ)). DhcpAsks asked (message_of c.args.bytes.now) (g.K.Keeper.seen c.args.keeper.now) (g.K.Keeper.seen c.serve_query.new.keeper))
    (sym c.in-Ok.ensures) c.serve_query.ensures.spent

pub returns-in-Err-clause-told : goal.returns-in-Err-clause-told
returns-in-Err-clause-told g c =
    let served =
    subst
    (λ (read : Result Received DhcpFault). ServesMessage c.take_read.result read c.args.self.now c.take_read.new.self c.take_read.new.out
    (g.K.Keeper.seen c.args.keeper.now) (g.K.Keeper.seen c.take_read.new.keeper))
    c.in-Err.ensures.1 c.take_read.ensures.told in
    subst
    (λ (asked : Option (List ℕ)). ServesDatagram asked c.take_read.result (message_of c.args.bytes.now) c.args.self.now c.take_read.new.self c.take_read.new.out
    (g.K.Keeper.seen c.args.keeper.now) (g.K.Keeper.seen c.take_read.new.keeper))
    (sym c.in-Err.ensures.0) served

pub returns-in-Err-clause-spent : goal.returns-in-Err-clause-spent
returns-in-Err-clause-spent g c =
    let asks =
    subst
    (λ (read : Result Received DhcpFault). ReadAsks read (g.K.Keeper.seen c.args.keeper.now) (g.K.Keeper.seen c.take_read.new.keeper))
    c.in-Err.ensures.1 c.take_read.ensures.spent in
    subst
    (λ (asked : Option (List ℕ)). DhcpAsks asked (message_of c.args.bytes.now) (g.K.Keeper.seen c.args.keeper.now) (g.K.Keeper.seen c.take_read.new.keeper))
    (sym c.in-Err.ensures.0) asks
