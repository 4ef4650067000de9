use Rattle.std.proofs.Common.{sym, ap, ◌∙◌, subst, Result, Ok, List, ℕ}
use Rattle.off_dhcp.specs.Datagram.{Received}
use Rattle.off_dhcp.specs.declared.faults.DhcpFault.{DhcpFault}
use Rattle.off_defs.specs.State.{Said}
use Rattle.off_lease_rules.specs.Words.{unread}
use Rattle.off_book.specs.Dhcp.{dhcp_line}
use Rattle.off_office.specs.Asking.{ReadAsks}
use Rattle.off_office.specs.Leasing.{ServesMessage}
use Rattle.off_office.proofs.LeaseLemmas.{fault_serves, fault_spent}
use Rattle.off_office.proofs.office.Office.take_read.Goals as goal

pub returns-in-Ok-clause-told : goal.returns-in-Ok-clause-told
returns-in-Ok-clause-told g c =
    subst
    (λ (read : Result Received DhcpFault). ServesMessage c.serve_message.result read c.args.self.now c.serve_message.new.self c.serve_message.new.out
    (g.K.Keeper.seen c.args.keeper.now) (g.K.Keeper.seen c.serve_message.new.keeper))
    (ap Ok c.of.ensures ∙ sym c.in-Ok.is) c.serve_message.ensures.told

pub returns-in-Ok-clause-spent : goal.returns-in-Ok-clause-spent
returns-in-Ok-clause-spent g c =
    subst
    (λ (read : Result Received DhcpFault). ReadAsks read (g.K.Keeper.seen c.args.keeper.now) (g.K.Keeper.seen c.serve_message.new.keeper))
    (ap Ok c.of.ensures ∙ sym c.in-Ok.is) c.serve_message.ensures.spent

pub returns-in-Err-clause-told : goal.returns-in-Err-clause-told
returns-in-Err-clause-told g c =
    fault_serves c.args.read c.in-Err.fault _ _ _ c.in-Err.is
    (c.set_line.ensures
    ∙ (ap (λ (line : List ℕ). record { items = c.args.out.now.items; line = line }) (c.as_slice.ensures.value ∙ c.line_of.ensures ∙ ap dhcp_line c.word_of.ensures)
    ∙ ap (λ (s : Said). record { items = s.items; line = dhcp_line (unread c.in-Err.fault) }) c.requires))

pub returns-in-Err-clause-spent : goal.returns-in-Err-clause-spent
returns-in-Err-clause-spent g c =
    fault_spent c.args.read c.in-Err.fault (g.K.Keeper.seen c.args.keeper.now) c.in-Err.is
