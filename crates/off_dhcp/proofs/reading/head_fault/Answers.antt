use Rattle.std.proofs.Common.{List, ℕ, sym, ap, ◌∙◌}
use Rattle.off_base.specs.Choices.{first_there}
use Rattle.off_dhcp.specs.Datagram.{option_faults, message_fault}
use Rattle.off_dhcp.proofs.DatagramLemmas.{is_long, fixed_first, options_first}
use Rattle.off_dhcp.proofs.reading.head_fault.Goals as goal

pub index_fault-requires : goal.index_fault-requires
index_fault-requires c = rw c.head.invariant.1 (is_long c.head.inside.bytes.now c.head.invariant.0).uncut

pub returns-in-Some : goal.returns-in-Some
returns-in-Some c =
    sym (fixed_first c.head.inside.bytes.now c.in-Some.fault (sym c.in-Some.ensures.first))
    ∙ ap (λ (bytes : List ℕ). message_fault bytes) c.head.view_is

pub returns-in-None : goal.returns-in-None
returns-in-None c =
    c.index_fault.ensures
    ∙ ap (λ (options : List ℕ). first_there (option_faults options)) c.head.invariant.1
    ∙ sym (options_first c.head.inside.bytes.now (sym c.in-None.ensures.first))
    ∙ ap (λ (bytes : List ℕ). message_fault bytes) c.head.view_is
