use Rattle.off_office.proofs.RequestLemmas.{command_ends, fault_ends, command_asks}
use Rattle.off_office.proofs.CommandLemmas.{nothing_spent}
use Rattle.off_office.proofs.office.Office.answer_request.Goals as goal

pub returns-in-Ok-clause-told : goal.returns-in-Ok-clause-told
returns-in-Ok-clause-told g c =
    command_ends c.method.result.now c.path.result.now c.body.result.now _ _ _ c.in-Ok.command _ _ _ _ _ _ _ c.answer_command.result
    (record { method_is = c.method.ensures.value; target_is = c.path.ensures.value; body_is = c.body.ensures.value })
    c.in-Ok.ensures.exact c.answer_command.ensures.told

pub returns-in-Ok-clause-spent : goal.returns-in-Ok-clause-spent
returns-in-Ok-clause-spent g c =
    command_asks _ c.method.result.now c.path.result.now c.body.result.now c.in-Ok.command _ _ c.requires.asked
    (record { method_is = c.method.ensures.value; target_is = c.path.ensures.value; body_is = c.body.ensures.value })
    c.in-Ok.ensures.exact c.answer_command.ensures.spent

pub returns-in-Err-Fault-clause-told : goal.returns-in-Err-Fault-clause-told
returns-in-Err-Fault-clause-told g c =
    fault_ends c.method.result.now c.path.result.now c.body.result.now _ _ _ c.in-Err-Fault.err _ _ _ _ _ c.answer_fault.result
    (record { method_is = c.method.ensures.value; target_is = c.path.ensures.value; body_is = c.body.ensures.value })
    (rw c.in-Err-Fault.field-0-is at c.in-Err-Fault.ensures.exact) c.answer_fault.ensures

pub returns-in-Err-Fault-clause-spent : goal.returns-in-Err-Fault-clause-spent
returns-in-Err-Fault-clause-spent g c = nothing_spent _ _

pub returns-in-Err-Memory-clause-spent : goal.returns-in-Err-Memory-clause-spent
returns-in-Err-Memory-clause-spent g c = nothing_spent _ _
