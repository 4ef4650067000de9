use Rattle.std.proofs.Common.{refl, ◌∙◌}
use Rattle.off_jobs.specs.Jobs.{answered, refused_for, not_checked}
use Rattle.off_jobs.proofs.JobLemmas.{checks_by, tells_as, verifies_of}
use Rattle.off_jobs.proofs.checking.check_input.Goals as goal

pub returns-in-Ok-verify : goal.returns-in-Ok-verify
returns-in-Ok-verify g c =
    checks_by (answered c.in-Ok.file c.in-Ok-verify.verdict) _ _ _ _ _ _
    (c.in-Ok.ensures, verifies_of c.as_slice.ensures c.in-Ok-verify.ensures.found) (tells_as c.status.ensures c.answer.ensures c.tell.ensures)

pub returns-in-Ok : goal.returns-in-Ok
returns-in-Ok g c =
    checks_by (refused_for c.in-Ok.file c.in-Err-verify.fault) _ _ _ _ _ _
    (c.in-Ok.ensures, verifies_of c.as_slice.ensures c.in-Err-verify.ensures.found) (tells_as refl (c.as_slice-in-Err-verify.ensures.value ∙ c.mic_fault_line.ensures) c.tell-in-Err-verify.ensures)

pub returns : goal.returns
returns g c = checks_by (not_checked c.in-Err.err) _ _ _ _ _ _ c.in-Err.ensures c.tell_unread.ensures
