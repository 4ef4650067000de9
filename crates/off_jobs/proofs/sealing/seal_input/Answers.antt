use Rattle.std.proofs.Common.{refl, ◌∙◌, subst}
use Rattle.off_mic.specs.Seal.{SealsFile}
use Rattle.off_jobs.specs.Jobs.{sealed_as, refused_by, unsealed, not_sealed}
use Rattle.off_jobs.proofs.JobLemmas.{seals_by, tells_as, fault_of, spelled_of}
use Rattle.off_jobs.proofs.sealing.seal_input.Goals as goal

pub returns-in-Ok-seal : goal.returns-in-Ok-seal
returns-in-Ok-seal g c =
    seals_by (sealed_as c.in-Ok.file c.in-Ok-seal.sealed) _ _ _ _ _ _
    (c.in-Ok.ensures, subst (λ v. SealsFile v c.args.secret.now c.in-Ok-seal.sealed) c.as_slice.ensures c.in-Ok-seal.ensures.found) (tells_as refl c.as_slice-in-Ok-seal.ensures c.tell.ensures)

pub returns-in-Err-Read : goal.returns-in-Err-Read
returns-in-Err-Read g c =
    seals_by (refused_by c.in-Ok.file c.in-Err-Read.fault) _ _ _ _ _ _
    (c.in-Ok.ensures, fault_of _ _ _ _ c.as_slice.ensures c.in-Err-Read.field-0-is c.in-Err-Read.ensures.found) (tells_as refl (c.as_slice-in-Err-Read.ensures.value ∙ c.read_fault_line.ensures) c.tell-in-Err-Read.ensures)

pub returns-in-Ok : goal.returns-in-Ok
returns-in-Ok g c =
    seals_by (unsealed c.in-Ok.file) _ _ _ _ _ _ (c.in-Ok.ensures, spelled_of _ _ _ c.as_slice.ensures c.in-Err-Memory.field-0-is c.in-Err-Memory.ensures.found) c.tell_memory.ensures

pub returns : goal.returns
returns g c = seals_by (not_sealed c.in-Err.err) _ _ _ _ _ _ c.in-Err.ensures c.tell_unread.ensures
