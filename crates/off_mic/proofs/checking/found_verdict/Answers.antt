use Rattle.std.proofs.Common.{Ok, Err, refl}
use Rattle.off_tlv.proofs.ReadingLemmas.{front_is_spelling}
use Rattle.off_mic.proofs.CheckLemmas.{verified_ok}
use Rattle.off_mic.proofs.checking.found_verdict.Goals as goal

pub returns-in-Ok : goal.returns-in-Ok
returns-in-Ok c =
    let found = c.in-Ok.ensures.found in
    (Ok found.trees, found.spells, verified_ok c.args.secret.now found.trees c.verdict_of.result (c.verdict_of.ensures found.trees (front_is_spelling c.args.file.now c.in-Ok.end found)))

pub returns-in-Err : goal.returns-in-Err
returns-in-Err c = (Err c.in-Err.fault, c.in-Err.ensures.found, refl)
