use Rattle.std.proofs.Common.{arith}
use Rattle.std.proofs.lemmas.Grind.{common_steps}
use Rattle.off_jobs.proofs.InputLemmas.{gave_end, gave_lost}
use Rattle.off_jobs.proofs.input.read_piece.Goals as goal

pub returns-in-Ok-eq0 : goal.returns-in-Ok-eq0
returns-in-Ok-eq0 g c = gave_end c.in-Ok-eq0.ensures.gave c.in-Ok-eq0.field-0-test (grind (arith, common_steps)) c.requires

pub returns-in-Err-push_all : goal.returns-in-Err-push_all
returns-in-Err-push_all g c = gave_lost c.in-Ok.ensures.gave (grind (arith, common_steps)) c.in-Ok.ensures.room (grind (arith, common_steps))
