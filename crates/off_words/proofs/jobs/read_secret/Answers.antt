use Rattle.std.proofs.Common.{sym, ◌∙◌, arith}
use Rattle.std.proofs.lemmas.Bool.Decides.{nat_tests}
use Rattle.std.proofs.lemmas.Grind.{common_steps}
use Rattle.off_words.proofs.SecretLemmas.{secret_empty, secret_long, secret_fits, secret_kept, front_is}
use Rattle.off_words.proofs.jobs.read_secret.Goals as goal

pub returns-then-is_empty : goal.returns-then-is_empty
returns-then-is_empty c = sym (secret_empty _ (grind (arith, nat_tests)))

pub returns-then-text-gt128 : goal.returns-then-text-gt128
returns-then-text-gt128 c = sym (secret_long _ (omega arith))

pub returns-then-not-decoded : goal.returns-then-not-decoded
returns-then-not-decoded c = sym (secret_fits _ (grind (arith, nat_tests)) (omega arith) ∙ c.if-not-decoded.ensures)

pub returns : goal.returns
returns c =
    secret_kept _ c.decoded.new.room _ _ (secret_fits _ (grind (arith, nat_tests)) (omega arith)) c.if-not-decoded.ensures (front_is _ _ _ (grind (arith, common_steps))) (grind (arith, common_steps)) c.read.ensures
