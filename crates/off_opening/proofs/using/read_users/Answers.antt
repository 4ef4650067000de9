use Rattle.off_users.specs.Users.{StandsFor}
use Rattle.off_opening.proofs.StandingLemmas.{looked}
use Rattle.off_opening.proofs.using.read_users.Goals as goal

pub returns : goal.returns
returns g c = record {
  told =
      looked (λ users t. StandsFor users t) c.in_ok-marks.marks.items c.as_slice.result.now c.users_in.result _ _ c.in_ok-marks.ensures.told c.as_slice.ensures.value
      c.users_in.ensures.ok c.users_in.ensures.err;
  walks = c.read_marks.ensures.walks;
}
