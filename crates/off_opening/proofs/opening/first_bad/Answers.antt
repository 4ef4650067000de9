use Rattle.off_account_rules.specs.Good.{Judged}
use Rattle.off_opening.proofs.StandingLemmas.{looked}
use Rattle.off_opening.proofs.opening.first_bad.Goals as goal

pub returns : goal.returns
returns g c = record {
  told =
      looked (λ bad t. Judged t bad) c.in_ok-marks.marks.items c.as_slice.result.now c.bad_in.result _ _ c.in_ok-marks.ensures.told c.as_slice.ensures.value
      c.bad_in.ensures.ok c.bad_in.ensures.err;
  walks = c.read_marks.ensures.walks;
}
