use Rattle.off_opening.specs.Standing.{OpensAs}
use Rattle.off_opening.proofs.StandingLemmas.{looked}
use Rattle.off_opening.proofs.opening.open_tables.Goals as goal

pub returns : goal.returns
returns g c = record {
  told =
      looked (λ opening t. OpensAs t opening) c.in_ok-marks.marks.items c.as_slice.result.now c.opening_of.result _ _ c.in_ok-marks.ensures.told c.as_slice.ensures.value
      c.opening_of.ensures.ok c.opening_of.ensures.err;
  walks = c.read_marks.ensures.walks;
}
