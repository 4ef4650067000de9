use Rattle.off_outside.proofs.KeeperLemmas.{reads_then, spent_one, spent_then}
use Rattle.off_tftp.proofs.ReadLemmas.{add_one}
use Rattle.off_tftp.proofs.gathering.read_add_ons.Goals as goal

pub loop-number-preserved : goal.loop-number-preserved
loop-number-preserved g c = (
  reads_then c.loop-number.invariant.0 c.in_ok-settings.ensures.told (λ t so_far one. add_one t c.args.subscriber c.loop-number.number c.loop-number.add_ons _ c.in_ok-settings.settings c.loop-number-test.true so_far one c.in_ok-push_some.ensures),
  spent_then c.loop-number.invariant.1 (spent_one c.in_ok-settings.ensures.counted),
)
