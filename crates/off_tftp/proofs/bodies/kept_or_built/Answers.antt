use Rattle.std.proofs.Common.{◌∙◌, sym}
use Rattle.off_outside.proofs.KeeperLemmas.{reads_none}
use Rattle.off_tftp.proofs.BodyLemmas.{kept_is, looks_under}
use Rattle.off_tftp.proofs.bodies.kept_or_built.Goals as goal

pub returns-then-is_some-clause-told : goal.returns-then-is_some-clause-told
returns-then-is_some-clause-told g c =
    reads_none (λ t right there. kept_is t c.args.mac c.args.modem.now c.args.kept.now c.in_ok-found.found c.in_ok-found.ensures (sym c.is_some.ensures ∙ c.if-is_some.true) right there)

pub returns-clause-told : goal.returns-clause-told
returns-clause-told g c = looks_under _ _ c.built.result _ _ (c.built.ensures.told c.args.mac) (λ t body made right. made)
