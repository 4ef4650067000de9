use Rattle.off_tftp.proofs.BodyLemmas.{looks_spelled, built_is}
use Rattle.off_tftp.proofs.bodies.built.Goals as goal

pub returns-clause-told : goal.returns-clause-told
returns-clause-told g c =
    λ mac. looks_spelled c.spelled.result _ c.spelled.ensures.err c.in_ok-profile.ensures.told
    (λ t is. built_is t mac c.args.modem.now c.in_ok-profile.profile c.spelled.result is c.spelled.ensures.spelled)
