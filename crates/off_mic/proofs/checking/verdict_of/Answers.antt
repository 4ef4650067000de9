use Rattle.std.proofs.Common.{[], refl}
use Rattle.off_mic.proofs.CheckLemmas.{verdict_is}
use Rattle.off_mic.proofs.checking.verdict_of.Goals as goal

pub returns : goal.returns
returns c = λ trees e.
    let one = c.in-Ok.ensures trees e in
    let other = c.in-Ok-one_value.ensures trees e in
    verdict_is c.args.secret.now trees (record { cm = c.is_same.result; cmts = c.is_same-2.result }) c.in-Ok.value.now c.cm_mic.result c.in-Ok-one_value.value.now c.cmts_mic.result
    one.0 one.1 (c.cm_mic.ensures trees [] e refl) c.is_same.ensures other.0 other.1 (c.cmts_mic.ensures trees [] e refl) c.is_same-2.ensures
