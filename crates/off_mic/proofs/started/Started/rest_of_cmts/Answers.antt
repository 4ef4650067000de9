use Rattle.std.proofs.Common.{sym, subst, ap, ◌∙◌}
use Rattle.off_mic.specs.Hmac.{hmac, HoldsKeyed}
use Rattle.off_mic.specs.Mic.{text_of_codes}
use Rattle.off_mic.specs.Started.{codes_first}
use Rattle.off_mic.specs.declared.keyed.Hmac.{Hmac}
use Rattle.off_mic.proofs.StartedLemmas.{digest_in_two}
use Rattle.off_mic.proofs.started.Started.rest_of_cmts.Goals as goal

pub returns : goal.returns
returns c = λ front back begun e f none.
    let held = subst (λ (h : Hmac). HoldsKeyed h c.args.self.now.secret (text_of_codes codes_first front)) (sym c.copy-hmac.ensures) (begun.cmts front e) in
    c.finish.ensures c.args.self.now.secret _ (c.take_codes.ensures c.args.self.now.secret (text_of_codes codes_first front) front back e f held)
    ∙ ap (hmac c.args.self.now.secret) (digest_in_two front back none)
