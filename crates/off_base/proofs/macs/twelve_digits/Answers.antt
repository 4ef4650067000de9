use Rattle.std.proofs.Common.{ap, length, ◌∙◌}
use Rattle.off_base.proofs.MacTextLemmas.{mac_of_long, mac_of_other_count}
use Rattle.off_base.proofs.macs.twelve_digits.Goals as goal

pub returns-then-text-gt17 : goal.returns-then-text-gt17
returns-then-text-gt17 c = mac_of_long c.args.text.now c.if-text-gt17.true

pub returns-then-len-ne12 : goal.returns-then-len-ne12
returns-then-len-ne12 c =
    mac_of_other_count c.args.text.now (λ twelve. c.if-len-ne12.true (c.len.ensures.value ∙ ap length c.hex_digits-digits.ensures ∙ twelve))
