use Rattle.std.proofs.Common.{cond, ap, sym, ◌∙◌}
use Rattle.off_tftp.specs.Agreements.{none_remembered, without_rows}
use Rattle.off_tftp.proofs.AgreementLemmas.{forgotten_all}
use Rattle.off_tftp.proofs.agreements.Agreements.forget.Goals as goal

pub returns-then-touch_all : goal.returns-then-touch_all
returns-then-touch_all c =
    forgotten_all c.forget_all.new.slots.items (c.forget_all.ensures.len ∙ c.self.invariant) c.forget_all.ensures.none
    ∙ ap (λ b. cond b none_remembered (without_rows c.args.writes.now c.args.self.now)) (sym (sym c.touch_all.ensures ∙ c.if-touch_all.true))
