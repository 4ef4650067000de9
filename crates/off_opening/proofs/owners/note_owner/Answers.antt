use Rattle.std.proofs.Common.{Option, sym, subst, ◌∙◌}
use Rattle.off_base.specs.declared.macs.Mac.{Mac}
use Rattle.off_opening.specs.Owners.{IsNoted}
use Rattle.off_opening.proofs.OwnerLemmas.{noted_again, noted_first, when_ok}
use Rattle.off_opening.proofs.owners.note_owner.Goals as goal

pub returns-then-has_owner : goal.returns-then-has_owner
returns-then-has_owner c =
    when_ok c.add_owner.result c.add_owner.ensures (λ added.
    subst (λ (o : Option (Mac × Mac)). IsNoted o c.args.owners.now (record { known = c.args.owners.now.known; several = c.add_owner.new.owners })) (sym c.in-Some.is)
    (noted_again c.in-Some.owner c.args.owners.now c.add_owner.new.owners (sym c.has_owner.ensures ∙ c.if-has_owner.true) added))

pub returns-else-has_owner : goal.returns-else-has_owner
returns-else-has_owner c =
    when_ok c.add_owner-else-has_owner.result c.add_owner-else-has_owner.ensures (λ added.
    subst (λ (o : Option (Mac × Mac)). IsNoted o c.args.owners.now (record { known = c.add_owner-else-has_owner.new.owners; several = c.args.owners.now.several })) (sym c.in-Some.is)
    (noted_first c.in-Some.owner c.args.owners.now c.add_owner-else-has_owner.new.owners (sym c.has_owner.ensures ∙ c.if-has_owner.false) added))
