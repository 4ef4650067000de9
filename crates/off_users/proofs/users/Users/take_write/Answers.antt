use Rattle.std.proofs.Common.{Some, sym, ap, ◌∙◌, Option}
use Rattle.off_base.specs.declared.macs.Mac.{Mac}
use Rattle.off_users.specs.declared.named.Named.{Named}
use Rattle.off_users.specs.Users.{named_by}
use Rattle.off_users.proofs.WriteLemmas.{named_after, stands_written}
use Rattle.off_users.proofs.users.Users.take_write.Goals as goal

pub returns-in-Some-named-clause-stands : goal.returns-in-Some-named-clause-stands
returns-in-Some-named-clause-stands c =
    stands_written c.args.write.now c.args.self.now c.put.new.self (λ q.
    c.put.ensures.named q ∙ ap (λ (o : Option (Mac × Option Named)). named_after o q (named_by q c.args.self.now)) (ap (λ (o : Option Named). Some (c.in-Some.found.0, o)) (sym c.in-Some-named.is) ∙ c.in-Some.ensures.is))

pub returns-in-None-named-clause-stands : goal.returns-in-None-named-clause-stands
returns-in-None-named-clause-stands c =
    stands_written c.args.write.now c.args.self.now c.forget.new.self (λ q.
    c.forget.ensures.named q ∙ ap (λ (o : Option (Mac × Option Named)). named_after o q (named_by q c.args.self.now)) (ap (λ (o : Option Named). Some (c.in-Some.found.0, o)) (sym c.in-None-named.is) ∙ c.in-Some.ensures.is))

pub returns-in-None-clause-stands : goal.returns-in-None-clause-stands
returns-in-None-clause-stands c =
    stands_written c.args.write.now c.args.self.now c.args.self.now (λ q.
    ap (λ (o : Option (Mac × Option Named)). named_after o q (named_by q c.args.self.now)) (sym c.in-None.is ∙ c.named_write.ensures.is))
