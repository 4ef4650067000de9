use Rattle.std.proofs.Common.{ap, ◌∙◌}
use Rattle.off_users.specs.Users.{UsersHeld, named_by, names_subscriber}
use Rattle.off_users.proofs.UseLemmas.{uses}
use Rattle.off_users.proofs.users.Users.modems_of_subscriber.Goals as goal

pub returns : goal.returns
returns c = λ t stands.
    c.count_at.ensures ∙ c.self.invariant.of_subscribers c.args.number
    ∙ uses (names_subscriber c.args.number) c.self.inside.modems.entries c.args.self.now t c.len-len.ensures.unique (λ q. ap (λ (h : UsersHeld). named_by q h) c.self.view_is) stands
