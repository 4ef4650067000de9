use Rattle.std.proofs.Common.{◌≡◌, sym, ap, subst, ◌∙◌, Some, Option}
use Rattle.off_clerk_rules.specs.declared.places.Place.{Place}
use Rattle.off_clerk_rules.specs.Paths.{place_at, path_of}
use Rattle.off_clerk_rules.specs.Commands.{GivesWanted, asked_at}
use Rattle.off_clerk.proofs.commands.command_of.Goals as goal

pub returns-in-Some-clause-exact : goal.returns-in-Some-clause-exact
returns-in-Some-clause-exact c =
    let found : place_at (path_of c.args.path.now) ≡ Some c.in-Some.place = sym (c.in-Some.ensures.exact ∙ ap place_at c.path_of.ensures) in
    subst (λ (x : Option Place). GivesWanted (asked_at x c.args.method.now c.args.body.now) c.asked.result) (sym found) c.asked.ensures.exact
