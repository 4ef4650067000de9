use Rattle.std.proofs.Common.{◌==◌, length, ap, ◌∙◌, unwrap_or, Option, ℕ}
use Rattle.off_clerk_rules.proofs.PathLemmas.{place_or_length}
use Rattle.off_clerk.proofs.paths.length_before.Goals as goal

pub returns-clause-exact : goal.returns-clause-exact
returns-clause-exact c =
    c.unwrap_or.ensures ∙ ap (λ (x : Option ℕ). unwrap_or x (length c.args.text.now)) c.place_of.ensures.exact ∙ place_or_length (λ x. x == c.args.mark) c.args.text.now
