use Rattle.std.proofs.Common.{◌≡◌, ℕ, List, true, ap, length, sym, subst, ◌∙◌}
use Rattle.std.specs.Prelude.{IfSome}
use Rattle.off_base.specs.Parts.{bytes_of, parts_in}
use Rattle.off_base.proofs.PartLemmas.{bytes_of-joined}
use Rattle.off_base.proofs.joined.Joined.whole.Goals as goal

pub whole_in-requires-clause-counted : goal.whole_in-requires-clause-counted
whole_in-requires-clause-counted c =
    c.self.invariant.2 ∙ ap length (bytes_of-joined c.self.inside.code (parts_in true c.self.inside.options.now))

pub returns : goal.returns
returns c =
    let same = sym (bytes_of-joined c.self.inside.code (parts_in true c.self.inside.options.now)) ∙ ap bytes_of c.self.view_is in
    let P : List ℕ → Type 0 = λ xs. IfSome c.whole_in.result (λ bytes. bytes.now ≡ xs) in
    subst P same c.whole_in.ensures
