use Rattle.std.proofs.Common.{List, ℕ, ap, ◌∙◌}
use Rattle.off_dhcp.specs.Datagram.{option_in, options_in}
use Rattle.off_dhcp.proofs.heads.Head.option.Goals as goal

pub returns : goal.returns
returns c =
    c.option.ensures ∙ ap (option_in c.args.code) (c.self.invariant.1 ∙ ap (λ (bytes : List ℕ). options_in bytes) c.self.view_is)
