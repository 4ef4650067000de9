use Rattle.std.proofs.Common.{ℕ, ◌∙◌, ap, List, arith}
use Rattle.std.specs.Prelude.{Option, slice_index}
use Rattle.off_base.specs.Parts.{bytes_of}
use Rattle.off_dhcp.proofs.DatagramLemmas.{is_sound}
use Rattle.off_dhcp.specs.Datagram.{Received}
use Rattle.off_dhcp.proofs.reading.Message.kind.Goals as goal

pub byte-requires : goal.byte-requires
byte-requires c =
    let one = (is_sound c.self.inside.head c.self.invariant).one in
    rw c.option.ensures (omega (arith, one))

pub returns : goal.returns
returns c =
    c.byte.ensures
    ∙ ap (λ (v : Option (List ℕ)). slice_index (bytes_of v) 0) c.option.ensures
    ∙ ap (λ (m : Received). m.kind) c.self.view_is
