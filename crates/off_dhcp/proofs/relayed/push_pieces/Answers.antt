use Rattle.std.proofs.Common.{◌∙◌, ◌≡◌, arith}
use Rattle.off_dhcp.proofs.ReplyLemmas.{relay_step}
use Rattle.off_dhcp.proofs.relayed.push_pieces.Goals as goal

pub loop-k-preserved : goal.loop-k-preserved
loop-k-preserved c =
    let same = c.loop-k.invariant.0 in (
      c.piece_of-piece.ensures.same ∙ same,
      relay_step _ _ _ c.bytes-bytes.result _ _ c.loop-k.k c.in_ok-push_option.ensures c.as_slice.ensures.value (rw same at c.piece_of-piece.ensures.piece) c.loop-k.invariant.1,
    )

pub returns : goal.returns
returns c =
    let last : c.loop-k.k ≡ c.pieces_of-k-end.result = omega arith in
    rw (last, c.pieces_of-k-end.ensures, c.len-len.ensures, c.bytes-bytes.ensures) at c.loop-k.invariant.1
