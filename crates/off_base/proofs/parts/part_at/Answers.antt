use Rattle.std.proofs.Common.{◌≡◌, ℕ, ◌<◌, ◌≤◌, ◌+◌, ◌∙◌, List, get_or, sym, ap, length, arith}
use Rattle.off_base.proofs.PartLemmas.{left_part}
use Rattle.off_base.proofs.parts.part_at.Goals as goal

pub returns-clause-found : goal.returns-clause-found
returns-clause-found g c =
    let bytes = g.R.Readable.bytes c.args.bytes.now in
    let same = c.byte-code.ensures.same in
    let size = c.len.ensures ∙ ap length same in
    let len : c.from-len.result ≡ get_or bytes (c.args.place + 1) 0 =
    c.from-len.ensures ∙ c.byte.ensures.byte ∙ ap (λ (xs : List ℕ). get_or xs (c.args.place + 1) 0) same in
    let more : c.args.place + 1 < length bytes = omega (arith, size) in
    let fits : c.args.place + 2 + get_or bytes (c.args.place + 1) 0 ≤ length bytes = omega (arith, size, len) in
    rw (c.byte-code.ensures.byte, len)
    (left_part c.args.marked bytes c.args.place more c.requires.no_pad (rw c.byte-code.ensures.byte at (sym c.is_mark.ensures ∙ c.if-is_mark.false)) fits)
