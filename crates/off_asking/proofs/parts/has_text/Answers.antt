use Rattle.std.proofs.Common.{◌≡◌, ◌<◌, ◌+◌, List, ℕ, length, get_or, sym, ap, ◌∙◌, arith}
use Rattle.off_base.specs.Parts.{bytes_of}
use Rattle.off_asking.proofs.TextLemmas.{one_more, one_differs, all_same}
use Rattle.off_asking.proofs.parts.has_text.Goals as goal

pub returns-then-byte_at-byte : goal.returns-then-byte_at-byte
returns-then-byte_at-byte c =
    let now : c.loop-i.bytes ≡ bytes_of c.args.value.now = c.loop-i.invariant.0 ∙ c.bytes-bytes.ensures in
    let within : c.loop-i.i < length c.args.text.now = omega arith in
    sym (one_differs (bytes_of c.args.value.now) c.args.text.now c.args.at c.loop-i.i within (λ same.
    c.if-byte_at-byte.true (c.byte_at.ensures.byte ∙ ap (λ (xs : List ℕ). get_or xs (c.args.at + c.loop-i.i) 0) now ∙ same)))

pub loop-i-preserved : goal.loop-i-preserved
loop-i-preserved c =
    let size = ap length c.bytes-bytes.ensures in
    let within : c.loop-i.i < length c.args.text.now = omega arith in (
      c.byte_at.ensures.same ∙ c.loop-i.invariant.0,
      one_more c.bytes-bytes.result c.args.text.now c.args.at c.loop-i.i within (omega arith) c.loop-i.invariant.1
          (sym (c.byte_at.ensures.byte ∙ ap (λ (xs : List ℕ). get_or xs (c.args.at + c.loop-i.i) 0) c.loop-i.invariant.0) ∙ c.if-byte_at-byte.false),
    )

pub returns : goal.returns
returns c =
    let all : c.loop-i.i ≡ length c.args.text.now = omega arith in
    sym (all_same (bytes_of c.args.value.now) c.args.text.now c.args.at
    (rw (all, c.bytes-bytes.ensures) at c.loop-i.invariant.1))
