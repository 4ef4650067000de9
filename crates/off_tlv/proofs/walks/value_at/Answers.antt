use Rattle.std.proofs.Common.{arith}
use Rattle.off_tlv.proofs.WalkLemmas.{short_code, short_value, whole_value}
use Rattle.off_tlv.proofs.walks.value_at.Goals as goal

pub returns-then-place-bytes : goal.returns-then-place-bytes
returns-then-place-bytes c = short_code c.args.bytes.now c.args.place c.if-place-bytes.true

pub returns-then-length-bytes : goal.returns-then-length-bytes
returns-then-length-bytes c = short_value c.args.bytes.now c.args.place c.from-length.result (omega arith) c.from-length.ensures (omega arith)

pub returns : goal.returns
returns c = whole_value _ _ c.from-length.result _ (omega arith) c.from-length.ensures (omega arith) (omega arith) (omega arith)
