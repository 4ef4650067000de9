use Rattle.std.proofs.Common.{◌+◌, length, take, ap, arith}
use Rattle.off_base.specs.Tree.{spelling}
use Rattle.off_base.specs.Setting.{tree_of}
use Rattle.off_base.proofs.TreeLemmas.{size_at, parts_smaller}
use Rattle.off_tlv.proofs.WritingLemmas.{fits_at, fits_more, length_more, parts_of_fit, group_answers, sum_more}
use Rattle.off_tlv.proofs.writing.+spelled_len.Goals as goal

pub spelled_len-value_len-requires : goal.spelled_len-value_len-requires
spelled_len-value_len-requires t c =
    (omega (arith, size_at c.args.settings.now c.loop-place.place (tree_of c.get.result.now) c.get.ensures), tt)

pub spelled_len-returns-in_default : goal.spelled_len-returns-in_default
spelled_len-returns-in_default t c =
    λ fits. c.in_default.ensures (fits_at c.args.settings.now c.loop-place.place (tree_of c.get.result.now) c.get.ensures fits)

pub spelled_len-loop-place-preserved : goal.spelled_len-loop-place-preserved
spelled_len-loop-place-preserved t c =
    let one = c.in-Some.ensures in (
      fits_more c.args.settings.now c.loop-place.place (tree_of c.get.result.now) c.get.ensures c.loop-place.invariant.0 one.0,
      sum_more c.loop-place.sum c.in-Some.length (length (spelling (take c.loop-place.place c.args.settings.now)))
          (length (spelling (take (c.loop-place.place + 1) c.args.settings.now))) c.saturating_add-sum.result c.loop-place.invariant.1 c.saturating_add-sum.ensures
          (length_more c.args.settings.now c.loop-place.place c.in-Some.length (tree_of c.get.result.now) c.get.ensures one.2),
    )

pub value_len-spelled_len-requires : goal.value_len-spelled_len-requires
value_len-spelled_len-requires t c =
    (omega (arith, parts_smaller c.in-Group.code c.in-Group.parts (tree_of c.args.setting.now) (ap tree_of c.in-Group.is)), tt)

pub value_len-returns-in-Some : goal.value_len-returns-in-Some
value_len-returns-in-Some t c =
    group_answers c.in-Group.code c.in-Group.parts (tree_of c.args.setting.now) (ap tree_of c.in-Group.is) c.in-Some.length c.in_a_byte-in-Some.result c.in-Some.ensures c.in_a_byte-in-Some.ensures

pub value_len-returns-in-None : goal.value_len-returns-in-None
value_len-returns-in-None t c =
    λ fits. c.in-None.ensures (parts_of_fit c.in-Group.code c.in-Group.parts (tree_of c.args.setting.now) (ap tree_of c.in-Group.is) fits).0
