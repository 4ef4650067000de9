use Rattle.std.proofs.Common.{ℕ, List, ◌++◌, take, ap, sym, ◌∙◌, append_assoc, arith}
use Rattle.std.proofs.lemmas.Result.{on_ok_weaker}
use Rattle.off_base.specs.Tree.{spelling, spelled}
use Rattle.off_base.specs.Setting.{tree_of}
use Rattle.off_base.proofs.TreeLemmas.{size_at, parts_smaller}
use Rattle.off_tlv.proofs.WritingLemmas.{fits_at, spelled_more, parts_of_fit, group_pushed}
use Rattle.off_tlv.proofs.writing.+write.Goals as goal

pub push_setting-unreachable-requires : goal.push_setting-unreachable-requires
push_setting-unreachable-requires t c =
    c.in_default.ensures (parts_of_fit c.in-Group.code c.in-Group.parts (tree_of c.args.setting.now) (ap tree_of c.in-Group.is) c.requires).0

pub push_setting-push_head-requires-in-Group : goal.push_setting-push_head-requires-in-Group
push_setting-push_head-requires-in-Group t c =
    let known = c.in-Some.ensures in
    omega (arith, known.1, (parts_of_fit c.in-Group.code c.in-Group.parts (tree_of c.args.setting.now) (ap tree_of c.in-Group.is) c.requires).1)

pub push_setting-push_settings-requires : goal.push_setting-push_settings-requires
push_setting-push_settings-requires t c = (
  omega (arith, parts_smaller c.in-Group.code c.in-Group.parts (tree_of c.args.setting.now) (ap tree_of c.in-Group.is)),
  (parts_of_fit c.in-Group.code c.in-Group.parts (tree_of c.args.setting.now) (ap tree_of c.in-Group.is) c.requires).0,
)

pub push_setting-returns-in_ok-push_head-in-Group-clause-ok : goal.push_setting-returns-in_ok-push_head-in-Group-clause-ok
push_setting-returns-in_ok-push_head-in-Group-clause-ok t c =
    let known = c.in-Some.ensures in
    let short = (parts_of_fit c.in-Group.code c.in-Group.parts (tree_of c.args.setting.now) (ap tree_of c.in-Group.is) c.requires).1 in
    on_ok_weaker c.push_settings.result
    (group_pushed c.in-Group.code c.in-Group.parts (tree_of c.args.setting.now) (ap tree_of c.in-Group.is) c.args.out.now c.push_head-in-Group.new.out c.push_settings.new.out c.in-Some.length
    (omega (arith, known.1, short)) c.in_ok-push_head-in-Group.ensures.ok)
    c.push_settings.ensures.ok

pub push_settings-push_setting-requires : goal.push_settings-push_setting-requires
push_settings-push_setting-requires t c = (
  omega (arith, size_at c.args.settings.now c.loop-place.place (tree_of c.get.result.now) c.get.ensures),
  fits_at c.args.settings.now c.loop-place.place (tree_of c.get.result.now) c.get.ensures c.requires,
)

pub push_settings-loop-place-preserved : goal.push_settings-loop-place-preserved
push_settings-loop-place-preserved t c =
    c.in_ok-push_setting.ensures.ok ∙ ap (λ (x : List ℕ). x ++ spelled (tree_of c.get.result.now)) c.loop-place.invariant
    ∙ append_assoc c.args.out.now (spelling (take c.loop-place.place c.args.settings.now)) (spelled (tree_of c.get.result.now))
    ∙ ap (λ (x : List ℕ). c.args.out.now ++ x) (sym (spelled_more c.args.settings.now c.loop-place.place (tree_of c.get.result.now) c.get.ensures))
