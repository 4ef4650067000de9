use Rattle.std.proofs.Common.{◌≡◌, ℕ, ◌+◌, List, ◌++◌, drop, length, sym, subst, ap, ◌∙◌, arith}
use Rattle.off_base.specs.Tree.{leaf}
use Rattle.off_tlv.specs.Grammar.{Level, AllStand}
use Rattle.off_tlv.specs.Front.{IsSpelled, SpellsSetting}
use Rattle.off_tlv.specs.Seen.{level_of}
use Rattle.off_tlv.proofs.ReadingLemmas.{spelled_not_short, one_spelled, inner_spelled, leaf_spells, group_spelled, built_more}
use Rattle.off_tlv.proofs.reading.+settings.Goals as goal

pub setting_of-settings_of-requires : goal.setting_of-settings_of-requires
setting_of-settings_of-requires t c = (
  omega arith,
  subst (λ (x : Level). IsSpelled x c.args.value.now) (sym c.inside.ensures)
      (inner_spelled (level_of c.args.level) c.args.code c.args.value.now c.requires (sym c.is_group.ensures ∙ c.if-is_group.true)),
)

pub setting_of-returns-then-is_group : goal.setting_of-returns-then-is_group
setting_of-returns-then-is_group t c =
    let parts = c.in_ok-parts.ensures in
    group_spelled (level_of c.args.level) c.args.code c.args.value.now c.in_ok-parts.parts c.requires (sym c.is_group.ensures ∙ c.if-is_group.true)
    (subst (λ (x : Level). AllStand x c.in_ok-parts.parts) c.inside.ensures parts.0) parts.1

pub setting_of-returns : goal.setting_of-returns
setting_of-returns t c =
    let copied : c.push_all.new.self ≡ c.args.value.now = c.in_ok-push_all.ensures.ok ∙ ap (λ (x : List ℕ). x ++ c.args.value.now) c.new-bytes.ensures in
    subst (λ (x : List ℕ). SpellsSetting (level_of c.args.level) c.args.code c.args.value.now (leaf c.args.code x)) (sym copied)
    (leaf_spells (level_of c.args.level) c.args.code c.args.value.now c.requires (sym c.is_group.ensures ∙ c.if-is_group.false))

pub settings_of-unreachable-requires : goal.settings_of-unreachable-requires
settings_of-unreachable-requires t c =
    spelled_not_short (level_of c.args.level) (drop c.loop-place.place c.args.bytes.now) c.loop-place.invariant.3 c.in_default.ensures

pub settings_of-setting_of-requires : goal.settings_of-setting_of-requires
settings_of-setting_of-requires t c =
    let takes = c.in-Some.ensures in
    (omega (arith, takes.fits), (one_spelled (level_of c.args.level) c.args.bytes.now c.in-Some.value.now c.loop-place.place c.loop-place.invariant.3 takes).0)

pub settings_of-loop-place-preserved : goal.settings_of-loop-place-preserved
settings_of-loop-place-preserved t c =
    let onward : c.loop-place.place + (2 + length c.in-Some.value.now) ≡ c.loop-place.place + 2 + length c.in-Some.value.now = omega arith in
    let takes = c.in-Some.ensures in
    let more = built_more (level_of c.args.level) c.args.bytes.now c.in-Some.value.now c.loop-place.place c.loop-place.settings c.push.new.self _ c.loop-place.invariant.1 c.loop-place.invariant.0 takes c.in_ok-setting_of.ensures c.in_ok-push.ensures.ok in
    let rest = (one_spelled (level_of c.args.level) c.args.bytes.now c.in-Some.value.now c.loop-place.place c.loop-place.invariant.3 takes).1 in
    rw onward (more.0, more.1, takes.fits, rest)
