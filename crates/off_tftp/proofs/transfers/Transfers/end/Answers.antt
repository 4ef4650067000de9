use Rattle.std.proofs.Common.{◌∙◌, arith}
use Rattle.off_tftp.proofs.EntryLemmas.{own_place, got_none, remove_is, sorted_others, kept_removed, kept_all}
use Rattle.off_tftp.proofs.transfers.Transfers.end.Goals as goal

pub invariant_of-self : goal.invariant_of-self
invariant_of-self c = (
  sorted_others c.args.peer c.self.inside.live.items _ c.self.invariant.0
      (c.remove-ended.ensures.items ∙ remove_is c.args.peer c.self.inside.live.items c.args.place.index c.is_at.result c.self.invariant.0 (own_place c.args.peer c.args.self.now c.self.inside.live.items c.args.place.index c.self.invariant.0 c.self.view_is c.requires) c.is_at.ensures c.if-is_at.true),
  omega (arith, c.remove-ended.ensures.len, c.self.invariant.1),
  omega (arith, c.remove-ended.ensures.capacity, c.self.invariant.2),
)

pub returns-then-is_at : goal.returns-then-is_at
returns-then-is_at c =
    kept_removed c.args.peer c.args.self.now c.self.inside.live.items c.remove-ended.new.self.items c.self.invariant.0 c.self.view_is
    (c.remove-ended.ensures.items ∙ remove_is c.args.peer c.self.inside.live.items c.args.place.index c.is_at.result c.self.invariant.0 (own_place c.args.peer c.args.self.now c.self.inside.live.items c.args.place.index c.self.invariant.0 c.self.view_is c.requires) c.is_at.ensures c.if-is_at.true)

pub returns-else-is_at : goal.returns-else-is_at
returns-else-is_at c =
    kept_all c.args.peer c.args.self.now
    (got_none c.args.peer c.args.self.now c.self.inside.live.items c.args.place.index c.is_at.result c.self.invariant.0 c.self.view_is (own_place c.args.peer c.args.self.now c.self.inside.live.items c.args.place.index c.self.invariant.0 c.self.view_is c.requires) c.is_at.ensures c.if-is_at.false)
