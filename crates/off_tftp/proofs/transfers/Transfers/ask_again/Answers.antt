use Rattle.std.proofs.Common.{slice_set, ap}
use Rattle.off_defs.specs.State.{Transfer}
use Rattle.off_transfer_rules.specs.Transfers.{asked_again}
use Rattle.off_tftp.proofs.EntryLemmas.{own_place, set_is_put, sorted_put, kept_changed, unchanged}
use Rattle.off_tftp.proofs.transfers.Transfers.ask_again.Goals as goal

pub invariant_of-self : goal.invariant_of-self
invariant_of-self c = (
  sorted_put c.args.peer c.ask_again.new.self c.self.inside.live.items _ c.self.invariant.0
      (set_is_put c.args.peer c.self.inside.live.items c.args.place.index c.index_mut.result.now c.ask_again.new.self c.is_at.result (own_place c.args.peer c.args.self.now c.self.inside.live.items c.args.place.index c.self.invariant.0 c.self.view_is c.requires) c.is_at.ensures c.if-is_at.true c.index_mut.ensures.value),
  c.self.invariant.1,
  c.self.invariant.2,
)

pub returns-then-is_at : goal.returns-then-is_at
returns-then-is_at c =
    kept_changed c.args.peer c.args.self.now c.self.inside.live.items _ c.args.place.index c.index_mut.result.now c.is_at.result (asked_again c.args.now.0) c.self.invariant.0 c.self.view_is
    (own_place c.args.peer c.args.self.now c.self.inside.live.items c.args.place.index c.self.invariant.0 c.self.view_is c.requires) c.is_at.ensures c.if-is_at.true c.index_mut.ensures.value
    (ap (λ (x : Transfer). slice_set c.self.inside.live.items c.args.place.index (c.index_mut.result.now.0, x)) c.ask_again.ensures)

pub returns-else-is_at : goal.returns-else-is_at
returns-else-is_at c =
    unchanged c.args.peer c.args.self.now c.self.inside.live.items c.args.place.index c.is_at.result (asked_again c.args.now.0) c.self.invariant.0 c.self.view_is (own_place c.args.peer c.args.self.now c.self.inside.live.items c.args.place.index c.self.invariant.0 c.self.view_is c.requires)
    c.is_at.ensures c.if-is_at.false
