use Rattle.off_tftp.proofs.EntryLemmas.{own_place, got, got_none}
use Rattle.off_tftp.proofs.transfers.Transfers.get.Goals as goal

pub returns-then-is_at : goal.returns-then-is_at
returns-then-is_at c =
    got c.args.peer c.args.self.now c.self.inside.live.items c.args.place.index c.index.result.now c.is_at.result c.self.invariant.0 c.self.view_is (own_place c.args.peer c.args.self.now c.self.inside.live.items c.args.place.index c.self.invariant.0 c.self.view_is c.requires) c.is_at.ensures
    c.if-is_at.true c.index.ensures

pub returns-else-is_at : goal.returns-else-is_at
returns-else-is_at c =
    got_none c.args.peer c.args.self.now c.self.inside.live.items c.args.place.index c.is_at.result c.self.invariant.0 c.self.view_is (own_place c.args.peer c.args.self.now c.self.inside.live.items c.args.place.index c.self.invariant.0 c.self.view_is c.requires) c.is_at.ensures c.if-is_at.false
