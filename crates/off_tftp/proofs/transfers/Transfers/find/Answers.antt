use Rattle.off_tftp.proofs.EntryLemmas.{held_place}
use Rattle.off_tftp.proofs.transfers.Transfers.find.Goals as goal

pub returns : goal.returns
returns c = held_place c.args.peer c.args.self.now c.self.inside.live.items c.place_of.result c.self.invariant.0 c.self.view_is c.place_of.ensures.place
