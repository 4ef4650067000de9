use Rattle.off_turns.proofs.ServeLemmas.{going_none, going_more, served_end, served_cut, served_memory, served_missed, served_all}
use Rattle.off_turns.proofs.events.serve_events.Goals as goal

pub loop-done-init : goal.loop-done-init
loop-done-init g c = going_none _ _ (g.met.K.Keeper.rests c.args.keeper.now) c.requires

pub returns-in-Ended : goal.returns-in-Ended
returns-in-Ended g c = served_end (g.met.K.Keeper.rests c.take_turn.new.keeper) c.loop-done.invariant c.loop-done-test.true c.in-Ended.ensures

pub returns-in-Cut : goal.returns-in-Cut
returns-in-Cut g c = served_cut (g.met.K.Keeper.rests c.take_turn.new.keeper) c.loop-done.invariant c.loop-done-test.true c.in-Cut.ensures

pub returns-in-Memory : goal.returns-in-Memory
returns-in-Memory g c = served_memory c.loop-done.invariant c.loop-done-test.true c.in-Memory.ensures

pub returns-in-Missed : goal.returns-in-Missed
returns-in-Missed g c = served_missed c.loop-done.invariant c.loop-done-test.true c.in-Missed.ensures

pub loop-done-preserved : goal.loop-done-preserved
loop-done-preserved g c = going_more (g.met.K.Keeper.rests c.take_turn.new.keeper) c.loop-done.invariant c.in-Went.ensures

pub returns : goal.returns
returns g c = served_all c.loop-done.invariant c.loop-done-test.false c.loop-done.auto.done-end
