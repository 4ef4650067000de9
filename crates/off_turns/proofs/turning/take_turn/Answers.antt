use Rattle.std.proofs.Common.{sym, ◌∙◌, true, false}
use Rattle.off_turns.proofs.TurnLemmas.{turn_written, turn_cut}
use Rattle.off_turns.proofs.turning.take_turn.Goals as goal

pub returns-in-Ok : goal.returns-in-Ok
returns-in-Ok g c =
    turn_written false c.in-Took.event c.args.number c.args.office.now c.act.new.office (g.L.Link.seen c.args.link.now) (g.L.Link.seen c.take_event.new.link) (g.L.Link.seen c.act.new.link)
    (g.K.Keeper.seen c.args.keeper.now) (g.K.Keeper.seen c.act.new.keeper) (g.W.Sink.seen c.args.out.now) (g.W.Sink.seen c.act.new.out)
    c.in-Took.ensures c.in-Ok.ensures (sym c.is_end.ensures ∙ c.if-is_end.false)

pub returns-in-Took : goal.returns-in-Took
returns-in-Took g c =
    turn_cut c.in-Took.event c.args.number c.args.office.now c.act.new.office (g.L.Link.seen c.args.link.now) (g.L.Link.seen c.take_event.new.link) (g.L.Link.seen c.act.new.link)
    (g.K.Keeper.seen c.args.keeper.now) (g.K.Keeper.seen c.act.new.keeper) (g.W.Sink.seen c.args.out.now) (g.W.Sink.seen c.act.new.out)
    c.in-Took.ensures c.in-Err.ensures

pub returns-then-is_end : goal.returns-then-is_end
returns-then-is_end g c =
    turn_written true c.in-Took.event c.args.number c.args.office.now c.act.new.office (g.L.Link.seen c.args.link.now) (g.L.Link.seen c.take_event.new.link) (g.L.Link.seen c.act.new.link)
    (g.K.Keeper.seen c.args.keeper.now) (g.K.Keeper.seen c.act.new.keeper) (g.W.Sink.seen c.args.out.now) (g.W.Sink.seen c.act.new.out)
    c.in-Took.ensures c.in-Ok.ensures (sym c.is_end.ensures ∙ c.if-is_end.true)
