use Rattle.std.proofs.Common.{arith}
use Rattle.off_tftp.proofs.TickedLemmas.{again_few, sorted_ticked, ticks_are, idle_ticks, not_idle}
use Rattle.off_tftp.proofs.transfers.Transfers.on_tick.Goals as goal

pub overflow_cast-ticked : goal.overflow_cast-ticked
overflow_cast-ticked c =
    let few = again_few c.args.now.0 c.self.inside.live.items c.in_ok-packets.packets c.len-again.result c.in_ok-packets.ensures c.len-again.ensures
    (omega (arith, c.self.invariant.1, c.self.inside.live.ok.0)) in
    omega (arith, few)

pub invariant_of-self : goal.invariant_of-self
invariant_of-self c = (
  sorted_ticked c.args.now.0 c.self.inside.live.items c.tick_all.new.entries.items c.self.invariant.0 c.tick_all.ensures.items,
  omega (arith, c.tick_all.ensures.few, c.self.invariant.1),
  omega (arith, c.tick_all.ensures.capacity, c.self.invariant.2),
)

pub returns-clause-ticks : goal.returns-clause-ticks
returns-clause-ticks c =
    ticks_are c.args.now.0 c.args.self.now c.self.inside.live.items c.tick_all.new.entries.items c.in_ok-packets.packets c.len-again.result c.len-before.result c.len.result
    c.self.invariant.0 c.self.view_is c.tick_all.ensures.items c.in_ok-packets.ensures c.len-again.ensures
    (omega (arith, c.len-before.ensures, c.self.inside.live.ok.0)) (omega (arith, c.len.ensures, c.tick_all.new.entries.ok.0))

pub returns-then-is_empty-clause-ticks : goal.returns-then-is_empty-clause-ticks
returns-then-is_empty-clause-ticks c =
    idle_ticks c.args.now.0 c.args.self.now c.new.result c.is_empty.result c.new.ensures c.is_empty.ensures c.if-is_empty.true

pub returns-in_err-packets-clause-idle : goal.returns-in_err-packets-clause-idle
returns-in_err-packets-clause-idle c none =
    absurd (not_idle c.args.self.now c.is_empty.result c.is_empty.ensures c.if-is_empty.false none)

pub returns-clause-idle : goal.returns-clause-idle
returns-clause-idle c none =
    absurd (not_idle c.args.self.now c.is_empty.result c.is_empty.ensures c.if-is_empty.false none)
