use Rattle.std.proofs.Common.{◌∙◌}
use Rattle.off_office.specs.contracts.office.Office.{the_view}
use Rattle.off_office.proofs.TransferLemmas.{tick_done, tick_missed}
use Rattle.off_office.proofs.office.Office.take_tick.Goals.{in-Ok, in-Err}
use Rattle.off_office.proofs.office.Office.take_tick.Goals as goal

pub returns : goal.returns
returns c = elim c.match-on_tick.branch [
  | in-Ok w ↦
      tick_done _ c.on_tick.result w.in-Ok.done (the_view c.self.inside) c.args.self.now c.on_tick.new.self c.match-on_tick.out
      w.result-is w.in-Ok.is c.on_tick.ensures.ticks c.self.view_is (w.out-is ∙ w.say_tick.ensures)
  | in-Err w ↦
      tick_missed _ (the_view c.self.inside) c.args.self.now c.on_tick.new.self c.args.out.now c.match-on_tick.out w.result-is c.self.view_is
      w.in-Err.ensures.kept c.requires (w.out-is ∙ w.set_line.ensures)
]
