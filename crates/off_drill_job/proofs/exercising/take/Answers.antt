use Rattle.std.proofs.Common.{ap, ◌∙◌, List, ℕ}
use Rattle.std.specs.Str.{bytes_eq}
use Rattle.off_drill_job.proofs.TurnLemmas.{took, wanted_memory, keeper_failed}
use Rattle.off_drill_job.proofs.LinkLemmas.{link_unasked}
use Rattle.off_drill_job.proofs.exercising.take.Goals as goal

pub returns-in-Did : goal.returns-in-Did
returns-in-Did g c =
    took c.args.event.now c.args.words.now c.step.new.out c.send_all-all.result c.eq.result c.args.office.now c.step.new.self _ _ _ _ c.args.tally.now c.count_said.result
    (g.met.K.Keeper.rests c.args.keeper.now) (g.met.K.Keeper.rests c.step.new.keeper)
    c.in-Did.ensures c.send_all-all.ensures c.count_said.ensures
    (c.eq.ensures ∙ ap (λ (v : List ℕ). bytes_eq v c.args.words.now) c.line.ensures.text)

pub returns-in-Memory : goal.returns-in-Memory
returns-in-Memory g c = (wanted_memory _ _ _ _ _ _ (g.met.K.Keeper.rests c.args.keeper.now) (g.met.K.Keeper.rests c.step.new.keeper) c.in-Memory.ensures, link_unasked _)

pub returns : goal.returns
returns g c = (keeper_failed _ _ _ _ _ _ (g.met.K.Keeper.rests c.args.keeper.now) (g.met.K.Keeper.rests c.step.new.keeper) c.in-Keeper.ensures, link_unasked _)
