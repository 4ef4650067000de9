use Rattle.std.proofs.Common.{[], refl, arith}
use Rattle.off_http.specs.Stages.{answer_of}
use Rattle.off_http.proofs.PartLemmas.{nothing_holds, stage_says}
use Rattle.off_http.proofs.laws.some_answer.Goals as goal

pub next_stage-requires : goal.next_stage-requires
next_stage-requires c = record { seen_in = omega arith; held = nothing_holds [] refl }

pub returns : goal.returns
returns c = (answer_of c.args.bytes.now c.next_stage.result, stage_says c.args.bytes.now c.next_stage.result c.next_stage.ensures)
