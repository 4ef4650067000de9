use Rattle.std.proofs.lemmas.Option.{slice_get_within}
use Rattle.off_runs.proofs.TakenLemmas.{cut_first, cut_last}
use Rattle.off_runs.proofs.runs.cut.Goals as goal

pub returns-else-address-run-clause-done : goal.returns-else-address-run-clause-done
returns-else-address-run-clause-done c = λ done.
    cut_last c.args.runs.now.items c.args.place (slice_get_within c.args.runs.now.items c.args.place c.args.run c.requires.at) c.args.address.0 c.args.run c.if-run-address.true c.if-address-run.false

pub returns-then-address-run-2-clause-done : goal.returns-then-address-run-2-clause-done
returns-then-address-run-2-clause-done c = λ done.
    cut_first c.args.runs.now.items c.args.place (slice_get_within c.args.runs.now.items c.args.place c.args.run c.requires.at) c.args.address.0 c.args.run c.if-run-address.false c.if-address-run-2.true
