use Rattle.std.proofs.Common.{◌≤◌, IfSome, Option, subst, sym, arith}
use Rattle.off_runs.specs.declared.runs.Run.{Run}
use Rattle.off_runs.specs.Runs.{AreRuns}
use Rattle.off_runs.specs.Changes.{but_address}
use Rattle.off_runs.proofs.TakenLemmas.{stands_at, all_before, behind_all, cut_runs}
use Rattle.off_runs.proofs.runs.take_out.Goals as goal

pub returns-then-place-len-clause-done : goal.returns-then-place-len-clause-done
returns-then-place-len-clause-done c = λ pool free are done.
    all_before pool free c.args.runs.now.items c.place_up_to-place.result c.args.address.0 are c.place_up_to-place.ensures.front (omega (arith, c.if-place-len.true, c.len.ensures, c.args.runs.now.ok.0))

pub cut-requires-clause-at : goal.cut-requires-clause-at
cut-requires-clause-at c =
    stands_at c.args.runs.now.items c.place_up_to-place.result c.index-run.result.now (omega (arith, c.if-place-len.false, c.place_up_to-place.ensures.within, c.len.ensures, c.args.runs.now.ok.0)) c.index-run.ensures

pub returns-then-address-run-clause-done : goal.returns-then-address-run-clause-done
returns-then-address-run-clause-done c = λ pool free are done.
    behind_all pool free c.args.runs.now.items c.place_up_to-place.result c.args.address.0 c.index-run.result.now are c.place_up_to-place.ensures.front
    (stands_at c.args.runs.now.items c.place_up_to-place.result c.index-run.result.now (omega (arith, c.if-place-len.false, c.place_up_to-place.ensures.within, c.len.ensures, c.args.runs.now.ok.0)) c.index-run.ensures)
    c.if-address-run.true

pub cut-requires-clause-high : goal.cut-requires-clause-high
cut-requires-clause-high c =
    subst (λ (o : Option Run). IfSome o (λ run. c.args.address.0 ≤ run.last.0)) (cut-requires-clause-at c) c.place_up_to-place.ensures.here

pub returns-clause-done : goal.returns-clause-done
returns-clause-done c = λ pool free are done.
    let at = stands_at c.args.runs.now.items c.place_up_to-place.result c.index-run.result.now (omega (arith, c.if-place-len.false, c.place_up_to-place.ensures.within, c.len.ensures, c.args.runs.now.ok.0)) c.index-run.ensures in
    subst (AreRuns pool (but_address c.args.address.0 free)) (sym (c.cut.ensures.done done))
    (cut_runs pool free c.args.runs.now.items c.place_up_to-place.result c.args.address.0 c.index-run.result.now are c.place_up_to-place.ensures.front at
    (omega (arith, c.if-address-run.false)) (subst (λ (o : Option Run). IfSome o (λ run. c.args.address.0 ≤ run.last.0)) at c.place_up_to-place.ensures.here))
