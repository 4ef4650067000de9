use Rattle.std.proofs.Common.{◌≡◌, ◌≤◌, ◌<◌, ◌-◌, true, false, length, sym, subst, ◌∙◌, rules, arith, length-set}
use Rattle.std.proofs.lemmas.List.{get_or_read}
use Rattle.std.proofs.lemmas.Bool.{not-false}
use Rattle.off_runs.specs.Runs.{listed}
use Rattle.off_runs.specs.Held.{Laid}
use Rattle.off_runs.proofs.TakenLemmas.{laid_after}
use Rattle.off_runs.proofs.pool_runs.PoolRuns.set.Goals as goal
use Rattle.off_runs.proofs.pool_runs.PoolRuns.set.Goals.{then-self, else-self}

true_not_false : true ≡ false → ⊥
true_not_false e = cc

pub invariant_of-self : goal.invariant_of-self
invariant_of-self c =
    let i = c.self.inside in
    let place = c.args.address.0 - i.pool.first.0 in
    let low : i.pool.first.0 ≤ c.args.address.0 = search rules in
    let within : place < length i.expiries.items = search rules in
    let before : listed i.pool.first.0 i.expiries.items c.args.address.0 ≡ c.index-before.result.now =
    sym (get_or_read i.expiries.items place c.index-before.result.now within c.index-before.ensures 0) in
    record {
      fits = c.self.invariant.fits;
      sized = length-set i.expiries.items place c.args.expiry ∙ c.self.invariant.sized;
      roomy = omega (arith, c.self.invariant.roomy, c.follow-follows.ensures.capacity);
      laid = λ e.
          elim c.if-self.branch [
            | then-self w ↦ absurd (true_not_false (sym w.if-self.true ∙ (sym w.self-is ∙ e)))
            | else-self w ↦
                subst (Laid i.pool _ i.laid_at.0 c.follow-follows.new.runs.items) (sym c.min-self-inside.ensures)
                (laid_after i.pool i.expiries.items c.args.address.0 c.args.expiry i.laid_at.0 low within i.runs.items c.follow-follows.new.runs.items i.soonest (c.self.invariant.laid w.if-self.false)
                (λ are. c.follow-follows.ensures.done i.pool (listed i.pool.first.0 i.expiries.items) before are (not-false c.follow-follows.result (sym w.self-is ∙ e))))
          ];
    }
