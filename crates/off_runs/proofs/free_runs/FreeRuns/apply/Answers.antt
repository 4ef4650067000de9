use Rattle.std.proofs.Common.{◌≡◌, [], List, length, vec_len, rules, sym, subst, ◌∙◌}
use Rattle.std.proofs.lemmas.List.{nil_from_length}
use Rattle.off_defs.specs.Tables.{write_all}
use Rattle.off_account_rules.specs.Rows.{pool_in}
use Rattle.off_runs.specs.Leases.{ground}
use Rattle.off_runs.specs.Held.{PoolHeld, RunsHeld, KeepsPools}
use Rattle.off_runs.specs.Shelf.{Shelved}
use Rattle.off_runs.proofs.ApplyLemmas.{begun_shelved, applied_keeps}
use Rattle.off_runs.proofs.SeenLemmas.{moves}
use Rattle.off_runs.proofs.EachLemmas.{none_changed}
use Rattle.off_runs.proofs.free_runs.FreeRuns.apply.Goals as goal

pub returns-clause-keeps : goal.returns-clause-keeps
returns-clause-keeps c = λ g h by m s.
    let writes = c.args.writes.now in
    let aside = c.self.inside.retired.items in
    let len : length aside ≡ vec_len c.self.inside.retired = search rules in
    let none : aside ≡ [] = nil_from_length aside (len ∙ c.self.invariant.none) in
    let begun = subst (λ (k : RunsHeld). Shelved g by k.pools aside) (sym c.self.view_is) (begun_shelved writes by g h m c.args.self.now.pools aside none s) in
    subst (λ (ps : List PoolHeld). KeepsPools ps h) (sym (none_changed c.take_hubs.new.pools.items c.pass_all.new.pools.items c.pass_all.ensures.each))
    (applied_keeps writes by g h m c.take_pools.new.pools.items c.take_pools.new.aside.items c.take_leases.new.pools.items c.take_hubs.new.pools.items (c.take_pools.ensures.shelved g by begun)
    c.take_leases.ensures.taken c.take_hubs.ensures.taken)

pub returns-clause-tables : goal.returns-clause-tables
returns-clause-tables c = λ t opens s. returns-clause-keeps c (ground t) (ground (write_all t c.args.writes.now)) (pool_in t) (moves t opens c.args.writes.now) s
