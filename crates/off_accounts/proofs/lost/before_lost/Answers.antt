use Rattle.std.proofs.Common.{arith}
use Rattle.off_accounts.proofs.LostLemmas.{none_before_all, none_before_one, begins_at_all, begins_at_one}
use Rattle.off_accounts.proofs.lost.before_lost.Goals as goal

pub returns-then-first-eq0-clause-none : goal.returns-then-first-eq0-clause-none
returns-then-first-eq0-clause-none c = none_before_all c.args.lost.now c.before_leases.result c.before_leases.ensures

pub returns-then-first-eq0-clause-begins : goal.returns-then-first-eq0-clause-begins
returns-then-first-eq0-clause-begins c = begins_at_all c.args.lost.now c.before_leases.result c.if-first-eq0.true c.before_leases.ensures

pub returns-clause-none : goal.returns-clause-none
returns-clause-none c = none_before_one c.args.lost.now c.lease_key.result _ (omega (arith, c.if-first-eq0.false)) c.lease_key.ensures

pub returns-clause-begins : goal.returns-clause-begins
returns-clause-begins c = begins_at_one c.args.lost.now c.lease_key.result _ (omega (arith, c.if-first-eq0.false)) c.lease_key.ensures
