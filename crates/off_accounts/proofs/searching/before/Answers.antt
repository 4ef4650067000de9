use Rattle.off_accounts.proofs.SearchLemmas.{overlap_before, overlap_begins, relay_before, relay_begins, lost_before, lost_begins}
use Rattle.off_accounts.proofs.searching.before.Goals as goal

pub returns-in-Overlapping-clause-none : goal.returns-in-Overlapping-clause-none
returns-in-Overlapping-clause-none c = overlap_before c.args.sought.now c.before_pools.result c.in-Overlapping.whose c.in-Overlapping.field-1 c.in-Overlapping.field-2 c.in-Overlapping.is c.before_pools.ensures

pub returns-in-Overlapping-clause-begins : goal.returns-in-Overlapping-clause-begins
returns-in-Overlapping-clause-begins c = overlap_begins c.args.sought.now c.before_pools.result c.in-Overlapping.whose c.in-Overlapping.field-1 c.in-Overlapping.field-2 c.in-Overlapping.is c.before_pools.ensures

pub returns-in-WithRelay-clause-none : goal.returns-in-WithRelay-clause-none
returns-in-WithRelay-clause-none c = relay_before c.args.sought.now c.before_pools-in-WithRelay.result c.in-WithRelay.whose c.in-WithRelay.field-1 c.in-WithRelay.field-2 c.in-WithRelay.is c.before_pools-in-WithRelay.ensures

pub returns-in-WithRelay-clause-begins : goal.returns-in-WithRelay-clause-begins
returns-in-WithRelay-clause-begins c = relay_begins c.args.sought.now c.before_pools-in-WithRelay.result c.in-WithRelay.whose c.in-WithRelay.field-1 c.in-WithRelay.field-2 c.in-WithRelay.is c.before_pools-in-WithRelay.ensures

pub returns-in-LiveLost-clause-none : goal.returns-in-LiveLost-clause-none
returns-in-LiveLost-clause-none c = lost_before c.args.sought.now c.before_lost.result c.in-LiveLost.field-0 c.in-LiveLost.lost c.in-LiveLost.is c.before_lost.ensures.none

pub returns-in-LiveLost-clause-begins : goal.returns-in-LiveLost-clause-begins
returns-in-LiveLost-clause-begins c = lost_begins c.args.sought.now c.before_lost.result c.in-LiveLost.field-0 c.in-LiveLost.lost c.in-LiveLost.is c.before_lost.ensures.begins
