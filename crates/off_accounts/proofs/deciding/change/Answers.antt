use Rattle.std.proofs.Common.{sym, ◌∙◌}
use Rattle.off_outside.proofs.KeeperLemmas.{reads_as}
use Rattle.off_accounts.proofs.DecideLemmas.{refused_by, planned_by}
use Rattle.off_accounts.proofs.CommandWalks.{few_spent, tests_walk, drops_walk, counts_walk}
use Rattle.off_accounts.proofs.deciding.change.Goals as goal

pub returns-in-Some-clause-told : goal.returns-in-Some-clause-told
returns-in-Some-clause-told g c =
    refused_by c.args.asked.now c.args.users.now c.in_ok-subject.subject c.args.c.now c.tests_of-tests.result c.requires.changes c.tests_of-tests.ensures c.in-Some.rule c.in_ok-subject.ensures.told
    (reads_as c.in_ok-rule.ensures.told (λ t is. sym c.in-Some.is ∙ is))

pub returns-clause-told : goal.returns-clause-told
returns-clause-told g c =
    planned_by c.args.asked.now c.args.users.now c.in_ok-subject.subject c.args.c.now c.tests_of-tests.result c.requires.changes c.tests_of-tests.ensures c.in_ok-writes.writes c.in_ok-counts.counts c.in_ok-subject.ensures.told
    (reads_as c.in_ok-rule.ensures.told (λ t is. sym c.in_default.is ∙ is)) c.in_ok-writes.ensures.told c.in_ok-counts.ensures.told

pub returns-in-Some-clause-walks : goal.returns-in-Some-clause-walks
returns-in-Some-clause-walks g c =
    tests_walk c.args.asked.now.counts c.args.asked.now.at c.in_ok-subject.subject c.args.c.now c.tests_of-tests.result c.tests_of-tests.ensures c.in_ok-subject.ensures.spent c.in_ok-subject.ensures.pool
    c.in_ok-rule.ensures.asks

pub returns-clause-walks : goal.returns-clause-walks
returns-clause-walks g c =
    counts_walk c.args.asked.now.counts c.args.asked.now.at c.in_ok-subject.subject c.args.c.now c.tests_of-tests.result c.tests_of-tests.ensures c.in_ok-subject.ensures.spent c.in_ok-subject.ensures.pool
    c.in_ok-rule.ensures.asks c.in_ok-rule.ensures.told c.in_ok-writes.ensures.walks c.in_ok-counts.ensures.spent

pub returns-in_err-rule-clause-walks : goal.returns-in_err-rule-clause-walks
returns-in_err-rule-clause-walks g c =
    tests_walk c.args.asked.now.counts c.args.asked.now.at c.in_ok-subject.subject c.args.c.now c.tests_of-tests.result c.tests_of-tests.ensures c.in_ok-subject.ensures.spent c.in_ok-subject.ensures.pool
    c.in_err-rule.ensures.asks

pub returns-in_err-writes-clause-walks : goal.returns-in_err-writes-clause-walks
returns-in_err-writes-clause-walks g c =
    drops_walk c.args.asked.now.counts c.args.asked.now.at c.in_ok-subject.subject c.args.c.now c.tests_of-tests.result c.tests_of-tests.ensures c.in_ok-subject.ensures.spent c.in_ok-subject.ensures.pool
    c.in_ok-rule.ensures.asks c.in_ok-rule.ensures.told c.in_err-writes.ensures.walks

pub returns-in_err-counts-clause-walks : goal.returns-in_err-counts-clause-walks
returns-in_err-counts-clause-walks g c =
    counts_walk c.args.asked.now.counts c.args.asked.now.at c.in_ok-subject.subject c.args.c.now c.tests_of-tests.result c.tests_of-tests.ensures c.in_ok-subject.ensures.spent c.in_ok-subject.ensures.pool
    c.in_ok-rule.ensures.asks c.in_ok-rule.ensures.told c.in_ok-writes.ensures.walks c.in_err-counts.ensures.spent

pub returns-clause-spent : goal.returns-clause-spent
returns-clause-spent g c =
    few_spent c.args.asked.now.counts c.args.asked.now.at c.in_ok-subject.subject c.args.c.now c.tests_of-tests.result c.tests_of-tests.ensures c.in_ok-subject.ensures.spent
    c.in_ok-rule.ensures.spent c.in_ok-writes.ensures.spent c.in_ok-counts.ensures.spent

pub returns-in_err-counts-clause-spent : goal.returns-in_err-counts-clause-spent
returns-in_err-counts-clause-spent g c =
    few_spent c.args.asked.now.counts c.args.asked.now.at c.in_ok-subject.subject c.args.c.now c.tests_of-tests.result c.tests_of-tests.ensures c.in_ok-subject.ensures.spent
    c.in_ok-rule.ensures.spent c.in_ok-writes.ensures.spent c.in_err-counts.ensures.spent
