-- Lemmas on a keeper's reads, named once for the functions that make several.
use Rattle.off_outside.proofs.KeeperLemmas.{reads_as, reads_none, reads_then, failed_then, spent_none, spent_one, spent_then, spent_within}

-- a read at most
pub ruleset one_read = (reads_none, spent_none, spent_one)

-- reads within a number of calls
pub ruleset counted_reads = (reads_as, reads_none, spent_none, spent_one, spent_then, spent_within)

-- reads one after another, of which each may fail
pub ruleset chained_reads = (reads_then, failed_then)

pub ruleset counted_chain = (reads_then, failed_then, reads_as, spent_none, spent_one, spent_then, spent_within)
