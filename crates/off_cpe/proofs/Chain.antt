-- Calls of a keeper in a row, and how many there are.
use Rattle.off_outside.proofs.KeeperLemmas.{reads_then, reads_as, reads_none, reads_forgotten, failed_then, spent_none, spent_one, spent_then, spent_within}

pub ruleset rows = (reads_then, reads_as, reads_none, reads_forgotten, failed_then, spent_none, spent_one, spent_then, spent_within)
