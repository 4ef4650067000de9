-- The add-ons of lesser numbers are dropped.
use Rattle.std.proofs.Common.{◌≡◌}
use Rattle.off_accounts.proofs.RemovalLemmas.{drops_below}
use Rattle.off_accounts.proofs.planning.subscriber_drops.Given as goal

abbrev pub invariant-loop-number : goal.invariant-loop-number
invariant-loop-number l = l.writes ≡ drops_below l.n l.number
