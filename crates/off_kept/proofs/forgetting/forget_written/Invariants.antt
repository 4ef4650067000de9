use Rattle.std.proofs.Common.{◌≡◌, length}
use Rattle.off_kept.specs.Entries.{is_written}
use Rattle.off_kept.proofs.TurnLemmas.{Passed}
use Rattle.off_kept.proofs.forgetting.forget_written.Given as goal

abbrev pub invariant-loop-passed : goal.invariant-loop-passed
invariant-loop-passed l =
    Passed (is_written l.writes) l.fn.cache.entries l._passed l.cache.entries × (l.cache.cap ≡ l.fn.cache.cap) × (l._passed-end ≡ length l.fn.cache.entries)
