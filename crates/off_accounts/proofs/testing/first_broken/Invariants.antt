-- The tests so far are passed, and have looked up no more keys than they may.
use Rattle.std.proofs.Common.{◌≡◌, false, drop}
use Rattle.off_outside.specs.KeeperCalls.{Reads}
use Rattle.off_accounts.specs.Tests.{any_searches}
use Rattle.off_accounts.proofs.TriedLemmas.{IsLeft, Tried}
use Rattle.off_accounts.proofs.AskedLemmas.{Asked}
use Rattle.off_accounts.proofs.testing.first_broken.Given as goal

abbrev pub invariant-loop-test : goal.invariant-loop-test
invariant-loop-test g l =
    Reads (IsLeft l.tests (drop l.test-index l.tests)) (g.K.Keeper.seen l.fn.keeper) (g.K.Keeper.seen l.keeper)
    × (any_searches l.tests ≡ false → Tried l.tests (drop l.test-index l.tests) (g.K.Keeper.seen l.fn.keeper) (g.K.Keeper.seen l.keeper))
    × Asked l.tests (drop l.test-index l.tests) (g.K.Keeper.seen l.fn.keeper) (g.K.Keeper.seen l.keeper)
