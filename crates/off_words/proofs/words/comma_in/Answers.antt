use Rattle.std.proofs.Common.{below_more}
use Rattle.off_words.proofs.WordLemmas.{not_comma, comma_found, comma_missing}
use Rattle.off_words.proofs.words.comma_in.Goals as goal

pub returns-then-byte-eq44-clause-place : goal.returns-then-byte-eq44-clause-place
returns-then-byte-eq44-clause-place c = comma_found _ _ c.loop-i-test.true c.loop-i.invariant c.if-byte-eq44.true

pub loop-i-preserved : goal.loop-i-preserved
loop-i-preserved c = below_more _ _ c.loop-i.invariant (not_comma _ c.if-byte-eq44.false)

pub returns-clause-place : goal.returns-clause-place
returns-clause-place c = comma_missing _ _ c.loop-i-test.false c.loop-i.invariant
