-- The rules so far are passed.
use Rattle.std.proofs.Common.{◌≡◌, drop}
use Rattle.off_asking.specs.Claims.{refused_by}
use Rattle.off_asking.proofs.ruling.first_broken.Given as goal

abbrev pub invariant-loop-rule : goal.invariant-loop-rule
invariant-loop-rule g l = refused_by (drop l.rule-index l.rules) ≡ refused_by l.rules
