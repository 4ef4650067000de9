use Rattle.std.proofs.Common.{length}
use Rattle.json.specs.Json.{Json, Members}
use Rattle.json.specs.Find.{BeginsWith, InMembers}
use Rattle.off_documents.proofs.WalkLemmas.{Kept}
use Rattle.off_documents.proofs.parts.last_three.Given as goal

abbrev pub invariant-loop-name : goal.invariant-loop-name
invariant-loop-name l =
    (j : Json) → BeginsWith l.element j → (rest : Members) × InMembers l.members rest × Kept l.first l.one rest j × Kept l.second l.two rest j × Kept l.third l.three rest j

abbrev pub decreases-loop-name : goal.decreases-loop-name
decreases-loop-name l = length l.members
