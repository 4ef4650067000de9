use Rattle.std.proofs.Common.{◌≡◌, ◌≤◌, map, drop}
use Rattle.json.specs.Tape.{node_token}
use Rattle.serde_json.specs.Read.{max_depth}
use Rattle.off_documents.specs.Documents.{level_behind}
use Rattle.off_documents.proofs.levels.is_convertible.Given as goal

abbrev pub invariant-loop-node : goal.invariant-loop-node
invariant-loop-node l = record {
  most : l.level ≤ max_depth;
  same : level_behind 0 (map node_token l.nodes) ≡ level_behind l.level (map node_token (drop l.node-index l.nodes));
}
