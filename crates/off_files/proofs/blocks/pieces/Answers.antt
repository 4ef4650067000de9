use Rattle.std.proofs.Common.{rules}
use Rattle.off_files.proofs.BlockLemmas.{block_joins}
use Rattle.off_files.proofs.blocks.pieces.Goals as goal

pub returns-clause-bytes : goal.returns-clause-bytes
returns-clause-bytes c =
    block_joins c.args.body.now c.args.tail.now c.args.size c.args.n c.part-first.result.now c.part-rest.result.now c.requires (search rules) (search rules)
