use Rattle.std.proofs.Common.{◌++◌, List, ℕ, length, drop, ap, ◌∙◌}
use Rattle.off_files.proofs.blocks.block.Goals as goal

pub returns-clause-written : goal.returns-clause-written
returns-clause-written c = c.put_two.ensures.written ∙ ap (λ (x : List ℕ). x ++ drop (length x) c.args.out.now) c.pieces-block.ensures.bytes

pub returns-clause-len : goal.returns-clause-len
returns-clause-len c = c.put_two.ensures.len ∙ ap length c.pieces-block.ensures.bytes
