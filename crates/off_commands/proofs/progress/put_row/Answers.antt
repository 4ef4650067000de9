use Rattle.std.proofs.Common.{subst, ap, ◌++◌, ◌∷◌, [], ◌∙◌}
use Rattle.off_defs.specs.declared.keys.Key.{Key}
use Rattle.off_defs.specs.declared.writes.Write.{Write}
use Rattle.off_commands.specs.Imports.{Marked}
use Rattle.off_commands.proofs.ProgressLemmas.{is_put}
use Rattle.off_commands.proofs.progress.put_row.Goals as goal

pub returns-clause-put : goal.returns-clause-put
returns-clause-put c =
    is_put c.args.so_far.now (record { keys = c.mark_put.new.keys; writes = c.push.new.self; counts = c.args.counts.now }) c.args.row.now c.requires.sound
    (c.in_ok-push.ensures.ok ∙ ap (λ (w : Write). c.args.so_far.now.writes ++ w ∷ []) c.write_of.ensures)
    (subst (λ (k : Key). Marked k c.args.so_far.now.keys c.mark_put.new.keys) c.key_of.ensures c.in_ok-mark_put.ensures)
    c.requires.batches
