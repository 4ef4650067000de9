use Rattle.std.proofs.Common.{refl, rules}
use Rattle.off_files.proofs.TailLemmas.{end_held}
use Rattle.off_files.proofs.tails.push_end.Goals as goal

pub returns : goal.returns
returns c =
    end_held c.args.body.now c.args.held.now.items c.push_all.new.held.items c.push_all-2.new.held.items c.len.result c.len-2.result _ c.push_all.ensures.items c.len.ensures (search rules)
    refl c.push_all-2.ensures.items
