use Rattle.std.proofs.Common.{rules, sym}
use Rattle.off_documents.specs.Documents.{data_of}
use Rattle.off_fields.proofs.TreeLemmas.{no_deeper, deeper}
use Rattle.off_fields.proofs.trees.+trees.Goals as goal

pub setting_within-returns-then-depth-eq0 : goal.setting_within-returns-then-depth-eq0
setting_within-returns-then-depth-eq0 t c = sym (no_deeper c.args.depth (data_of c.args.value.now) c.if-depth-eq0.true)

pub setting_within-returns-in_default : goal.setting_within-returns-in_default
setting_within-returns-in_default t c = let step = deeper c.args.depth (data_of c.args.value.now) c.if-depth-eq0.false in rw step (search rules)

pub setting_within-returns-in-Some-parts : goal.setting_within-returns-in-Some-parts
setting_within-returns-in-Some-parts t c = let step = deeper c.args.depth (data_of c.args.value.now) c.if-depth-eq0.false in rw step (search rules)

pub setting_within-returns-in-None-parts : goal.setting_within-returns-in-None-parts
setting_within-returns-in-None-parts t c = let step = deeper c.args.depth (data_of c.args.value.now) c.if-depth-eq0.false in rw step (search rules)

pub setting_within-returns-in-Some-2 : goal.setting_within-returns-in-Some-2
setting_within-returns-in-Some-2 t c = let step = deeper c.args.depth (data_of c.args.value.now) c.if-depth-eq0.false in rw step (search rules)

pub setting_within-returns-in-None-2 : goal.setting_within-returns-in-None-2
setting_within-returns-in-None-2 t c = let step = deeper c.args.depth (data_of c.args.value.now) c.if-depth-eq0.false in rw step (search rules)

pub setting_within-returns-in-None-parts-2 : goal.setting_within-returns-in-None-parts-2
setting_within-returns-in-None-parts-2 t c = let step = deeper c.args.depth (data_of c.args.value.now) c.if-depth-eq0.false in rw step (search rules)
