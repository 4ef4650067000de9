use Rattle.std.proofs.Common.{List, ap, ◌∙◌}
use Rattle.off_defs.specs.declared.writes.Write.{Write}
use Rattle.off_defs.specs.Tables.{write_all}
use Rattle.off_cached.proofs.WholeLemmas.{store_did}
use Rattle.off_cached.proofs.whole.WholeKeeper.commit.Goals as goal

pub returns-clause-told : goal.returns-clause-told
returns-clause-told g c = store_did (g.K.Keeper.seen c.args.self.now.store) (g.K.Keeper.seen c.commit.new.self)
    c.args.self.now.rows.tables c.plan.new.self.tables c.apply.new.self.tables
    c.args.self.now.calls c.one_more-self.result c.args.self.now.commits c.one_more-self-2.result
    c.in_ok-plan.ensures.rest.tables
    (c.apply.ensures.tables ∙ ap (λ (ws : List Write). write_all c.plan.new.self.tables ws) c.in_ok-plan.ensures.plan)
    c.one_more-self-2.ensures c.in_ok-commit.ensures.told
