use Rattle.std.proofs.Common.{◌∙◌, sym, subst}
use Rattle.off_defs.specs.declared.keys.Key.{Key}
use Rattle.off_orders.specs.declared.orders.Command.TheVariants.{Show}
use Rattle.off_outside.specs.KeeperCalls.{Looks}
use Rattle.off_accounts.specs.Deciding.{IsRuling}
use Rattle.off_accounts.proofs.ShowLemmas.{is_pool}
use Rattle.off_accounts.proofs.showing.show.Goals as goal

pub returns-in-Some-clause-told : goal.returns-in-Some-clause-told
returns-in-Some-clause-told g c =
    subst
    (λ (k : Key). Looks c.show_pool.result (g.K.Keeper.seen c.args.keeper.now) (g.K.Keeper.seen c.show_pool.new.keeper) (λ verdict t. IsRuling c.args.counts.now c.args.users.now c.args.now.0 (Show k) t verdict))
    (is_pool c.args.key.now c.in-Some.n (sym c.in-Some.is ∙ c.pool_number.ensures)) c.show_pool.ensures.told
