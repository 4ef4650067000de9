use Rattle.off_cached.proofs.WholeLemmas.{all_read}
use Rattle.off_cached.proofs.cached.Cached.over.Goals as goal

pub returns-in-Ok : goal.returns-in-Ok
returns-in-Ok g c = all_read (g.K.Keeper.seen c.args.store) (g.K.Keeper.seen c.read_rows.new.store) c.in-Ok.rows.tables c.in-Ok.ensures
