-- That one value is told, and what a crash leaves, in all three places.
use Rattle.off_defs.specs.Told.{IsOne}
use Rattle.off_outside.specs.KeeperSeen.{KeeperSeen, Rests}
use Rattle.off_store.specs.declared.any_keeper.AnyKeeper.{AnyKeeper}
use Rattle.off_store.specs.declared.any_keeper.AnyKeeper.TheVariants.{Memory, Journal, Database}
use Rattle.off_store.specs.AnyKeeper.{any_seen}

pub one_any : {M J D : Type 0} (m : M → KeeperSeen) (j : J → KeeperSeen) (d : D → KeeperSeen)
    → ((k : M) → (m k).up → IsOne (m k).tables)
    → ((k : J) → (j k).up → IsOne (j k).tables)
    → ((k : D) → (d k).up → IsOne (d k).tables)
    → (s : AnyKeeper M J D) → (any_seen m j d s).up → IsOne (any_seen m j d s).tables
one_any m j d one_m one_j one_d (Memory keeper) = one_m keeper
one_any m j d one_m one_j one_d (Journal keeper) = one_j keeper
one_any m j d one_m one_j one_d (Database keeper) = one_d keeper

pub any_rests : {M J D : Type 0} (m : M → KeeperSeen) (j : J → KeeperSeen) (d : D → KeeperSeen)
    → ((k : M) → Rests (m k)) → ((k : J) → Rests (j k)) → ((k : D) → Rests (d k))
    → (s : AnyKeeper M J D) → Rests (any_seen m j d s)
any_rests m j d rests_m rests_j rests_d (Memory keeper) = rests_m keeper
any_rests m j d rests_m rests_j rests_d (Journal keeper) = rests_j keeper
any_rests m j d rests_m rests_j rests_d (Database keeper) = rests_d keeper
