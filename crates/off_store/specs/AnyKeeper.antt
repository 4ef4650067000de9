-- What is seen of a keeper in one of three places: what is seen of it there.
use Rattle.off_outside.specs.KeeperSeen.{KeeperSeen}
use Rattle.off_store.specs.declared.any_keeper.AnyKeeper.{AnyKeeper}
use Rattle.off_store.specs.declared.any_keeper.AnyKeeper.TheVariants.{Memory, Journal, Database}

abbrev pub any_seen : {M J D : Type 0} → (M → KeeperSeen) → (J → KeeperSeen) → (D → KeeperSeen)
    → AnyKeeper M J D → KeeperSeen
any_seen memory journal database (Memory keeper) = memory keeper
any_seen memory journal database (Journal keeper) = journal keeper
any_seen memory journal database (Database keeper) = database keeper
