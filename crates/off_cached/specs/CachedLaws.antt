-- That one value is told, and what a crash leaves, in both cases.
use Rattle.off_defs.specs.Told.{IsOne, one_exact}
use Rattle.off_outside.specs.KeeperSeen.{KeeperSeen, Rests}
use Rattle.off_cached.specs.declared.cached.Cached.{Cached}
use Rattle.off_cached.specs.declared.cached.Cached.TheVariants.{Whole, Store}
use Rattle.off_cached.specs.Cached.{cached_seen}

pub one_cached : {K : Type 0} (seen : K → KeeperSeen)
    → ((k : K) → (seen k).up → IsOne (seen k).tables) → (c : Cached K)
    → (cached_seen seen c).up → IsOne (cached_seen seen c).tables
one_cached seen one (Whole whole) up = one_exact whole.rows.tables
one_cached seen one (Store store) up = one store up

pub cached_rests : {K : Type 0} (seen : K → KeeperSeen) → ((k : K) → Rests (seen k))
    → (c : Cached K) → Rests (cached_seen seen c)
cached_rests seen rests (Whole whole) = λ t told u opened. absurd opened
cached_rests seen rests (Store store) = rests store
