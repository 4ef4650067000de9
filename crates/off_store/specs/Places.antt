-- Where the tables stand, by a word of the command, and a keeper that has just begun there.
use Rattle.std.specs.Prelude.{ℕ, List, ◌≡◌, ◌≢◌, ◌++◌, codes}
use Rattle.off_store.specs.declared.any_keeper.AnyKeeper.{AnyKeeper}
use Rattle.off_store.specs.declared.any_keeper.AnyKeeper.TheVariants as kept
use Rattle.off_store.specs.declared.opening.Place.{Place}
use Rattle.off_store.specs.declared.opening.Place.TheVariants.{Memory, Journal, Database}

-- the word is `memory`, or `journal:` and the path of a journal, or else the path of a database
abbrev pub NamesPlace : List ℕ → Place → Type 0
NamesPlace word Memory = word ≡ codes "memory"
NamesPlace word (Journal path) = word ≡ codes "journal:" ++ path.now
NamesPlace word (Database path) =
    (path.now ≡ word) × (word ≢ codes "memory")
    × ((rest : List ℕ) → word ≢ codes "journal:" ++ rest)

-- it's in memory, and as P says
abbrev pub IsInMemory : {M J D : Type 0} → AnyKeeper M J D → (M → Type 0) → Type 0
IsInMemory (kept.Memory keeper) P = P keeper
IsInMemory (kept.Journal keeper) P = ⊥
IsInMemory (kept.Database keeper) P = ⊥

-- it's in a journal, and as P says
abbrev pub IsInJournal : {M J D : Type 0} → AnyKeeper M J D → (J → Type 0) → Type 0
IsInJournal (kept.Memory keeper) P = ⊥
IsInJournal (kept.Journal keeper) P = P keeper
IsInJournal (kept.Database keeper) P = ⊥

-- it's in a database, and as P says
abbrev pub IsInDatabase : {M J D : Type 0} → AnyKeeper M J D → (D → Type 0) → Type 0
IsInDatabase (kept.Memory keeper) P = ⊥
IsInDatabase (kept.Journal keeper) P = ⊥
IsInDatabase (kept.Database keeper) P = P keeper

-- it's at a place, and as is said of one there
abbrev pub BeginsAt : {M J D : Type 0} → Place → AnyKeeper M J D → (M → Type 0) → (J → Type 0)
    → (D → Type 0) → Type 0
BeginsAt Memory keeper memory journal database = IsInMemory keeper memory
BeginsAt (Journal path) keeper memory journal database = IsInJournal keeper journal
BeginsAt (Database path) keeper memory journal database = IsInDatabase keeper database
