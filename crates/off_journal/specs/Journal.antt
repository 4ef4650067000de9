-- What a file of records stands for: commits in order, and the tables that they make.
use Rattle.std.specs.Prelude.{◌≡◌, ℕ, List, [], ◌∷◌, map as each}
use Rattle.std.specs.FinMap as map
use Rattle.off_defs.specs.declared.writes.Write.{Write}
use Rattle.off_defs.specs.State.{Tables}
use Rattle.off_defs.specs.Tables.{write_all}
use Rattle.off_disk.specs.Records.{Stands, IsShort}
use Rattle.off_spelled.specs.Storable.{AllSpelled}
use Rattle.off_journal.specs.Payload.{payload_of}

-- the tables after commits in order
abbrev pub tables_from : Tables → List (List Write) → Tables
tables_from tables [] = tables
tables_from tables (writes ∷ commits) = tables_from (write_all tables writes) commits

abbrev pub tables_of : List (List Write) → Tables
tables_of commits = tables_from map.empty commits

abbrev pub AllAreSpelled : List (List Write) → Type 0
AllAreSpelled [] = Unit {0}
AllAreSpelled (writes ∷ commits) = AllSpelled writes × AllAreSpelled commits

-- the bytes are a journal of these commits
pub record IsJournal (bytes : List ℕ) (commits : List (List Write)) : Type 0 where
  pub stands : Stands bytes (each payload_of commits)
  pub spelled : AllAreSpelled commits

-- What an opening of the bytes may give: the tables of the journal that they are. Bytes that are no
-- journal may be taken for any tables.
abbrev pub Opens : List ℕ → Tables → Type 0
Opens bytes tables = (commits : List (List Write)) → IsJournal bytes commits →
    tables ≡ tables_of commits

-- a commit that may stand in a journal
pub record IsCommit (writes : List Write) : Type 0 where
  pub spelled : AllSpelled writes
  pub short : IsShort (payload_of writes)

abbrev pub AreCommits : List (List Write) → Type 0
AreCommits [] = Unit {0}
AreCommits (writes ∷ commits) = IsCommit writes × AreCommits commits
