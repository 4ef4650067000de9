-- What holds of all journals.
use Rattle.std.specs.Prelude.{◌≡◌, ℕ, List}
use Rattle.off_defs.specs.declared.writes.Write.{Write}
use Rattle.off_defs.specs.State.{Tables}
use Rattle.off_journal.specs.Journal.{IsJournal, Opens}
use Rattle.off_journal.specs.Begin.{Gives, IsBadAt}

-- bytes are a journal of one list of commits at most
abbrev pub OneJournal : Type 0
OneJournal =
    (bytes : List ℕ) (a b : List (List Write)) → IsJournal bytes a → IsJournal bytes b → a ≡ b

-- what an opening gives is what opens
abbrev pub GivenOpens : Type 0
GivenOpens = (bytes : List ℕ) (tables : Tables) → Gives bytes tables → Opens bytes tables

-- no bytes are both: a journal, and bad at a place
abbrev pub GoodOrBad : Type 0
GoodOrBad =
    (bytes : List ℕ) (tables : Tables) (place : ℕ) → Gives bytes tables → IsBadAt bytes place → ⊥

-- bytes are bad at one place at most
abbrev pub OneBad : Type 0
OneBad = (bytes : List ℕ) (a b : ℕ) → IsBadAt bytes a → IsBadAt bytes b → a ≡ b
