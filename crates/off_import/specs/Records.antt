-- What a reader of records has left.
use Rattle.std.specs.Prelude.{◌≡◌, ℕ, ◌+◌, Bool, true, false, List, [], ◌∷◌, length, Option, Some, unwrap_or}
use Rattle.std.specs.Borrow.{Bor}
use Rattle.csv.specs.Machine.{ends_at_end}
use Rattle.csv.specs.Reading.{Ready, default_config, records_from, source_of}
use Rattle.csv.specs.declared.reader.Reader.{Reader}
use Rattle.csv.specs.declared.reader.Trim.TheVariants as trim

-- a reader of a slice, whose bytes are known
abbrev pub SliceReader : Type 0
SliceReader = Reader (Bor (List ℕ))

abbrev pub source : SliceReader → Option (List ℕ)
source reader = source_of (λ s. Some s.now) reader

-- it stands between two records, reads by the defaults of `csv`, and takes records of any length
pub record StandsBetween (reader : SliceReader) : Type 0 where
  pub untrimmed : reader.trim ≡ trim.None
  pub flexible : reader.flexible ≡ true
  pub ready : Ready reader
  pub defaults : reader.config ≡ default_config
  pub between : ends_at_end reader.state ≡ false
  pub text : List ℕ
  pub known : source reader ≡ Some text

-- all records of the bytes that are left
unfoldable pub records_left : SliceReader → List (List (List ℕ))
records_left reader =
    let text = unwrap_or (source reader) [] in
    records_from default_config (length text + 1) reader.state text

-- a record was found, the first of those that were left, and the others are left; or none was left
abbrev pub IsNext : Bool → List (List ℕ) → SliceReader → SliceReader → Type 0
IsNext true fields old new = StandsBetween new × (records_left old ≡ fields ∷ records_left new)
IsNext false fields old new = records_left old ≡ []
