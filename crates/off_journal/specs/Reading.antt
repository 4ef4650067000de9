-- What the readers of a payload say.
use Rattle.std.specs.Prelude.{◌≢◌, ℕ, List, ◌++◌}
use Rattle.off_defs.specs.declared.keys.Key.{Key}
use Rattle.off_defs.specs.declared.tables.Row.{Row}
use Rattle.off_defs.specs.declared.writes.Write.{Write}
use Rattle.off_rows.specs.RowBytes.{row_bytes, IsRowOf}
use Rattle.off_spelled.specs.Storable.{IsSpelled, AllSpelled}
use Rattle.off_journal.specs.Payload.{write_bytes, payload_of, put_row}
use Rattle.off_journal.specs.declared.reading.PayloadErr.{PayloadErr}
use Rattle.off_journal.specs.declared.reading.PayloadErr.TheVariants.{Bad, Memory}

-- no payload is these bytes
abbrev pub IsNoPayload : List ℕ → Type 0
IsNoPayload bytes = (writes : List Write) → AllSpelled writes → payload_of writes ≢ bytes

abbrev pub WhyNoPayload : List ℕ → PayloadErr → Type 0
WhyNoPayload bytes Bad = IsNoPayload bytes
WhyNoPayload bytes Memory = Unit {0}

-- no write stands at the front of these bytes
abbrev pub WhyNoWrite : List ℕ → PayloadErr → Type 0
WhyNoWrite bytes Bad =
    (write : Write) (rest : List ℕ) → IsSpelled write → bytes ≢ write_bytes write ++ rest
WhyNoWrite bytes Memory = Unit {0}

-- and no row of the key behind its length
abbrev pub WhyNoPut : Key → List ℕ → PayloadErr → Type 0
WhyNoPut key bytes Bad = (row : Row) (rest : List ℕ) → IsRowOf key row → bytes ≢ put_row row ++ rest
WhyNoPut key bytes Memory = Unit {0}

-- and no row of the key has them
abbrev pub WhyNoRowOf : Key → List ℕ → PayloadErr → Type 0
WhyNoRowOf key bytes Bad = (row : Row) → IsRowOf key row → row_bytes row ≢ bytes
WhyNoRowOf key bytes Memory = Unit {0}
