-- What a fault of an import is called: the word, the place and the status (RFC 9110, section 15)
-- of the answer to a clerk, and the words of the command line.
use Rattle.std.specs.Prelude.{ℕ, List, ◌++◌, codes, decimal, Option, Some, None}
use Rattle.off_import_rules.specs.declared.faults.ImportFault.{ImportFault}
use Rattle.off_import_rules.specs.declared.faults.ImportFault.TheVariants.{Header, Width, Field, TooMany}

abbrev pub fault_word : ImportFault → List ℕ
fault_word Header = codes "header"
fault_word (Width row) = codes "width"
fault_word (Field row column) = codes "import-field"
fault_word TooMany = codes "too-many"

-- the row, and the column
abbrev pub fault_detail : ImportFault → Option (List ℕ)
fault_detail Header = None
fault_detail (Width row) = Some (decimal row)
fault_detail (Field row column) = Some (decimal row ++ codes "," ++ decimal column)
fault_detail TooMany = None

abbrev pub fault_status : ImportFault → ℕ
fault_status fault = 422

-- what the command line says of it behind `refused`
abbrev pub fault_words : ImportFault → List ℕ
fault_words Header = codes "header"
fault_words (Width row) = codes "width " ++ decimal row
fault_words (Field row column) = codes "field " ++ decimal row ++ codes " " ++ decimal column
fault_words TooMany = codes "too-many"
