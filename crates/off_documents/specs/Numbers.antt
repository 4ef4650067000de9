-- The number of JSON that a `Number` is.
use Rattle.serde_json.specs.Data.{Num, unsigned, negative, float}
use Rattle.off_documents.specs.declared.numbers.Number.{Number}
use Rattle.off_documents.specs.declared.numbers.Number.TheVariants.{Unsigned, Negative, Float}

abbrev pub num_of : Number → Num
num_of (Unsigned n) = unsigned n
num_of (Negative z) = negative z
num_of (Float x) = float x
