-- How many calls of the keeper a query makes at most, whatever the tables: one for the hub and one
-- for the lease of the address, and, where it's asked by hardware address, one for the address that
-- the client holds.
use Rattle.std.specs.Prelude.{ℕ, ◌+◌, List}
use Rattle.off_query_rules.specs.Asked.{question_of}
use Rattle.off_query_rules.specs.declared.questions.Question.{Question}
use Rattle.off_query_rules.specs.declared.questions.Question.TheVariants.{ByMac}

abbrev pub asked_calls : Question → ℕ
asked_calls (ByMac mac) = 1
asked_calls question = 0

abbrev pub question_calls : Question → ℕ
question_calls question = asked_calls question + 2

abbrev pub query_calls : List ℕ → ℕ
query_calls q = question_calls (question_of q)
