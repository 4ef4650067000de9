-- The words with which the log has what became of a query. Which they are is this project's
-- profile.
use Rattle.std.specs.Prelude.{ℕ, List, codes}
use Rattle.off_query_rules.specs.declared.words.QueryWord.{QueryWord}
use Rattle.off_query_rules.specs.declared.words.QueryWord.TheVariants as word

abbrev pub query_text : QueryWord → List ℕ
query_text word.Relay = codes "query-relay"
query_text word.Form = codes "query-form"
query_text word.Active = codes "query-active"
query_text word.Unassigned = codes "query-unassigned"
query_text word.Unknown = codes "query-unknown"
