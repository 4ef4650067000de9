-- What the texts of the statements mean.
use Rattle.std.proofs.Common.{◌≡◌, ◌∷◌, [], List, pos, negsuc, codes, false, Some, None, Ok, refl}
use Rattle.sqlite_value.specs.declared.keys.Collation.TheVariants.{Binary}
use Rattle.sqlite_value.specs.declared.value.Value.TheVariants.{Null, Int}
use Rattle.sqlite_value.specs.declared.keys.Key.{Key}
use Rattle.sqlite_sql.specs.declared.ops.BinaryOp.TheVariants.{Compare}
use Rattle.sqlite_sql.specs.declared.ops.CompareOp.TheVariants.{Eq, Gt}
use Rattle.sqlite_sql.specs.Term.{Term, lit, col, op2}
use Rattle.sqlite_sql.specs.Query.{Query, inner, end}
use Rattle.sqlite_schema.specs.declared.program.Program.{Program}
use Rattle.sqlite_schema.specs.declared.command.Source.TheVariants.{Values}
use Rattle.sqlite_schema.specs.declared.command.Conflict.TheVariants.{Abort}
use Rattle.sqlite_schema.specs.declared.command.Upsert.{Upsert}
use Rattle.sqlite_schema.specs.declared.command.Command.TheVariants.{Select, InsertOr, Delete, CreateTable, Nothing}
use Rattle.sqlite_resolve.specs.Compile.{table_defined_by}
use Rattle.sqlite_tied.specs.Compute.{everything}
use Rattle.sqlite.specs.Listing.{understood, reads_listing}
use Rattle.sqlite.proofs.Callers.{IsPlain, command_of, statement_of}
use Rattle.off_sqlcells.specs.Office.{office, no_schema, office_schema}
use Rattle.off_sqlcells.specs.Statements.{make_text, get_text, first_text, next_text, put_text, drop_text}

abbrev pub has_ident : Term
has_ident = op2 (Compare Eq Binary) (col 1 1) (col 0 0)

-- a query of the table alone
abbrev pub table_query : List Term → List Term → List (Term × Key) → Term → Query
table_query filter project order limit = record {
  from = inner 0 end;
  filter = filter;
  group = None;
  project = project;
  distinct = false;
  collations = [];
  order = order;
  limit = limit;
  offset = lit (Int (pos 0));
}

abbrev pub unlimited : Term
unlimited = lit (Int (negsuc 0))

abbrev pub get_query : Query
get_query = table_query (has_ident ∷ []) (col 1 2 ∷ []) [] unlimited

abbrev pub is_above : Term
is_above = op2 (Compare Gt Binary) (col 1 1) (col 0 0)

abbrev pub by_ident : List (Term × Key)
by_ident = (col 1 1, record { collation = Binary; descending = false }) ∷ []

-- the cell of the least key of those that pass
abbrev pub walk_query : List Term → Query
walk_query filter = table_query filter (col 1 1 ∷ col 1 2 ∷ []) by_ident (lit (Int (pos 1)))

abbrev pub first_query : Query
first_query = walk_query []

abbrev pub next_query : Query
next_query = walk_query (is_above ∷ [])

abbrev pub drop_query : Query
drop_query = table_query (has_ident ∷ []) (col 1 0 ∷ []) [] unlimited

abbrev pub put_terms : List Term
put_terms = lit Null ∷ col 0 0 ∷ col 0 1 ∷ []

abbrev pub has_rowid_given : Term
has_rowid_given = op2 (Compare Eq Binary) (col 1 0) (col 0 2)

abbrev pub put_query : Query
put_query = table_query (has_rowid_given ∷ []) (col 1 0 ∷ col 1 0 ∷ col 1 1 ∷ col 0 5 ∷ []) [] unlimited

abbrev pub alone : Query → Program
alone q = record { lets = []; body = q }

abbrev pub upsert : Upsert
upsert = record { target = Some (1 ∷ []); update = Some (alone put_query) }

pub make_is : (command_of (understood no_schema make_text) ≡ CreateTable) × (statement_of make_text (understood no_schema make_text) ≡ make_text) × (table_defined_by make_text ≡ Ok office)
unfolding understood everything
make_is = (refl, refl, refl)

pub make_plain : IsPlain (understood no_schema make_text)
unfolding understood everything
make_plain = (refl, refl)

pub made_is : command_of (understood office_schema make_text) ≡ Nothing
unfolding understood everything
made_is = refl

pub made_plain : IsPlain (understood office_schema make_text)
unfolding understood everything
made_plain = (refl, refl)

pub get_is : (command_of (understood office_schema get_text) ≡ Select (alone get_query) (codes "val" ∷ [])) × (reads_listing office_schema get_text ≡ false)
unfolding understood everything
get_is = (refl, refl)

pub get_plain : IsPlain (understood office_schema get_text)
unfolding understood everything
get_plain = (refl, refl)

pub first_is : (command_of (understood office_schema first_text) ≡ Select (alone first_query) (codes "ident" ∷ codes "val" ∷ [])) × (reads_listing office_schema first_text ≡ false)
unfolding understood everything
first_is = (refl, refl)

pub first_plain : IsPlain (understood office_schema first_text)
unfolding understood everything
first_plain = (refl, refl)

pub next_is : (command_of (understood office_schema next_text) ≡ Select (alone next_query) (codes "ident" ∷ codes "val" ∷ [])) × (reads_listing office_schema next_text ≡ false)
unfolding understood everything
next_is = (refl, refl)

pub next_plain : IsPlain (understood office_schema next_text)
unfolding understood everything
next_plain = (refl, refl)

pub put_is : command_of (understood office_schema put_text) ≡ InsertOr 0 Abort (Values put_terms 3) (upsert ∷ [])
unfolding understood everything
put_is = refl

pub put_plain : IsPlain (understood office_schema put_text)
unfolding understood everything
put_plain = (refl, refl)

pub drop_is : command_of (understood office_schema drop_text) ≡ Delete 0 (alone drop_query)
unfolding understood everything
drop_is = refl

pub drop_plain : IsPlain (understood office_schema drop_text)
unfolding understood everything
drop_plain = (refl, refl)
