-- The table `office` of a database: a cell's key is its `ident`, and its value its `val`.
use Rattle.std.specs.Prelude.{◌≡◌, ◌⊎◌, true, false, None, List, [], ◌∷◌, codes, ℕ, ℤ}
use Rattle.sqlite_value.specs.declared.keys.Collation.TheVariants.{Binary}
use Rattle.sqlite_value.specs.declared.value.Value.TheVariants.{Null, Int, Blob as Bytes}
use Rattle.sqlite_value.specs.declared.keys.Order.{Order}
use Rattle.sqlite_value.specs.Order.{Row}
use Rattle.sqlite_schema.specs.declared.schema.Kind.TheVariants.{Blob}
use Rattle.sqlite_schema.specs.declared.schema.Column.{Column}
use Rattle.sqlite_schema.specs.declared.schema.Index.{Index}
use Rattle.sqlite_schema.specs.declared.schema.Table.{Table}
use Rattle.sqlite_schema.specs.declared.schema.Schema.{Schema}

-- a column of bytes that is never NULL
abbrev pub blob_column : List ℕ → Column
blob_column name = record {
  name = name;
  kind = Blob;
  is_strict = true;
  not_null = true;
  default = Null;
  collation = Binary;
}

abbrev pub by_bytes : Order
by_bytes = record { digits = 0 }

abbrev pub office : Table
office = record {
  name = codes "office";
  tree = 0;
  columns = blob_column (codes "ident") ∷ blob_column (codes "val") ∷ [];
  key = None;
  primary = 1 ∷ [];
  uniques = (1 ∷ []) ∷ [];
  orders = by_bytes ∷ [];
  checks = [];
  references = [];
  computed = [];
  stamps = record { places = []; terms = []; formats = [] };
  is_counted = false;
}

-- the index that SQLite makes for the table's key
abbrev pub key_index : Index
key_index = record {
  name = codes "sqlite_autoindex_office_1";
  tree = 1;
  table = 0;
  columns = 1 ∷ [];
  order = by_bytes;
  is_unique = true;
}

abbrev pub no_schema : Schema
no_schema = record { tables = []; indexes = []; views = [] }

-- the schema of a database that has this table, and nothing else
abbrev pub office_schema : Schema
office_schema = record { tables = office ∷ []; indexes = key_index ∷ []; views = [] }

-- a database that is the office's has nothing yet, or this table alone
abbrev pub IsOurs : Schema → Type 0
IsOurs schema = (schema ≡ no_schema) ⊎ (schema ≡ office_schema)

-- a row of the table
abbrev pub cell_row : ℤ → List ℕ → List ℕ → Row
cell_row id ident val = Int id ∷ Bytes ident ∷ Bytes val ∷ []
