-- What a keeper tells that has just begun.
use Rattle.std.proofs.Common.{◌≡◌, ℕ, true, Result, Ok, Err, IfOk, List, [], subst, map as each, refl, sym, ap, ◌∙◌}
use Rattle.std.specs.Ordering.{nat_cmp}
use Rattle.std.specs.Cmp.Lexicographic.{slice_cmp}
use Rattle.std.specs.FinMap as map
use Rattle.std.proofs.lemmas.Bool.{and_from}
use Rattle.std.proofs.lemmas.List.{nil_from_length}
use Rattle.sqlite_disk.specs.declared.Disk as disk
use Rattle.sqlite_value.specs.Order.{Row as Entry}
use Rattle.sqlite_trees.specs.declared.store.Store.{Ghosts}
use Rattle.sqlite_trees.specs.declared.memory.MemStore.{MemStore}
use Rattle.sqlite_trees.proofs.Doubt.{no_doubt}
use Rattle.sqlite.specs.Held.{Held, state}
use Rattle.sqlite.specs.Steps.{over_memory, IsEmpty}
use Rattle.off_sqlcells.specs.Stands.{IsSteady}
use Rattle.off_defs.specs.Keys.{key_cmp}
use Rattle.off_defs.specs.State.{Tables}
use Rattle.off_defs.specs.declared.keys.Key.TheVariants.{Pool}
use Rattle.off_outside.specs.KeeperSeen.{KeeperSeen}
use Rattle.off_cells.specs.CellsSeen.{CellMap, CellsSeen}
use Rattle.off_sqlcells.specs.SqlCellsSeen.{Found, HasBegun}
use Rattle.off_keepsql.specs.Stored.{Stores, cell_of, AllStorable}
use Rattle.off_keepsql.specs.SqlSeen.{SqlTells}
use Rattle.off_keepsql.specs.Begin.{FoundTables, KeeperBegins, TellsNone, HonestFilesAreSteady}

none_in : (m : CellMap) → m ≡ map.empty → map.entries m ≡ []
none_in m e = nil_from_length (map.entries m) (sym (map.len-entries m) ∙ ap (λ (n : CellMap). map.len n) e ∙ map.len-empty (slice_cmp nat_cmp) (List ℕ))

no_tables : (t : Tables) → t ≡ map.empty → map.entries t ≡ []
no_tables t e = nil_from_length (map.entries t) (sym (map.len-entries t) ∙ ap (λ (n : Tables). map.len n) e ∙ map.len-empty key_cmp _)

none_stored : Stores map.empty map.empty
none_stored = record {
  cells = none_in map.empty refl ∙ sym (ap (each cell_of) (no_tables map.empty refl));
  storable = subst AllStorable (sym (no_tables map.empty refl)) tt;
}

found_tables : (table : List Entry) (cells : CellsSeen) (keeper : KeeperSeen) → Found table cells → SqlTells cells keeper → FoundTables table keeper
found_tables table cells keeper found tells = record {
  cells = found.cells;
  are = found.are;
  told = λ t stores. tells.tables t (record { cells = found.cells; told = found.told; stores = stores });
  up = tells.up found.up;
}

pub keeper_begins : {S : Type 0} (g : Ghosts S) (conn : Held S) (cells : CellsSeen) (keeper : KeeperSeen) → HasBegun g conn cells → SqlTells cells keeper → KeeperBegins g conn cells keeper
keeper_begins g conn cells keeper begun tells = record {
  begun = begun;
  made = λ steady has.
      let it = begun.made steady has in (tells.tables map.empty (record { cells = map.empty; told = it.0; stores = none_stored }), tells.up it.1);
  found = λ steady has. found_tables _ cells keeper (begun.found steady has) tells;
  faults = tells.faults ∙ begun.faults;
  calls = tells.calls;
  commits = tells.commits;
}

pub memory_steady : IsSteady over_memory
memory_steady s = no_doubt true refl

pub begins_empty : (conn : Held MemStore) (cells : CellsSeen) (seen : KeeperSeen) → IsEmpty (state over_memory conn) → KeeperBegins over_memory conn cells seen → TellsNone seen
begins_empty conn cells seen empty begun =
    let it = begun.made memory_steady empty.2 in record { tables = it.0; up = it.1; faults = begun.faults; calls = begun.calls; commits = begun.commits }

pub begun_none : {K E : Type 0} (conn : Held MemStore) (cells : K → CellsSeen) (seen : K → KeeperSeen) (r : Result K E) → IsEmpty (state over_memory conn)
    → IfOk r (λ k. KeeperBegins over_memory conn (cells k) (seen k)) → IfOk r (λ k. TellsNone (seen k))
begun_none conn cells seen (Ok k) empty begun = begins_empty conn (cells k) (seen k) empty begun
begun_none conn cells seen (Err e) empty begun = tt

pub honest_steady : {D : Type 0} (g : disk.Ghosts D) → HonestFilesAreSteady g
unfolding Rattle.sqlite_pool.specs.Pool.state
honest_steady g honest it = no_doubt _ (and_from _ _ (honest _) (honest _))
