-- Stores whose committed trees are in order, whatever has become of a transaction on them.
use Rattle.std.specs.Prelude.{zero, suc, true, false, List, [], ◌∷◌, if◌then◌else◌, ◌==◌, map, IsTrue, refl}
use Rattle.std.proofs.Math.Logic.{∥∥₁_elim}
use Rattle.sqlite_disk.specs.declared.Disk as disk
use Rattle.sqlite_wal.proofs.StateLemmas.{clean_of}
use Rattle.sqlite_trees.specs.declared.memory.tree.Tree.{Tree}
use Rattle.sqlite_trees.specs.declared.memory.MemStore.{MemStore}
use Rattle.sqlite_trees.specs.declared.store.Shape.TheVariants.{Table}
use Rattle.sqlite_trees.specs.declared.store.Store.{Ghosts}
use Rattle.sqlite_trees.specs.Listing.{objects_are_ordered, objects_are_listed}
use Rattle.sqlite_trees.specs.Memory.{memory_view, heading, rows_of, objects_of}
use Rattle.sqlite_trees.specs.Memory.{shape_of, shapes, forest}
use Rattle.sqlite_trees.specs.Objects.{catalog_tree, version_tree, version_rows, IsListed}
use Rattle.sqlite_trees.specs.Props.{IsShaped-prop, IsOrdered-prop}
use Rattle.sqlite_trees.specs.View.{View, IsShaped, IsOrdered}
use Rattle.sqlite_pool.specs.File.{version_in}
use Rattle.sqlite_store.specs.declared.store.FileStore.{FileStore}
use Rattle.sqlite_store.specs.FileStore.{state, view, schema_of}
use Rattle.sqlite_store.specs.Listed.{catalog_rows, is_listed}
use Rattle.sqlite_store.specs.Saved.{kept_schema}
use Rattle.sqlite_store.proofs.ListingLemmas.{all_ordered}

-- The committed trees have their shapes: the rowids of a table are whole numbers that rise, so none
-- comes twice. The list of the trees tells the shapes.
pub record IsInOrder (v : View) : Type 0 where
  pub ordered : IsOrdered v.committed_shape v.committed
  pub listed : IsListed (v.committed catalog_tree) v.committed_shape v.committed_reals

-- each store of this kind is in order while it is open
abbrev pub KeepsOrder : {S : Type 0} → Ghosts S → Type 0
KeepsOrder {S} g = (s : S) → IsTrue (g.view s).is_open → IsInOrder (g.view s)

-- ---- in memory

base_is_ordered : (trees : List Tree) → IsOrdered (shape_of trees) (rows_of trees)
base_is_ordered [] t = refl
base_is_ordered (x ∷ trees) zero =
    ∥∥₁_elim x.ordered (IsShaped-prop x.shape x.rows.items) (λ h. h)
base_is_ordered (x ∷ trees) (suc t) = base_is_ordered trees t

memory_is_ordered : (s : MemStore) →
    IsOrdered (memory_view s).committed_shape (memory_view s).committed
memory_is_ordered s t =
    let trees = s.base.items in
    let below : IsShaped (shapes trees t) (forest trees t) =
    elim (t == catalog_tree) as (λ b. IsShaped (if b then Table else shape_of trees t)
    (if b then objects_of trees else rows_of trees t)) [
      | true ↦ objects_are_ordered (map heading trees) 0
      | false ↦ base_is_ordered trees t
    ] in
    elim (t == version_tree) as (λ b. IsShaped (if b then Table else shapes trees t)
    (if b then version_rows s.base_version else forest trees t)) [
      | true ↦ ((tt, tt), (refl, tt))
      | false ↦ below
    ]

pub memory_in_order : (s : MemStore) → IsTrue (memory_view s).is_open → IsInOrder (memory_view s)
memory_in_order s is_open =
    record { ordered = memory_is_ordered s; listed = objects_are_listed (map heading s.base.items) }

-- ---- in files

module _ {D : Type 0} {g : disk.Ghosts D} (it : FileStore D g) where
  files_are_ordered : IsTrue (view it).is_open →
      IsOrdered (view it).committed_shape (view it).committed
  files_are_ordered is_open =
      rw (clean_of (state it) is_open) (∥∥₁_elim (it.stored is_open) (IsOrdered-prop _ _)
      (λ stored t. all_ordered stored.ours.file.db (version_in (state it).committed) t))

  files_are_listed : IsTrue (view it).is_open → IsListed ((view it).committed catalog_tree)
      (view it).committed_shape (view it).committed_reals
  files_are_listed is_open =
      rw (
        clean_of (state it) is_open,
        catalog_rows (state it).page_size (kept_schema it.saved (schema_of it)) _,
      )
      (is_listed (kept_schema it.saved (schema_of it)))

  pub files_in_order : IsTrue (view it).is_open → IsInOrder (view it)
  files_in_order is_open =
      record { ordered = files_are_ordered is_open; listed = files_are_listed is_open }
