-- What writes make of cells.
use Rattle.std.specs.Prelude.{List, [], ◌∷◌}
use Rattle.std.specs.FinMap as map
use Rattle.off_cells.specs.CellsSeen.{CellMap}
use Rattle.off_cells.specs.declared.writes.CellWrite.{CellWrite}
use Rattle.off_cells.specs.declared.writes.CellWrite.TheVariants.{Put, Drop}

-- the cells after one write
abbrev pub cell_written : CellMap → CellWrite → CellMap
cell_written cells (Put ident val) = map.insert cells ident val
cell_written cells (Drop ident) = map.remove cells ident

-- the cells after writes in order: of two writes to one key the later one stands
abbrev pub write_cells : CellMap → List CellWrite → CellMap
write_cells cells [] = cells
write_cells cells (write ∷ writes) = write_cells (cell_written cells write) writes
