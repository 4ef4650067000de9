pub mod CellsSeen
pub mod CellCalls
pub mod CellWritten
pub mod SortedCells
pub mod MemCellsSeen
