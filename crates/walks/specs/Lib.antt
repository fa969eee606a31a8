-- Rows: half-edges. Walks: walks, sums, the table. Settling: the settling order. HeapRun: the same over a heap of levels.
pub mod Rows
pub mod Walks
pub mod Settling
pub mod HeapRun
