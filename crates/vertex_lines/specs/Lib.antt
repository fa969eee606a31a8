-- Rows: the vertices' lines. Assumes nothing.
pub mod Rows
