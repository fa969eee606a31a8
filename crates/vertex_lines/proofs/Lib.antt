-- Rows: the vertices' lines one after the other. Assumes nothing.
pub mod Rows
