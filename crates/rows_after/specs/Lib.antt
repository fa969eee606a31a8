-- Rows: the header after a stop. Assumes nothing.
pub mod Rows
