-- Ladder: the cuts as a table. Assumes nothing.
pub mod Ladder
