-- Turns: the turns of the two loops. Columns: what a record that was read out of words has. Assumes nothing.
pub mod Turns
pub mod Columns
