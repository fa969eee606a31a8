-- Noting: an entry's mark in the code's table, and what is left of a stretch after one word more. Assumes nothing.
pub mod Noting
