-- Ladders: the cuts read off sorted pairs. Assumes nothing.
pub mod Ladders
