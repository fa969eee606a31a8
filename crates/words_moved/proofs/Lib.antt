-- Stored: what the library's moves leave, as one slice with some words stored. Assumes nothing.
pub mod Stored
