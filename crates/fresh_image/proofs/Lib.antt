-- Levels: how many levels n ids have. Words: the words of a fresh image. Assumes nothing.
pub mod Levels
pub mod Words
