-- Texts: a piece added to a text. Assumes nothing.
pub mod Texts
