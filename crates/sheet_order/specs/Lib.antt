-- Words: half-edges as words, and the records' words in order. Assumes nothing.
pub mod Words
