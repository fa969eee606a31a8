-- Sorted: the words in order, row by row. Twice: refusal 24 by the words. InOrder: the sheet by the words. Assumes nothing.
pub mod Sorted
pub mod Twice
pub mod InOrder
