-- Gathered: words gathered bit by bit into one. Stepwise: the same, told by the index. Assumes nothing.
pub mod Gathered
pub mod Stepwise
