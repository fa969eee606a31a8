-- Cuts: a list cut at its first separator. Decimals: a number's digits by its last one, and how many there are. Stored: texts stored behind each other. Assumes nothing.
pub mod Cuts
pub mod Decimals
pub mod Stored
