-- Reads: how often the program reads. Answered: what is printed of what was read. Assumes nothing.
pub mod Reads
pub mod Answered
