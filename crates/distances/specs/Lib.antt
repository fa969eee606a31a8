-- Answered: what is printed of what was read. Assumes nothing.
pub mod Answered
