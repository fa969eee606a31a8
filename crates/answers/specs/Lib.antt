-- Answers: what is printed. Assumes nothing.
pub mod Answers
