-- Answers: what an answer stands for, and the records of parallel slices. Assumes nothing.
pub mod Answers
