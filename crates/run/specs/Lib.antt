-- Answer: what the run's answer stands for. Underway: what the two slices stand for while the run goes on. Turns: what each inner function asks and leaves.
-- Assumes nothing.
pub mod Answer
pub mod Underway
pub mod Turns
