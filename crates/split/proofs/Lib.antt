-- Turns: the turns of the loop. Assumes nothing.
pub mod Turns
