-- Turns: the turns of the loops, and the whole sheet. Assumes nothing.
pub mod Turns
