-- Turns: the turns of the loops of tests 14 to 16.
pub mod Turns
