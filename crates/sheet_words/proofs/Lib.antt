-- Left: what the tests so far leave, and where a row then stands. Halves: the half-edges of a row, one after the other.
pub mod Left
pub mod Halves
