-- Places: what the inner functions rely on, where a row stands, and what its half-edges are. Rows: the half-edges of a row that is given as one value.
pub mod Places
pub mod Rows
