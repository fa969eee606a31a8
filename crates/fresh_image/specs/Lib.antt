-- Bounds: the bounds of some levels opened. Assumes nothing.
pub mod Bounds
