-- Pushable: what the inner push may rely on. Assumes nothing.
pub mod Pushable
