-- Gathering: a line taken byte by byte into a buffer. Holding: what the buffer holds of it. Assumes nothing.
pub mod Gathering
pub mod Holding
