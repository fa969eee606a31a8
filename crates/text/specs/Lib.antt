-- Cuts: bytes as lines and as words. Decimals: a number's digits. Stored: a text written into lent bytes. Assumes nothing.
pub mod Cuts
pub mod Decimals
pub mod Stored
