-- Printing: text written piece by piece. Assumes nothing.
pub mod Printing
