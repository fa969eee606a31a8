-- Serving: the input answered chunk by chunk. Whole: the whole input. Assumes nothing.
pub mod Serving
pub mod Whole
