-- Counting: whether a read is the last. Taking: the input taken read by read, with its counts. Assumes nothing.
pub mod Counting
pub mod Taking
