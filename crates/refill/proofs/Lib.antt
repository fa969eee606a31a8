-- Dealing: the levels from k-1 up filled. Refilling: the split and the refill together. Assumes nothing.
pub mod Dealing
pub mod Refilling
