-- Visiting: one level visited. Going: what holds at the head of the loop down the levels. Turn: a turn of it. Starts: a sound image is where it
-- starts. Assumes nothing.
pub mod Visiting
pub mod Going
pub mod Turn
pub mod Starts
