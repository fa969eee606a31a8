-- Blocks: the words of levels joined. Standing: where a level's words stand in a sound image. Marking: the whole
-- reading. Filling: levels dealt. Whole: all of tidy. Assumes nothing.
pub mod Blocks
pub mod Standing
pub mod Marking
pub mod Filling
pub mod Whole
