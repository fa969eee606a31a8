-- Put: words stored. Part: a part read. Move: turns of loops that move words. Blocks: lists made of blocks. Assumes nothing.
pub mod Put
pub mod Part
pub mod Move
pub mod Blocks
