-- On plain lists, heaps and maps, from below: Words (the distance words), Queue (the image), Offering (a half-edge), Relaxing (a row), Turning and Settling
-- (a turn, by the pair and by Delete-Min's answer), Beginning (the start), Running (all turns), Answering (the ways out). A function's proof only hands over.
-- Assumes nothing.
pub mod Words
pub mod Queue
pub mod Offering
pub mod Relaxing
pub mod Turning
pub mod Settling
pub mod Beginning
pub mod Running
pub mod Answering
