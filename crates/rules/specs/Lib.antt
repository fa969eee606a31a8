-- Read in this order. Pair: numbers. Update: entries and what they do. Heap: levels, oldest to newest, the live map. Step: a level
-- takes its updates. Rebuild: split, refill, tidy. Queue: the calls. Reach: how deep, put without the procedure. Sound: when a heap is
-- sound. PlainMap: what the heap stands for. Session: calls one after another.
-- For proofs alone, and no part of the meaning: Lanes (one id at a time), Firm (soundness by recursion), Cuts (rebuilding by bounds).
pub mod Pair
pub mod Update
pub mod Heap
pub mod Step
pub mod Rebuild
pub mod Queue
pub mod Reach
pub mod Sound
pub mod PlainMap
pub mod Session
pub mod Lanes
pub mod Firm
pub mod Cuts
