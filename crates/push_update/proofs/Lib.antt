-- Header: what the header of a sound image says. Counts: the sum of the update counts. Three: the three words that a push changes. Assumes nothing.
pub mod Counts
pub mod Header
pub mod Three
