-- Reading: entries read into words. Squeezing: the pairs that words hold. Portion: what one level gets. Assumes nothing.
pub mod Reading
pub mod Squeezing
pub mod Portion
