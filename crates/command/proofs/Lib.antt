-- Reading: the reading of a line, place by place. Back: what is printed reads back. Long: longer lines. Assumes nothing.
pub mod Reading
pub mod Back
pub mod Long
