-- Lines: the line that a small buffer holds. Assumes nothing.
pub mod Lines
