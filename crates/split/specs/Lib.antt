-- Split: a part split by a bound. Assumes nothing.
pub mod Split
