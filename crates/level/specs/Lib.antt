-- Place: where an id stands. Step: one update taken. Run: all of them. Assumes nothing.
pub mod Place
pub mod Step
pub mod Run
