-- Table: a level's elements by id, one update taken there, and the elements again. Assumes nothing.
pub mod Table
