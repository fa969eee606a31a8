-- Marks: what a reading leaves of each id, kept in words. Dealt: what one level gets. Assumes nothing.
pub mod Marks
pub mod Dealt
