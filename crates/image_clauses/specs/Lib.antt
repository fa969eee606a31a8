-- Read in this order. Clauses: soundness on words, clause by clause. Turns: one test's answer for two statements that say the same. Marks: the
-- order clause by a table of last entries. Rows: loops over the levels. Passes: one reading of a level, and of all levels. All: every clause.
pub mod Clauses
pub mod Turns
pub mod Marks
pub mod Rows
pub mod Passes
pub mod All
