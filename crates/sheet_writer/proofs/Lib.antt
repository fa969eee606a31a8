-- Main: the theorems. Outcome: what the words' outcome is for the records. Gathering: records become words. Numbers: a refusal is told by its number.
-- Assumes nothing.
pub mod Main
pub mod Outcome
pub mod Gathering
pub mod Numbers
