-- Judged: what the words bring and leave is what the records do. Gathering: records become words. Turns: two words next to each other.
-- Assumes nothing.
pub mod Judged
pub mod Gathering
pub mod Turns
