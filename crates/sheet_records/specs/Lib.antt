-- Judged: edge records as judged words, and what the words bring and leave. Assumes nothing.
pub mod Judged
