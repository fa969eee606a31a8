-- Session: what the queue program answers, line after line. Input: the whole input in chunks. Assumes nothing.
pub mod Session
pub mod Input
