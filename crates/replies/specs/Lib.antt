-- Replies: what is answered to one line. Assumes nothing.
pub mod Replies
