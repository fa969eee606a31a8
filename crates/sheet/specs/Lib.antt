-- Answer: what `accept` answers, and the page's number of it. Given: what an accepted sheet gives to a caller.
pub mod Answer
pub mod Given
