-- Answer: which verdict each case of the answer is, and which refusal.
pub mod Answer
