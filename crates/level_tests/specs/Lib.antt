-- Ready: what reading the levels relies on.
pub mod Ready
