-- Numbers: no refusal has the number 0. Assumes nothing.
pub mod Numbers
