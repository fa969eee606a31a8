-- Order: the answer at each place of the table. Given: what the answer gives to a caller.
pub mod Order
pub mod Given
