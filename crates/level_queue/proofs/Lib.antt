-- Returns: each way out of an outward call is a case of its definition. Making: room made, then the update. Assumes nothing.
pub mod Returns
pub mod Making
