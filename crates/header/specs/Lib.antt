-- Record: the header as one record. Assumes nothing.
pub mod Record
