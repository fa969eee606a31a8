pub mod Numbers
pub mod Rows
pub mod Sheet
pub mod Accepted
pub mod Writer
pub mod Writable
