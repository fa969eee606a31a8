-- Commands: what a line asks. Assumes nothing.
pub mod Commands
