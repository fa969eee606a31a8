pub mod Run
pub mod Leaves
