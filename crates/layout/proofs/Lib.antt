pub mod Image
pub mod Verdict
pub mod Refused
pub mod Judge
pub mod Back
pub mod Push
pub mod Played
