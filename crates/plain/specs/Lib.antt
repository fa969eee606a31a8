pub mod Refusals
pub mod Lists
