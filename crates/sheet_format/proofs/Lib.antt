pub mod Main
pub mod Read
pub mod Tests
pub mod Judge
pub mod Rows
pub mod Places
pub mod Taken
pub mod Written
