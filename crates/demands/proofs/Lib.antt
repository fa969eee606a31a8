pub mod Plays
pub mod Queue
pub mod Demands
pub mod OnlyOne
pub mod Contracts
