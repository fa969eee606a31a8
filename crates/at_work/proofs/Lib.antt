-- Places: what reads and stores do while Delete-Min works. Hands: a level that takes nothing, and what a level passes on. Spare: the stack has
-- room where the way down ends. Assumes nothing.
pub mod Places
pub mod Hands
pub mod Spare
