-- Deck: the levels filled again. Site: where the way down stopped, and what stands there once the levels are filled. Assumes nothing.
pub mod Deck
pub mod Site
