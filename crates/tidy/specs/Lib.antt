-- Places: where things stand in an image, and levels dealt into it. Assumes nothing.
pub mod Places
