-- Where: from a sound image and where its way down ended to what the later calls ask. Assumes nothing.
pub mod Where
