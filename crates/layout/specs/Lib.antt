-- Read in this order. Words: an update as a word. Image: the layout, written and read. SoundImage: when a slice holds a sound image. Refusals:
-- rows 1 to 5 of the table. Calls: what each call answers and leaves.
pub mod Words
pub mod Image
pub mod SoundImage
pub mod Refusals
pub mod Calls
