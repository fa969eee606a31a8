-- Cursor: what stands at the place sought, and how the cursors move.
pub mod Cursor
