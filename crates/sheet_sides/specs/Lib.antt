-- Cursors: how far each row is passed, and the place that is sought in one.
pub mod Cursors
