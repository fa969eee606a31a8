-- Columns: what a header's columns say of levels. Stored: a header stored before its levels. Levels: levels that have no updates.
-- Sealing: what `seal` asks and leaves. Wiping: what `wipe` asks and leaves. Assumes nothing.
pub mod Columns
pub mod Stored
pub mod Levels
pub mod Sealing
pub mod Wiping
