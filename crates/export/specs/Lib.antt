-- Numbered, MinNumbered, SheetNumbered, RunNumbered, WriteNumbered: answers by their numbers. Assumes nothing.
pub mod Numbered
pub mod MinNumbered
pub mod SheetNumbered
pub mod RunNumbered
pub mod WriteNumbered
