-- Visit: one level on the way down. Landed: where the way down ends. Assumes nothing.
pub mod Visit
pub mod Landed
