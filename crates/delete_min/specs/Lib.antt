-- Takes: what Delete-Min answers and leaves. Assumes nothing.
pub mod Takes
