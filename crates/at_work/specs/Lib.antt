-- AtWork: the image while Delete-Min works. Assumes nothing.
pub mod AtWork
