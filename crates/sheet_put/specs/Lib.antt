-- Sheet: the sheet that words in order make. Assumes nothing.
pub mod Sheet
