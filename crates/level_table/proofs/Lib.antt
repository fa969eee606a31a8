-- Codes: the table of elements. Spread: elements become it. Gathering: the table becomes elements.
-- Turn: the loop over the updates. Assumes nothing.
pub mod Codes
pub mod Spread
pub mod Gathering
pub mod Turn
