-- Place: an id's place. Area: elements put anew in a work area. Cases: one update, case by case. Pads: padded areas, and words of updates.
-- Turn: the loop over the updates. Assumes nothing.
pub mod Place
pub mod Area
pub mod Cases
pub mod Pads
pub mod Turn
