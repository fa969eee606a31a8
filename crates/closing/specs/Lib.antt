-- Seal: the image after a stop. Wipe: the image with nothing left. Assumes nothing.
pub mod Seal
pub mod Wipe
