-- The parts of a line of text.
pub mod Parts
