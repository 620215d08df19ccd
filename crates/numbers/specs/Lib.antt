-- Numbers in bytes, high byte first: read from a place of a list (Numbers), and written over one (Put), one after the
-- other (Written); Back: reading and writing undo each other. Lists has laws of lists for all crates.
pub mod Lists
pub mod Numbers
pub mod Put
pub mod Written
pub mod Back
