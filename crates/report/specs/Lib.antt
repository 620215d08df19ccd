-- The lines for an answer of the judge.
pub mod Text
pub mod Written
pub mod Lines
pub mod Ground
