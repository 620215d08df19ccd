-- What the program writes.
pub mod Answered
pub mod Ground
