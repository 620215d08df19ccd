-- What the code answers, in the words of the crate minplus.
pub mod Codes
pub mod Given
pub mod Means
