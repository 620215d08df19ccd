-- What the searches find, in the words of the crate minplus.
pub mod Found
pub mod Break
pub mod Beside
