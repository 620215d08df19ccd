-- The horizon as the code reaches it.
pub mod Capped
pub mod Reach
