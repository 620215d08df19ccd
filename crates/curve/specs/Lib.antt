-- What the code's values mean, in the words of the crate minplus.
pub mod Filled
pub mod Steps
pub mod Rises
pub mod Stepped
pub mod Held
pub mod Table
pub mod Walks
pub mod Claimed
pub mod Lending
pub mod Kinds
pub mod Ground
