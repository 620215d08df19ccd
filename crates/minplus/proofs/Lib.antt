-- The theorems of document 01 that rest on other theorems.
pub mod Curve
pub mod Conv
pub mod Rising
pub mod Ranks
pub mod Exact
pub mod Delay
pub mod Folded
pub mod MetBy
