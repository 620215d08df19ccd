-- The search of kind 3, in lent numbers.
pub mod Parts
pub mod Periods
pub mod Reach
pub mod Splits
pub mod Apart
