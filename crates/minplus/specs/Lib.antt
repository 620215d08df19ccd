-- The mathematics of document 01. First what is defined, in its order: a reader holds these beside it. Then what is
-- proved of it; what rests on another theorem, as the exactness of the verdict, is in proofs/.
pub mod Curve
pub mod Conv
pub mod Claim
pub mod Divisor
pub mod Horizon
pub mod Verdict
pub mod Meaning
-- laws and theorems
pub mod Search
pub mod Gains
pub mod Rising
pub mod Crossing
pub mod Ranks
pub mod Delay
pub mod Recorded
pub mod Folded
pub mod Ground
