-- The run over a book: document 01's answer and records, for any bytes and any lent buffer. Answer, Claims, Records,
-- Totals and Run are the definitions; Inspector says what they tell of every claim at every tick; Ground has its
-- numbers computed from bytes; Kept and Held are for the code.
pub mod Answer
pub mod Claims
pub mod Records
pub mod Totals
pub mod Run
pub mod Readback
pub mod Inspector
pub mod Ground
pub mod Kept
pub mod Held
