-- The whole book, field by field. Reading is document 01's "Then field by field; the first bad field decides", Values
-- its question for a curve's value; Sound says what is known of a book that is not refused; Listing has a book as
-- values with its bytes, RoundTrip that reading and writing undo each other; Held is for the code.
pub mod Reading
pub mod Values
pub mod Sound
pub mod Ground
pub mod Listing
pub mod RoundTrip
pub mod Held
