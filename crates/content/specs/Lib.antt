-- The contents of a book's fields: document 01's sections 'The book' and 'Refusal numbers', as far as they speak of one
-- curve or one claim. Layout has the bytes, read and written, and Refusals why they are refused; Sound says what is
-- known of a curve and of a claim that are not refused; Back that reading and writing undo each other; Claims is for
-- the code.
pub mod Layout
pub mod Refusals
pub mod Sound
pub mod Back
pub mod Claims
