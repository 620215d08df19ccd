-- The writer of books: Writing is document 01's paragraph on it, call by call; Sequence is what any calls one after the
-- other leave, and that a book can be written so and read again; Held is for the code.
pub mod Writing
pub mod Sequence
pub mod Held
