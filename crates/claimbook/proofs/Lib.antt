-- What the program writes for a sound book.
pub mod Texts
