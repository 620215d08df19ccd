-- What rests on the order of the tests and on what a refused call leaves: Tests, one call; Sequence, any calls.
pub mod Tests
pub mod Sequence
