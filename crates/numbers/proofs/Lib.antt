-- What rests on the order of a number's bytes.
pub mod HighFirst
