-- A test's answer, and what it tells.
pub mod Told
