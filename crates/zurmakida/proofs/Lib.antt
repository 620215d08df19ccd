-- Calls from C, one after the other, go as the writer's do.
pub mod Calls
