-- The entries for C: States has a writer's state as one number, Calls the calls one after the other with it.
pub mod States
pub mod Calls
