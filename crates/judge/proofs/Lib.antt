-- What the definitions tell of every claim at every tick.
pub mod Inspector
