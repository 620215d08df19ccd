-- What kinds 4 and 5 claim in the words of source document 003, on ticks; proofs/Delay.antt has the theorems on it.
--
--     Delayed     WaitsAtMost, and HorizontalDeviation
use Prim.Native.Nat.{ℕ}
use Rattle.minplus.specs.Claim.{HorizontalDeviation, Tightness, WaitsAtMost, at_most, exactly}

abbrev pub Delayed : Tightness → (ℕ → ℕ) → (ℕ → ℕ) → ℕ → Type 0
Delayed at_most f g X = WaitsAtMost f g X
Delayed exactly f g X = HorizontalDeviation f g X
