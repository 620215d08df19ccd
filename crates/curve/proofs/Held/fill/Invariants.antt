use Prim.Native.Nat.{ℕ, ◌+◌, ◌-◌, ◌*◌, ◌≤◌, ◌<◌}
use mathlib.Core.Path.{◌≡◌}
use mathlib.Core.List.{List}
use Rattle.curve.specs.Filled.{over}
use Rattle.curve.specs.Steps.{Steps, largest, place_at, stepped}
use Rattle.curve.specs.Table.{cell}
use Rattle.curve.proofs.Held.fill.Given as goal

-- what the sum is over: c plays no part in it
abbrev pub summed : ℕ → ℕ → ℕ → List ℕ → Steps
summed T d first rises = record { rank = T; period = d; increment = 0; first = first; rises = rises }

abbrev pub invariant-loop-n : goal.invariant-loop-n
invariant-loop-n l =
    let s : Steps = summed l.t (l.count - l.t) l.initial.value l.self.rises.now in
    ((l.t ≤ l.count) × (l.count < 8_589_934_592))
    × ((l.place ≡ place_at l.t (l.count - l.t) l.n) × (l.value ≡ stepped s l.n) × (l.value ≤ (l.n + 1) * largest)) × (l.out ≡ over (cell (stepped s)) l.n l.initial.out)
