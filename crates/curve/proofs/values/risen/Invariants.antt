use Prim.Native.Nat.{◌+◌, ◌-◌, ◌*◌, ◌≤◌}
use mathlib.Core.Path.{◌≡◌}
use lib.ListN.{get_or}
use Rattle.curve.specs.Steps.{sum_to, largest}
use Rattle.curve.proofs.values.risen.Given as goal

abbrev pub invariant-loop-i : goal.invariant-loop-i
invariant-loop-i l =
    ((l.from ≤ l.i) × (l.i ≤ l.from + l.count))
    × ((l.sum ≡ sum_to (λ j. get_or l.rises (l.from + j) 0) (l.i - l.from)) × (l.sum ≤ (l.i - l.from) * largest))
