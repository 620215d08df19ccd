use Prim.Native.Nat.{ℕ, ◌+◌, ◌<◌}
use mathlib.Core.Path.{◌≡◌}
use mathlib.Core.Bool.{false}
use lib.Dec.{ltb}
use Rattle.minplus.specs.Curve.{value}
use Rattle.curve.specs.Steps.{curve_from}
use Rattle.curve.specs.Held.{steps_of}
use Rattle.curve.specs.Walks.{walk_at}
use Rattle.search.specs.Break.{allowed_by}
use Rattle.search.proofs.bounds.first_above.Given as goal

-- The two walks stand at s and so many ticks later, and no tick before s passes the test. So many
-- ticks are counted.
abbrev pub invariant-loop-s : goal.invariant-loop-s
invariant-loop-s l =
    let later : ℕ = l.fn.later.0 in
    ((l.arrived ≡ walk_at (steps_of l.f.held) l.s) × (l.served ≡ walk_at (steps_of l.g.held) (l.s + later)))
    × ((l.counted ≡ record { 0 = l.s })
    × ((k : ℕ) → k < l.s → ltb (allowed_by (curve_from (steps_of l.g.held)) later l.more.0 k) (value (curve_from (steps_of l.f.held)) k) ≡ false))
