use Prim.Native.Nat.{ℕ, ◌<◌}
use mathlib.Core.Path.{◌≡◌}
use mathlib.Core.Bool.{Bool, false}
use Rattle.minplus.specs.Claim.{equals}
use Rattle.minplus.specs.Verdict.{breaks}
use Rattle.curve.specs.Steps.{curve_from}
use Rattle.curve.specs.Held.{steps_of}
use Rattle.curve.specs.Walks.{walk_at}
use Rattle.search.specs.Beside.{GivesBeside, beside_of}
use Rattle.search.proofs.results.first_by.Given as goal

abbrev pub invariant-loop-n : goal.invariant-loop-n
invariant-loop-n g l =
    ((l.one ≡ walk_at (steps_of l.f.held) l.n) × ((l.other ≡ walk_at (steps_of l.g.held) l.n) × (l.said ≡ walk_at (steps_of l.h.held) l.n)))
    × ((l.counted ≡ record { 0 = l.n })
    × ((minimum : Bool) → GivesBeside minimum (λ a b r. goal.B-post g l.beside a b r)
    → (k : ℕ) → k < l.n → breaks (equals (beside_of minimum) (curve_from (steps_of l.f.held)) (curve_from (steps_of l.g.held)) (curve_from (steps_of l.h.held))) k ≡ false))
