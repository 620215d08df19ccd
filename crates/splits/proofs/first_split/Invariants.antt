-- A turn of the outer loop has found nothing yet and has counted the ticks before it, and `Folds` says where it stands.
-- Both inner loops have the invariant `LeastUpTo`.
use Prim.Native.Nat.{ℕ, ◌+◌, ◌≤◌, ◌<◌, max}
use mathlib.Core.Path.{◌≡◌}
use mathlib.Core.Bool.{false}
use Rattle.std.specs.Prelude.{None}
use lib.ListN.{get_or}
use Rattle.minplus.specs.Curve.{Curve}
use Rattle.minplus.specs.Claim.{convolution, equals}
use Rattle.minplus.specs.Verdict.{breaks}
use Rattle.curve.specs.Steps.{curve_from}
use Rattle.curve.specs.Held.{steps_of}
use Rattle.splits.specs.Splits.{Folds, LeastUpTo}
use Rattle.splits.proofs.first_split.Given as goal

abbrev pub invariant-loop-v : goal.invariant-loop-v
invariant-loop-v l = LeastUpTo (λ i. get_or l.work.left i 0) (λ i. get_or l.work.right i 0) 0 l.n l.v l.near × (l.v ≤ max 1 l.end)

abbrev pub invariant-loop-v-then-n-settled-2 : goal.invariant-loop-v-then-n-settled-2
invariant-loop-v-then-n-settled-2 l = LeastUpTo (λ i. get_or l.work.left i 0) (λ i. get_or l.work.right i 0) l.start l.n l.v l.last × (l.v ≤ max (l.start + 1) l.end)

abbrev pub invariant-ticks : goal.invariant-ticks
invariant-ticks l =
    let f : Curve = curve_from (steps_of l.f.held) in
    let g : Curve = curve_from (steps_of l.g.held) in
    (l.compared ≡ record { found = None; ticks = record { 0 = l.n } })
    × (Folds l.itself f g (steps_of l.h.held) l.initial.work l.work l.walk l.n l.at l.added l.turn
    × ((k : ℕ) → k < l.n → breaks (equals convolution f g (curve_from (steps_of l.h.held))) k ≡ false))
