use mathlib.Core.Path.{◌≡◌}
use lib.ListN.{length}
use Rattle.curve.specs.Filled.{over}
use Rattle.curve.specs.Rises.{rise_within}
use Rattle.curve.proofs.listed.put_inner.Given as goal

abbrev pub invariant-loop-n : goal.invariant-loop-n
invariant-loop-n l = (length l.values ≡ length l.initial.values) × (l.values ≡ over (rise_within l.initial.values) l.n l.initial.values)
