use mathlib.Core.Path.{◌≡◌}
use Rattle.lines.specs.Parts.{place_from}
use Rattle.lines.proofs.find.Given as goal

abbrev pub invariant-loop-i : goal.invariant-loop-i
invariant-loop-i l = place_from l.byte l.s l.i ≡ place_from l.byte l.s l.from
