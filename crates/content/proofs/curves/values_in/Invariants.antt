use Rattle.std.specs.Prelude.{◌≡◌}
use Rattle.curve.specs.Filled.{filled}
use Rattle.content.specs.Layout.{value_in}
use Rattle.content.proofs.curves.values_in.Given as goal

abbrev pub invariant-loop-n : goal.invariant-loop-n
invariant-loop-n l = l.values ≡ filled (value_in l.content) 256 l.n
