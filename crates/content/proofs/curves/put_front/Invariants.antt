use Rattle.std.specs.Prelude.{◌≡◌}
use Rattle.std.proofs.Math.Seq.{paste}
use Rattle.content.proofs.curves.put_front.Given as goal

abbrev pub invariant-loop-n : goal.invariant-loop-n
invariant-loop-n l = l.out ≡ paste l.initial.out 0 l.from l.n
