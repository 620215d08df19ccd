use Rattle.judge.specs.Kept.{Kept}
use Rattle.judge.proofs.curves.keep_all.Given as goal

abbrev pub invariant-loop-n : goal.invariant-loop-n
invariant-loop-n l = Kept l.book l.places.curves l.curves l.n
