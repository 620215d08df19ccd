use Rattle.judge.specs.Held.{Ran}
use Rattle.judge.proofs.records.run.Given as goal

abbrev pub invariant-loop-k : goal.invariant-loop-k
invariant-loop-k l = Ran l.book l.sound l.initial.verdicts l.curves l.verdicts l.totals l.k
