use Rattle.writer.specs.Held.{Filling}
use Rattle.writer.proofs.fields.put_values.Given as goal

abbrev pub invariant-loop-n : goal.invariant-loop-n
invariant-loop-n l = Filling l.initial.out l.at l.values l.n l.out
