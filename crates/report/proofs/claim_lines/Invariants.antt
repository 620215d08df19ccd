use Prim.Native.Nat.{◌*◌, ◌≤◌}
use Rattle.numbers.specs.Written.{Wrote}
use Rattle.report.specs.Lines.{max_line, claim_lines}
use Rattle.report.proofs.claim_lines.Given as goal

abbrev pub invariant-loop-k : goal.invariant-loop-k
invariant-loop-k l = (l.k ≤ l.claims) × ((l.at ≤ max_line * l.k) × Wrote l.initial.out 0 (claim_lines l.verdicts l.k) l.out l.at)
