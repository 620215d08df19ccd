use Rattle.std.specs.Prelude.{◌≡◌}
use Rattle.numbers.specs.Put.{put, bytes_of}
use Rattle.numbers.proofs.put.Given as goal

abbrev pub invariant-loop-k : goal.invariant-loop-k
invariant-loop-k l = put l.out l.at (bytes_of l.k l.rest) ≡ put l.initial.out l.at (bytes_of l.width l.n)
