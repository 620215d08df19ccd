use Prim.Native.Nat.{◌-◌}
use lib.ListN.{length}
use Rattle.book.specs.Held.{Reads}
use Rattle.book.proofs.whole.read.Given as goal

abbrev pub invariant-loop-taken : goal.invariant-loop-taken
invariant-loop-taken l = Reads l.book l.state l.places

abbrev pub decreases-loop-taken : goal.decreases-loop-taken
decreases-loop-taken l = length l.book - l.state.place
