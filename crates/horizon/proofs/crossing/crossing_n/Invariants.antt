use Prim.Native.Nat.{max, min}
use Rattle.horizon.proofs.crossing.crossing_n.Given as goal

abbrev pub ghost-turning : goal.ghost-turning
ghost-turning a = max

abbrev pub ghost-turning-2 : goal.ghost-turning-2
ghost-turning-2 a = min
