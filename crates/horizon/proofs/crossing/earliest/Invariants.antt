use Prim.Native.Nat.{min}
use Rattle.horizon.proofs.crossing.earliest.Given as goal

abbrev pub ghost-extreme : goal.ghost-extreme
ghost-extreme a = min
