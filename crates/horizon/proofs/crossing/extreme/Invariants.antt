use Prim.Native.Nat.{◌+◌, ◌-◌, ◌≤◌}
use mathlib.Core.Path.{◌≡◌}
use Rattle.minplus.specs.Search.{best}
use Rattle.minplus.specs.Curve.{value}
use Rattle.minplus.specs.Horizon.{raised_at}
use Rattle.curve.specs.Steps.{curve_from}
use Rattle.curve.specs.Held.{steps_of}
use Rattle.curve.specs.Walks.{walk_at}
use Rattle.horizon.specs.Reach.{large}
use Rattle.horizon.proofs.crossing.extreme.Given as goal

abbrev pub invariant-loop-i : goal.invariant-loop-i
invariant-loop-i g l = record {
  walk : l.walk ≡ walk_at (steps_of l.f.held) (l.start.0 + (l.i - 1));
  kept : l.kept ≡ best g.choice (raised_at (value (curve_from (steps_of l.f.held))) l.rate.period l.rate.increment l.start.0 l.count) (l.i - 1);
  fits : l.kept ≤ large;
}
