use Rattle.std.specs.Prelude.{◌≡◌, ◌≤◌, ◌-◌, length}
use Rattle.minplus.specs.Search.{all_below}
use Rattle.content.proofs.Laws.{rises}
use Rattle.content.proofs.curves.values_rise.Given as goal

abbrev pub invariant-loop-n : goal.invariant-loop-n
invariant-loop-n l = record { inside : l.n - 1 ≤ length l.values - 1; told : l.rise ≡ all_below (rises l.values) (l.n - 1) }
