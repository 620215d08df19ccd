use Rattle.std.specs.Prelude.{◌≡◌}
use Rattle.minplus.specs.Search.{all_below}
use Rattle.content.proofs.Laws.{fits}
use Rattle.content.proofs.curves.values_fit.Given as goal

abbrev pub invariant-loop-value : goal.invariant-loop-value
invariant-loop-value l = l.fit ≡ all_below (fits l.values) l.value-index
