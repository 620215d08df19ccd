use Rattle.curve.specs.Steps.{value_by}
use Rattle.curve.proofs.walks.Walk.at.Goals as goal

pub returns : goal.returns
unfolding value_by
returns c = rw (c.value_after.ensures, c.turn_by-begin.ensures)
