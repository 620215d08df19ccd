use Rattle.curve.specs.Steps.{value_by}
use Rattle.curve.proofs.Held.value_at.Goals as goal

pub returns : goal.returns
unfolding value_by
returns c = rw (c.value_after.ensures, c.turn_by.ensures)
