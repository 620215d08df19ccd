use Rattle.curve.specs.Steps.{closes}
use Rattle.curve.proofs.Held.closes.Goals as goal

pub returns : goal.returns
unfolding closes
returns c = rw c.risen.ensures.value
