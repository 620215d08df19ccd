use mathlib.Core.Path.{◌≡◌, ap}
use native.Mathlib.Omega.{arith}
use Rattle.splits.specs.Parts.{carried_in, carried_put}
use Rattle.splits.proofs.Work.carry.Goals as goal
use Rattle.splits.proofs.Work.carry.Goals.{then-again, else-again}

-- by the test, the lesser of two
pub returns : goal.returns
unfolding carried_in
returns c =
    let a = c.args in
    let least : c.if-again.least ≡ carried_in a.self.now a.at a.added a.turn a.gain a.again =
    elim c.if-again.branch [ then-again w ↦ rw w.if-again.true (omega arith) | else-again w ↦ rw w.if-again.false (omega arith) ] in
    record { value = least; work_after = ap (carried_put a.self.now a.turn) least }
