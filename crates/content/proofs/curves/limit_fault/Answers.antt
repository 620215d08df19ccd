use Rattle.std.proofs.Common.{lt-ltb, le-ltb}
use Rattle.minplus.specs.Curve.{max_units}
use Rattle.content.specs.Refusals.{limit_fault}
use Rattle.content.proofs.curves.limit_fault.Goals as goal
use Rattle.content.proofs.curves.limit_fault.Goals.{then-increment-via-then-increment, then-increment-via-else-increment+then-not-values_fit, then-not-values_rise-via-then-not-values_rise, then-not-values_rise-via-else-not-values_rise+then-not-seam_holds}

pub returns-then-increment : goal.returns-then-increment
unfolding limit_fault
returns-then-increment c = elim c.then-increment.branch [
  | then-increment-via-then-increment w ↦ rw (lt-ltb max_units c.args.increment w.if-increment.true)
  | then-increment-via-else-increment+then-not-values_fit w ↦ rw (le-ltb max_units c.args.increment w.if-increment.false, ← w.values_fit.ensures, w.if-not-values_fit.true)
]

pub returns-then-not-values_rise : goal.returns-then-not-values_rise
unfolding limit_fault
returns-then-not-values_rise c = elim c.then-not-values_rise.branch [
  | then-not-values_rise-via-then-not-values_rise w ↦ rw (le-ltb max_units c.args.increment c.if-increment.false, ← c.values_fit.ensures, c.if-not-values_fit.false, ← c.values_rise.ensures, w.if-not-values_rise.true)
  | then-not-values_rise-via-else-not-values_rise+then-not-seam_holds w ↦ rw (le-ltb max_units c.args.increment c.if-increment.false, ← c.values_fit.ensures, c.if-not-values_fit.false, ← c.values_rise.ensures, w.if-not-values_rise.false, ← w.seam_holds.ensures, w.if-not-seam_holds.true)
]

pub returns : goal.returns
unfolding limit_fault
returns c = rw (le-ltb max_units c.args.increment c.if-increment.false, ← c.values_fit.ensures, c.if-not-values_fit.false, ← c.values_rise.ensures, c.if-not-values_rise.false, ← c.seam_holds.ensures, c.if-not-seam_holds.false)
