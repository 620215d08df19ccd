use mathlib.Core.Path.{sym}
use Rattle.curve.specs.Rises.{after_missing, after_seam}
use Rattle.curve.proofs.listed.after_last.Goals as goal

pub returns-then-values-t : goal.returns-then-values-t
returns-then-values-t c =
    let a = c.args in
    sym (after_missing (record { rank = a.rank.0; period = a.period.0; increment = a.increment; listed = a.values.now }) c.if-values-t.true)

pub returns : goal.returns
returns c =
    let a = c.args in
    rw c.number_at.ensures (sym (after_seam (record { rank = a.rank.0; period = a.period.0; increment = a.increment; listed = a.values.now }) c.if-values-t.false))
