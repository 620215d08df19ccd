use Rattle.std.specs.Prelude.{◌≡◌, length, refl}
use Rattle.std.proofs.Common.{arith}
use Rattle.minplus.specs.Search.{all_below}
use Rattle.content.specs.Refusals.{values_fit}
use Rattle.content.proofs.Laws.{fits, all_next}
use Rattle.content.proofs.curves.values_fit.Goals as goal

pub loop-value-init : goal.loop-value-init
unfolding all_below
loop-value-init c = refl

pub loop-value-preserved : goal.loop-value-preserved
loop-value-preserved c = rw c.loop-value.invariant (all_next (fits c.args.values.now) c.loop-value.value-index)

pub returns : goal.returns
unfolding values_fit
returns c =
    let e : length c.args.values.now ≡ c.loop-value.value-index = omega arith in
    rw e c.loop-value.invariant
