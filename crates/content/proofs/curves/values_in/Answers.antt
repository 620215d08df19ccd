use Rattle.std.specs.Prelude.{min, ◌≡◌}
use Rattle.std.proofs.Common.{sym, ◌∙◌, arith}
use Rattle.curve.specs.Filled.{filled_none, filled_more}
use Rattle.content.specs.Layout.{value_in, whole_in, value_missing}
use Rattle.content.proofs.Laws.{filled_on}
use Rattle.content.proofs.curves.values_in.Goals as goal

pub loop-n-init : goal.loop-n-init
loop-n-init c = sym (filled_none _ 256)

pub loop-n-preserved : goal.loop-n-preserved
loop-n-preserved c =
    let l = c.loop-n in
    rw (c.listed_in.ensures, l.invariant) (filled_more (value_in c.args.content.now) 256 l.n (omega arith))

pub returns : goal.returns
returns c =
    let l = c.loop-n in
    let a = c.args in
    let content = a.content.now in
    let held : l.n ≡ min a.count (whole_in content) = omega arith in
    l.invariant
    ∙ filled_on (value_in content) 256 l.n a.count (omega (arith, held)) (omega arith) (λ n le lt. value_missing content n (omega (arith, held, le, lt)))
