use Rattle.std.specs.Prelude.{◌≡◌, min}
use Rattle.std.proofs.Common.{sym, ap, ◌∙◌, arith}
use Rattle.minplus.specs.Curve.{max_listed}
use Rattle.curve.specs.Filled.{filled}
use Rattle.curve.specs.Held.{held_over, padded-listed}
use Rattle.content.specs.Layout.{count_in, value_in}
use Rattle.content.proofs.curves.curve_in.Goals as goal

pub returns : goal.returns
returns c =
    let content = c.args.content.now in
    let rank = c.number-rank.ensures.value in
    let period = c.number-period.ensures.value in
    let all : c.min.result ≡ min (count_in content) max_listed = omega (arith, rank, period) in
    let array = c.values_in-values.ensures ∙ ap (filled (value_in content) max_listed) all ∙ sym (padded-listed (value_in content) (count_in content)) in
    c.new.ensures ∙ (λ i. held_over (record { rank = rank i; period = period i; increment = c.number-increment.ensures.value i; listed = array i }))
