use Rattle.std.specs.Prelude.{ℕ, ◌≡◌, List, length, min}
use Rattle.std.proofs.Common.{sym, ap, ap₂, ◌∙◌, arith}
use Rattle.std.proofs.Math.Seq.{paste}
use Rattle.minplus.specs.Curve.{max_listed}
use Rattle.curve.specs.Filled.{filled}
use Rattle.curve.specs.Held.{form_over, held_over, padded-listed, rises_into}
use Rattle.content.specs.Layout.{count_in, value_in}
use Rattle.content.proofs.curves.curve_into.Goals as goal

pub returns : goal.returns
returns c =
    let out = c.args.out.now in
    let content = c.args.content.now in
    let rank = c.number-rank.ensures.value in
    let period = c.number-period.ensures.value in
    let increment = c.number-increment.ensures.value in
    let all : c.min-count.result ≡ min (count_in content) max_listed = omega (arith, rank, period) in
    let array = c.values_in-values.ensures ∙ ap (filled (value_in content) max_listed) all ∙ sym (padded-listed (value_in content) (count_in content)) in
    let hold = c.hold-form.ensures in
    record {
      value = hold.value ∙ (λ i. form_over (record { rank = rank i; period = period i; increment = increment i; listed = array i }));
      out_after = c.put_front.ensures
          ∙ ap₂ (λ (l : List ℕ) (k : ℕ). paste out 0 l (min k (length out))) hold.values_after (omega arith)
          ∙ (λ i. rises_into out (held_over (record { rank = rank i; period = period i; increment = increment i; listed = array i })));
    }
