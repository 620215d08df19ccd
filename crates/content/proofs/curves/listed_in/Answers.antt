use Rattle.std.specs.Prelude.{ℕ, ◌+◌, ◌-◌, ◌*◌, ◌≡◌, take, drop}
use Rattle.std.proofs.Common.{ap, ◌∙◌, arith}
use Rattle.numbers.specs.Numbers.{number_at}
use Rattle.content.proofs.Laws.{part_number}
use Rattle.content.proofs.curves.listed_in.Goals as goal

pub returns : goal.returns
returns c =
    let a = c.args in
    let at : ℕ = 8 + 4 * a.n in
    let four : at + 4 - at ≡ 4 = omega arith in
    c.number.ensures.value ∙ ap (λ (k : ℕ). number_at 4 (take k (drop at a.content.now)) 0) four
    ∙ part_number 4 at a.content.now (omega (arith, c.requires))
