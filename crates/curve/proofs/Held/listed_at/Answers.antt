use Rattle.curve.specs.Steps.{risen_to, sum_same}
use Prim.Native.Nat.{ℕ, ◌+◌}
use mathlib.Core.Path.{◌≡◌, ap, ◌∙◌}
use native.Mathlib.Omega.{arith}
use lib.ListN.{get_or}
use Rattle.curve.proofs.Held.listed_at.Goals as goal

pub returns : goal.returns
unfolding risen_to
returns c =
    let a = c.args in
    let l = a.self.rises.now in
    ap (λ (x : ℕ). a.self.form.first + x)
    (c.risen.ensures.value ∙ sum_same (λ i. get_or l (0 + i) 0) (λ i. get_or l i 0) a.place (λ i lt. let e : 0 + i ≡ i = omega arith in ap (λ (n : ℕ). get_or l n 0) e))
