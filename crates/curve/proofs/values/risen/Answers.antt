use Prim.Native.Nat.{ℕ, ◌+◌, ◌-◌, ◌≤◌, ◌<◌}
use mathlib.Core.Path.{◌≡◌, sym, ◌∙◌}
use native.Mathlib.Omega.{arith}
use lib.ListN.{get_or, get_or-eq_default}
use Rattle.curve.specs.Steps.{sum_to, sum_past}
use Rattle.curve.proofs.Laws.{sum-on}
use Rattle.curve.proofs.values.risen.Goals as goal

pub loop-i-init : goal.loop-i-init
unfolding sum_to
loop-i-init c =
    let none : c.args.from - c.args.from ≡ 0 = omega arith in
    ((omega arith, omega arith), (rw (none, sum_to), omega arith))

pub loop-i-preserved : goal.loop-i-preserved
loop-i-preserved c =
    let more = sum-on c.args.rises.now c.args.from c.loop-i.i (omega arith) in
    ((omega arith, omega arith), (omega (arith, more, c.loop-i.invariant.1.0), omega arith))

pub returns : goal.returns
returns c =
    let t = c.loop-i in
    let a = c.args in
    let l = a.rises.now in
    let none : (n : ℕ) → t.i - a.from ≤ n → n < a.count → get_or l (a.from + n) 0 ≡ 0 = λ n from lt. get_or-eq_default l 0 (omega arith) in record { value = t.invariant.1.0 ∙ sym (sum_past (λ j. get_or l (a.from + j) 0) (t.i - a.from) a.count (omega arith) none); upper_bound = omega arith }
