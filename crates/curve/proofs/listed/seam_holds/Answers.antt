use Prim.Native.Nat.{ℕ, ◌+◌, ◌-◌, ◌≤◌}
use mathlib.Core.Path.{◌≡◌, sym, ap}
use native.Mathlib.Omega.{arith}
use lib.ListN.{get_or}
use borrow.Author.Tests.{le-leb}
use Rattle.curve.proofs.listed.seam_holds.Goals as goal

pub returns-then-count-eq0 : goal.returns-then-count-eq0
returns-then-count-eq0 c =
    let a = c.args in
    let l = a.values.now in
    let T : ℕ = a.rank.0 in
    let d : ℕ = a.period.0 in
    let e : T + d - 1 ≡ T = omega arith in
    let level : get_or l (T + d - 1) 0 ≤ get_or l T 0 + a.increment = omega (arith, ap (λ (n : ℕ). get_or l n 0) e) in
    sym (le-leb _ _ level)
