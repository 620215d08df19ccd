use Prim.Native.Nat.{ℕ, suc, ◌+◌, ◌-◌, ◌<◌}
use mathlib.Core.Path.{◌≡◌, ◌∙◌}
use native.Mathlib.Omega.{arith}
use native.Mathlib.Nat.{div-lt_iff_lt-mul, le-div_iff_mul-le}
use Rattle.std.specs.Int.{div_ceil}
use Rattle.std.proofs.lemmas.Grind.{div_ceil_times}
use Rattle.minplus.specs.Horizon.{crossing, rounded_up}
use Rattle.horizon.proofs.crossing.crossing.Goals as goal

ceil-rounded : (x y : ℕ) → 0 < y → div_ceil x y ≡ rounded_up x y
unfolding rounded_up
ceil-rounded x y some =
    let k : ℕ = div_ceil x y in
    let at = div_ceil_times x y some in
    let least = (le-div_iff_mul-le {k = y} {x = k} {y = x + (y - 1)} some).1 (omega (arith, at.1)) in
    let most = (div-lt_iff_lt-mul {k = y} {x = x + (y - 1)} {y = suc k} some).1 (omega (arith, at.0)) in
    omega (arith, least, most)

pub returns : goal.returns
unfolding crossing
returns c = c.div_ceil.ensures ∙ rw c.saturating_sub-ahead.ensures (ceil-rounded _ _ (omega (arith, c.requires.slower)))
