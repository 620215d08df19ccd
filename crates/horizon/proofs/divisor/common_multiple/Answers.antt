use Prim.Native.Nat.{◌*◌, ◌/◌, ◌≤◌, ◌<◌}
use native.Mathlib.Omega.{arith}
use native.Mathlib.Nat.{div-lt_iff_lt-mul, le-div_iff_mul-le}
use native.Mathlib.Nat.{pos_of_dvd_of_pos}
use Rattle.minplus.specs.Divisor.{gcd_right, lcm, lcm_of_0}
use Rattle.horizon.proofs.divisor.common_multiple.Goals as goal

pub returns-then-b-eq0 : goal.returns-then-b-eq0
returns-then-b-eq0 c = rw (c.if-b-eq0.true, lcm_of_0 c.args.a)

pub returns-then-times-b : goal.returns-then-times-b
unfolding lcm
returns-then-times-b c =
    let few : c.args.a / c.common_divisor.result * c.args.b ≤ 4_096 = let some : 0 < c.args.b = omega arith in
    (le-div_iff_mul-le some).0 c.if-times-b.true in
    rw (← c.common_divisor.ensures) (omega (arith, few))

pub returns-else-times-b : goal.returns-else-times-b
unfolding lcm
returns-else-times-b c =
    let some : 0 < c.args.b = omega arith in
    let many : 4_096 < c.args.a / c.common_divisor.result * c.args.b =
    (div-lt_iff_lt-mul some).0 c.if-times-b.false in
    rw (← c.common_divisor.ensures) (omega arith)

pub nonzero_div-times : goal.nonzero_div-times
nonzero_div-times c = omega (arith, c.common_divisor.ensures, pos_of_dvd_of_pos (gcd_right c.args.a c.args.b) (omega arith))
