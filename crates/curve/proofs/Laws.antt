-- Laws that several functions' proofs cite, over plain numbers and lists.
use Prim.Native.Nat.{ℕ, suc, ◌+◌, ◌-◌, ◌*◌, ◌<◌, ◌≤◌, ◌^◌}
use mathlib.Core.Path.{◌≡◌, ap, ◌∙◌}
use mathlib.Core.List.{List}
use lib.ListN.{get_or}
use native.Mathlib.Omega.{arith}
use native.Mathlib.Nat.{mul-le-mul, lt_of_lt_of_le}
use lib.Dec.{lit≤}
use Rattle.curve.specs.Steps.{sum_to}

-- a product of two numbers of 32 bits leaves room for another such number
pub product_fits : {a b : ℕ} → a < 2 ^ 32 → b < 2 ^ 32 → a * b < 2 ^ 64 - 2 ^ 32
product_fits {a} {b} ha hb =
    let top : a * b ≤ 4_294_967_295 * 4_294_967_295 = mul-le-mul {n₁ = a} {m₁ = b} {n₂ = 4_294_967_295} {m₂ = 4_294_967_295} (omega arith) (omega arith) in
    omega arith

pub product_below : {a b : ℕ} → a < 2 ^ 32 → b < 2 ^ 32 → a * b < 2 ^ 64
product_below ha hb = lt_of_lt_of_le (product_fits ha hb) (lit≤ tt)

-- one more of the numbers from a place on
pub sum-on : (l : List ℕ) (from i : ℕ) → from ≤ i
    → sum_to (λ j. get_or l (from + j) 0) (i + 1 - from) ≡ sum_to (λ j. get_or l (from + j) 0) (i - from) + get_or l i 0
unfolding sum_to
sum-on l from i le =
    let e : i + 1 - from ≡ suc (i - from) = omega arith in
    let here : from + (i - from) ≡ i = omega arith in
    ap (sum_to (λ j. get_or l (from + j) 0)) e ∙ ap (λ (n : ℕ). sum_to (λ j. get_or l (from + j) 0) (i - from) + get_or l n 0) here
