-- How far a claim has to be looked at: the rank R of a result, the crossing N, and the horizon.
--
-- Document 01, 'The horizon', sentence by sentence. T, d, c are the left curve's rank, period and increment; T', d', c'
-- the right one's. Its N is a whole-number formula with differences that may be below 0: here such a difference is kept
-- as a pair of natural numbers, plus less minus, and truncated subtraction is the formula's "larger of 0".
--
--     common_period           D
--     slower, by_rates        rates compared by cross products, and a rank for each of the three ways that they can
--                            stand; Slower: the test as a statement
--     Signed, increased_by    plus less minus
--     extreme_of              the greatest or the least d*f(t) - c*t over some ticks t; raised_at: one of them, raised
--     highest, lowest, earliest     the A, the B and the last list's least value of document 01; begun_at: what A is
--                                   increased by
--     rounded_up, crossing    x/y rounded up; N from A and B
--     minimum_n, convolution_n N where f is the slower one; Crossing.antt pins both without shifts
--     rank_of                 R, by slow_minimum and slow_convolution where f is the slower one; last_rank and
--                            full_period: K and P
--     horizon, max_horizon    of a claim, and the limit above which nothing is judged
use Rattle.std.specs.Prelude.{ℕ, zero, suc, ◌+◌, ◌-◌, ◌*◌, ◌/◌, ◌<◌, min, max, Bool, true, false, ltb}
use Rattle.minplus.specs.Search.{best}
use Rattle.minplus.specs.Curve.{Curve, value}
use Rattle.minplus.specs.Divisor.{lcm}
use Rattle.minplus.specs.Claim.{Operation, sum, minimum, convolution, Claim, equals, bounds}

-- "D is the least common multiple of the periods d of f and d' of g"
unfoldable pub common_period : Curve → Curve → ℕ
unfolding lcm
common_period f g = lcm f.period g.period

-- "c*d' < c'*d": f is slower than g, compared by cross products
abbrev pub slower : Curve → Curve → Bool
slower f g = ltb (f.increment * g.period) (g.increment * f.period)

abbrev pub Slower : Curve → Curve → Type 0
Slower f g = f.increment * g.period < g.increment * f.period

-- "equal rates", "f slower", "if g is slower, swap the two"
unfoldable pub by_rates : Curve → Curve → ℕ → (Curve → Curve → ℕ) → ℕ
by_rates f g equal f_slower = elim (slower f g) [ true ↦ f_slower f g | false ↦ elim (slower g f) [ true ↦ f_slower g f | false ↦ equal ] ]

-- a whole number that may be below 0: plus less minus
pub record Signed : Type 0 where
  pub plus : ℕ
  pub minus : ℕ

infixl 60 ◌increased_by◌
abbrev pub ◌increased_by◌ : Signed → Signed → Signed
a increased_by b = record { plus = a.plus + b.plus; minus = a.minus + b.minus }

-- d*f(t) - c*t for t = start + i, raised by c*(start + count), so that it is not below 0
abbrev pub raised_at : (ℕ → ℕ) → ℕ → ℕ → ℕ → ℕ → ℕ → ℕ
raised_at f d c start count i = d * f (start + i) + c * (count - i)

-- the least or the greatest d*f(t) - c*t over start <= t < start + count, where count > 0. What each is raised by is
-- subtracted again
unfoldable pub extreme_of : (ℕ → ℕ → ℕ) → (ℕ → ℕ) → ℕ → ℕ → ℕ → ℕ → Signed
unfolding best
extreme_of choose f d c start count = record {
  plus = best choose (raised_at f d c start count) (count - 1);
  minus = c * (start + count);
}

-- "A is the greatest d*f(t) - c*t over T <= t < T+d"
unfoldable pub highest : Curve → Signed
unfolding extreme_of value
highest f = extreme_of max (value f) f.period f.increment f.rank f.period

-- "B is the least d'*g(t) - c'*t over T' <= t < T'+d'"
unfoldable pub lowest : Curve → Signed
unfolding extreme_of value
lowest g = extreme_of min (value g) g.period g.increment g.rank g.period

-- "the least d'*f(t) - c'*t over 0 <= t < T"
unfoldable pub earliest : Curve → Curve → Signed
unfolding extreme_of value
earliest f g = extreme_of min (value f) g.period g.increment 0 f.rank

unfoldable pub rounded_up : ℕ → ℕ → ℕ
rounded_up x y = (x + (y - 1)) / y

-- "the larger of 0 and (d'*A - d*B)/(c'*d - c*d') rounded up"
unfoldable pub crossing : Curve → Curve → Signed → Signed → ℕ
unfolding rounded_up
crossing f g A B =
    rounded_up (g.period * A.plus + f.period * B.minus - (f.period * B.plus + g.period * A.minus))
    (g.increment * f.period - f.increment * g.period)

unfoldable pub minimum_n : Curve → Curve → ℕ
unfolding crossing highest lowest
minimum_n f g = crossing f g (highest f) (lowest g)

-- "d*g(T') - c*T'"
abbrev pub begun_at : Curve → Curve → Signed
begun_at f g = record { plus = f.period * value g g.rank; minus = f.increment * g.rank }

-- "N as above but with A increased by d*g(T') - c*T', and B increased by the least d'*f(t) - c'*t over 0 <= t < T.
-- If T = 0 that last list is empty and N is 0."
unfoldable pub convolution_n : Curve → Curve → ℕ
unfolding crossing highest lowest earliest value
convolution_n f g = elim f.rank [
  | zero ↦ 0
  | suc _ ↦ crossing f g (highest f increased_by begun_at f g) (lowest g increased_by earliest f g)
]

-- R: "Minimum, f slower: R = max(T,T',N)" and "Convolution, f slower: R = max(T+T'+D, N)"
abbrev pub slow_minimum : Curve → Curve → ℕ
slow_minimum f g = max (max f.rank g.rank) (minimum_n f g)

abbrev pub slow_convolution : Curve → Curve → ℕ
slow_convolution f g = max (f.rank + g.rank + common_period f g) (convolution_n f g)

-- "Sum: R = max(T,T')", and with equal rates "R = max(T,T')" for a minimum and "R = T+T'+D" for a convolution
unfoldable pub rank_of : Operation → Curve → Curve → ℕ
unfolding by_rates minimum_n convolution_n common_period
rank_of sum f g = max f.rank g.rank
rank_of minimum f g = by_rates f g (max f.rank g.rank) slow_minimum
rank_of convolution f g = by_rates f g (f.rank + g.rank + common_period f g) slow_convolution

-- "K the greater of R and h's rank, P the least common multiple of D and h's period. The horizon is K+P"
unfoldable pub last_rank : Operation → Curve → Curve → Curve → ℕ
unfolding rank_of
last_rank op f g h = max (rank_of op f g) h.rank

unfoldable pub full_period : Curve → Curve → Curve → ℕ
unfolding lcm common_period
full_period f g h = lcm (common_period f g) h.period

-- "Kinds 4 to 7: the horizon is max(T,T')+D."
unfoldable pub horizon : Claim → ℕ
unfolding last_rank full_period common_period
horizon (equals op f g h) = last_rank op f g h + full_period f g h
horizon (bounds δ t f g X) = max f.rank g.rank + common_period f g

-- "A horizon above 4,096 gives "not judged"."
abbrev pub max_horizon : ℕ
max_horizon = 4_096
