-- What a sum, a minimum and a convolution of two curves gain over each D from their rank R on (rank_gains,
-- proofs/Ranks.antt).
--
--     gain_over     what a curve gains over D
--     gain_of       the gain over D of an operation, by combined
use Prim.Native.Nat.{ℕ, ◌+◌, ◌*◌, ◌/◌, min}
use Rattle.minplus.specs.Curve.{Curve}
use Rattle.minplus.specs.Claim.{Operation, sum, minimum, convolution}
use Rattle.minplus.specs.Horizon.{common_period}

-- what f gains over D, a multiple of its period
abbrev pub gain_over : Curve → ℕ → ℕ
gain_over f D = D / f.period * f.increment

-- the gain over D: of a sum both gains, else the smaller one
unfoldable pub combined : Operation → ℕ → ℕ → ℕ
combined sum a b = a + b
combined minimum a b = min a b
combined convolution a b = min a b

unfoldable pub gain_of : Operation → Curve → Curve → ℕ
unfolding combined
gain_of op f g = combined op (gain_over f (common_period f g)) (gain_over g (common_period f g))
