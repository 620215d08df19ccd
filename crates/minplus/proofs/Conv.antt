-- The laws of a convolution, from its two: no split gives less, and some split gives it (specs/Conv.antt).
--
--     conv_above     a number that no split is below is not above it
--     conv_below     no split gives less, by the tick
--     conv_comm, conv_assoc
use Rattle.std.specs.Prelude.{ℕ, ◌+◌, ◌≤◌, ◌≡◌}
use Rattle.std.proofs.Common.{subst, arith, le_antisymm}
use Rattle.minplus.specs.Conv.{conv, conv_lower, conv_attained}

pub conv_above : (f g : ℕ → ℕ) (n x : ℕ) → ((u v : ℕ) → u + v ≡ n → x ≤ f u + g v) → x ≤ conv f g n
conv_above f g n x all =
    let t = conv_attained f g n in
    omega (arith, all t.0 t.1 t.2, t.3)

-- the lower bound, at a tick that is a split's sum
pub conv_below : (f g : ℕ → ℕ) (n u v : ℕ) → u + v ≡ n → conv f g n ≤ f u + g v
conv_below f g n u v e = subst (λ (m : ℕ). conv f g m ≤ f u + g v) e (conv_lower f g u v)

pub conv_comm : (f g : ℕ → ℕ) (n : ℕ) → conv f g n ≡ conv g f n
conv_comm f g n = le_antisymm (half f g) (half g f)
  where
    half : (f g : ℕ → ℕ) → conv f g n ≤ conv g f n
    half f g = conv_above g f n (conv f g n) (λ u v e. omega (arith, conv_below f g n v u (omega arith)))

pub conv_assoc : (f g h : ℕ → ℕ) (n : ℕ) → conv (conv f g) h n ≡ conv f (conv g h) n
conv_assoc f g h n =
    le_antisymm
    (conv_above f (conv g h) n (conv (conv f g) h n) (λ u v e.
    let t = conv_attained g h v in
    omega (arith, conv_below (conv f g) h n (u + t.0) t.1 (omega (arith, t.2)), conv_lower f g u t.0, t.3)))
    (conv_above (conv f g) h n (conv f (conv g h) n) (λ u v e.
    let t = conv_attained f g u in
    omega (arith, conv_below f (conv g h) n t.0 (t.1 + v) (omega (arith, t.2)), conv_lower g h t.1 v, t.3)))
