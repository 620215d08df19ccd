-- Kinds 1 and 2: what is due at a tick is made of the two values there.
--
--     beside_of minimum        the operation: the minimum, or else the sum
--     beside_at minimum        the same of two numbers; beside_due: it is what is due
--     TakesTwo, GivesBeside    what may be asked of a closure, two values whose sum fits 64 bits, and that it gives so
use Rattle.std.specs.Prelude.{ℕ, ◌+◌, ◌≤◌, min, ◌≡◌, refl, Bool, true, false}
use Rattle.minplus.specs.Claim as C
use Rattle.minplus.specs.Claim.{due}
use Rattle.curve.specs.Walks.{most}

abbrev pub beside_of : Bool → C.Operation
beside_of true = C.minimum
beside_of false = C.sum

abbrev pub beside_at : Bool → ℕ → ℕ → ℕ
beside_at true a b = min a b
beside_at false a b = a + b

abbrev pub TakesTwo : (ℕ → ℕ → Type 0) → Type 0
TakesTwo pre = (a b : ℕ) → a + b ≤ most → pre a b

abbrev pub GivesBeside : Bool → (ℕ → ℕ → ℕ → Type 0) → Type 0
GivesBeside minimum post = (a b r : ℕ) → a + b ≤ most → post a b r → r ≡ beside_at minimum a b

pub beside_due : (minimum : Bool) (f g : ℕ → ℕ) (n : ℕ) → beside_at minimum (f n) (g n) ≡ due (beside_of minimum) f g n
unfolding due
beside_due true f g n = refl
beside_due false f g n = refl
