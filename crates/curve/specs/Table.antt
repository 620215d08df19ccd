-- The table of a curve's values at the ticks from 0 on, in 32 bits.
--
--     cell F n           F(n), or the largest number of 32 bits where it needs more
--     table_over         the values over as many places as there are, at most 4,097
--     table_at           of a form with a well-formed curve each of them is the curve's value; table_length: as many
--                        places as before
use Rattle.std.specs.Prelude.{ℕ, ◌+◌, ◌≤◌, ◌<◌, min, ◌≡◌, List, length, get_or}
use Rattle.std.proofs.Common.{◌∙◌, arith}
use Rattle.minplus.specs.Curve as C
use Rattle.minplus.specs.Horizon.{max_horizon}
use Rattle.curve.specs.Filled.{over, over-length, over_at}
use Rattle.curve.specs.Steps.{Steps, largest, curve_from, stepped}
use Rattle.curve.specs.Stepped.{stepped-value}

abbrev pub cell : (ℕ → ℕ) → ℕ → ℕ
cell F n = min (F n) largest

unfoldable pub table_over : (ℕ → ℕ) → List ℕ → List ℕ
unfolding over
table_over F s = over (cell F) (min (length s) (max_horizon + 1)) s

-- at each tick that has a place it holds the value: 1,000,000 * 4,097 is below 2^32
pub table_at : (s : Steps) → C.WellFormed (curve_from s) → (t : List ℕ) (n : ℕ) → n < length t → n ≤ max_horizon
    → get_or (table_over (stepped s) t) n 0 ≡ C.value (curve_from s) n
unfolding table_over
table_at s w t n lt within =
    over_at (cell (stepped s)) (min (length t) (max_horizon + 1)) t n (omega arith)
    ∙ omega (arith, stepped-value s w n, C.value_at_most (curve_from s) w n)

pub table_length : (F : ℕ → ℕ) (t : List ℕ) → length (table_over F t) ≡ length t
unfolding table_over
table_length F t = over-length (cell F) (min (length t) (max_horizon + 1)) t (omega arith)
