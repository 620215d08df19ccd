-- When a value never falls, without end. Refusal 9 means what it says: rising_exactly (proofs/Rising.antt).
--
--     NeverFalls F        F n <= F m for all n <= m
--     never_falls_by      it is enough that no tick is above the next one
use Rattle.std.specs.Prelude.{ℕ, zero, suc, ◌≤◌, ◌≡◌}
use Rattle.std.proofs.Common.{arith, le_refl}
use Rattle.std.proofs.Math.Decide.{dec_le}

abbrev pub NeverFalls : (ℕ → ℕ) → Type 0
NeverFalls F = (n m : ℕ) → n ≤ m → F n ≤ F m

pub never_falls_by : (F : ℕ → ℕ) → ((n : ℕ) → F n ≤ F (suc n)) → NeverFalls F
never_falls_by F next n zero le = let e : n ≡ zero = omega arith in rw e (le_refl (F zero))
never_falls_by F next n (suc m) le = elim (dec_le n m) [
  | yes before ↦ omega (arith, never_falls_by F next n m before, next m)
  | no after ↦ let e : n ≡ suc m = omega (arith, after) in rw e (le_refl (F (suc m)))
]
