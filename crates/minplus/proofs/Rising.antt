-- Refusal 9 means what it says: of a curve with a period above 0 the two rules of Rising hold exactly when its value
-- never falls, without end. No other limit is asked.
--
--     rising_exactly      Rising f exactly when NeverFalls (value f)
--     flat_from           a curve that never falls and gains nothing is nowhere above its value at its rank
--     gains_past          one that gains is at x or above from some tick on, whatever x is
use Rattle.std.specs.Prelude.{ℕ, suc, ◌+◌, ◌-◌, ◌*◌, ◌≤◌, ◌<◌, ◌≡◌, ◌↔◌}
use Rattle.std.proofs.Common.{ap, ◌∙◌, arith, le_refl, mul-le-mul_left}
use Rattle.std.proofs.Math.Decide.{dec_le}
use Rattle.minplus.specs.Gains.{every_period}
use Rattle.minplus.specs.Curve.{Curve, Rising, count, listed_at, value, value_gains, value-listed}
use Rattle.minplus.proofs.Curve.{value_repeats}
use Rattle.minplus.specs.Rising.{NeverFalls, never_falls_by}

module _ (f : Curve) (positive : 1 ≤ f.period) where
  -- the tick at which the second period begins
  value_seam : value f (count f) ≡ listed_at f f.rank + f.increment
  value_seam =
      (value_gains f positive).gain f.rank (le_refl f.rank)
      ∙ ap (λ (x : ℕ). x + f.increment) (value-listed f positive f.rank (omega arith))

  rising_next : Rising f → (n : ℕ) → value f n ≤ value f (suc n)
  rising_next rising = every_period (λ n. value f n ≤ value f (suc n)) f.rank f.period positive first later
    where
      first : (n : ℕ) → n < count f → value f n ≤ value f (suc n)
      first n lt = elim (dec_le (suc (suc n)) (count f)) [
        | yes inside ↦
            omega (arith, value-listed f positive n lt, value-listed f positive (suc n) inside, rising.listed-rise n (omega (arith, inside)))
        | no last ↦
            let next : suc n ≡ count f = omega (arith, last, lt) in
            let here : n ≡ count f - 1 = omega (arith, next) in
            omega (arith, value-listed f positive n lt, ap (listed_at f) here, rising.seam_holds_lem, ap (value f) next, value_seam)
      ]

      later : (n : ℕ) → f.rank ≤ n → value f n ≤ value f (suc n) → value f (n + f.period) ≤ value f (suc (n + f.period))
      later n le rise =
          let e : suc (n + f.period) ≡ suc n + f.period = omega arith in
          omega (arith, rise, ap (value f) e, (value_gains f positive).gain n le, (value_gains f positive).gain (suc n) (omega arith))

  pub rising_exactly : Rising f ↔ NeverFalls (value f)
  rising_exactly = (
    λ rising. never_falls_by (value f) (rising_next rising),
    λ never-falls. record {
      listed-rise = λ n lt.
          omega (
            arith,
            never-falls n (suc n) (omega arith),
            value-listed f positive n (omega (arith, lt)),
            value-listed f positive (suc n) (omega (arith, lt)),
          );
      seam_holds_lem =
          omega (arith, never-falls (count f - 1) (count f) (omega arith), value-listed f positive (count f - 1) (omega arith), value_seam);
    },
  )

  pub flat_from : Rising f → f.increment ≡ 0 → (n : ℕ) → value f n ≤ value f f.rank
  flat_from rising flat n =
      let later : n ≤ f.rank + n * f.period = omega (arith, positive, times) in
      omega (arith, rising_exactly.0 rising n (f.rank + n * f.period) later, value_repeats f positive f.rank n (le_refl f.rank), none)
    where
      times : n * 1 ≤ n * f.period
      times = mul-le-mul_left n positive

      none : n * f.increment ≡ 0
      none = rw flat (omega arith)

  pub gains_past : Rising f → 1 ≤ f.increment → (x n : ℕ) → f.rank + x * f.period ≤ n → x ≤ value f n
  gains_past rising gains x n le =
      omega (
        arith,
        rising_exactly.0 rising (f.rank + x * f.period) n le,
        value_repeats f positive f.rank x (le_refl f.rank),
        mul-le-mul_left x gains,
      )
