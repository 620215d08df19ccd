-- A walk over a curve's ticks, as the code holds it: the place of the next rise, and the value.
--
--     most                    the largest number of 64 bits; a value that needs more stands as that one
--     turned_to, walk_by      where a tick comes to (place_by: its place), and a walk that begins there, of any numbers
--     walk_start              a walk that begins at tick 0
--     next_walk, walk_on      one tick on, and so many
--     Walkable                what one tick on asks: a rise that is there, and a value that fits
--     walk_at s n             a walk that stands at tick n. Of a form whose curve is well formed it begins so
--                             (walk_begins, walk_starts) and goes on so (walk_goes_on, walk_on_lem), as long as ticks
--                             have 32 bits; of one that is lent it can go on (walk_able), as a loop has it (walk_next)
--     value-held              so is one value
use Prim.Native.Nat.{ℕ, zero, suc, ◌+◌, ◌-◌, ◌/◌, ◌%◌, ◌≤◌, ◌<◌, min}
use Rattle.std.specs.Prelude.{◌≡◌, length}
use Rattle.std.proofs.Common.{sym, ap₂, ◌∙◌, mod-lt}
use Rattle.std.proofs.Math.Path.{ap}
use native.Mathlib.Omega.{arith}
use Rattle.minplus.specs.Curve as C
use Rattle.curve.specs.declared.walks.Walk.{Walk}
use Rattle.curve.specs.declared.values.Turned.{Turned}
use Rattle.curve.specs.Steps.{Steps, Lent, curve_from, place_after, place_at, rise_in, stepped, sum_to, value_by}
use Rattle.curve.specs.Stepped.{place_is, stepped-next, stepped-value, by_value}

abbrev pub most : ℕ
most = 18_446_744_073_709_551_615

abbrev pub place_by : ℕ → ℕ → ℕ → ℕ
place_by T d n = min n T + (n - T) % d

-- where a tick comes to
abbrev pub turned_to : ℕ → ℕ → ℕ → Turned
turned_to T d n = record { place = place_by T d n; turns = (n - T) / d }

abbrev pub walk_by : Steps → ℕ → Walk
walk_by s n = record { place = place_by s.rank s.period n; value = record { 0 = min (value_by s n) most } }

abbrev pub walk_start : ℕ → Walk
walk_start first = record { place = 0; value = record { 0 = first } }

abbrev pub next_walk : Steps → Walk → Walk
next_walk s w = record { place = place_after s.rank s.period w.place; value = record { 0 = min (w.value.0 + rise_in s w.place) most } }

unfoldable pub walk_on : Steps → Walk → ℕ → Walk
walk_on s w zero = w
walk_on s w (suc n) = next_walk s (walk_on s w n)

abbrev pub walk_at : Steps → ℕ → Walk
walk_at s n = record { place = place_at s.rank s.period n; value = record { 0 = C.value (curve_from s) n } }

pub record Walkable (s : Steps) (w : Walk) : Type 0 where
  pub inside : w.place < length s.rises
  pub fits : w.value.0 + rise_in s w.place ≤ most

-- ---- laws

module _ (s : Steps) (w : C.WellFormed (curve_from s)) where
  -- at a tick of 32 bits a value fits 64
  value_fits : (n : ℕ) → n < 4_294_967_296 → C.value (curve_from s) n < most
  value_fits n lt = omega (arith, C.value_at_most (curve_from s) w n)

  pub value-held : (n : ℕ) → n < 4_294_967_296 → min (value_by s n) most ≡ C.value (curve_from s) n
  value-held n lt = omega (arith, value_fits n lt, by_value s w n)

  pub walk_begins : (n : ℕ) → n < 4_294_967_296 → walk_by s n ≡ walk_at s n
  walk_begins n lt =
      ap₂ (λ (p v : ℕ). record { place = p; value = record { 0 = v } }) (sym (place_is s.rank s.period w.period_positive n)) (value-held n lt)

  pub walk_starts : walk_start s.first ≡ walk_at s 0
  unfolding place_at stepped sum_to
  walk_starts = ap (λ (v : ℕ). record { place = 0; value = record { 0 = v } }) (omega (arith, stepped-value s w 0))

  pub walk_goes_on : (n : ℕ) → suc n < 4_294_967_296 → next_walk s (walk_at s n) ≡ walk_at s (suc n)
  unfolding place_at
  walk_goes_on n lt =
      ap (λ (v : ℕ). record { place = place_at s.rank s.period (suc n); value = record { 0 = v } })
      (omega (arith, value_fits (suc n) lt, stepped-value s w n, stepped-value s w (suc n), stepped-next s n))

  -- begun at m, a walk stands n ticks on at n + m
  pub walk_on_lem : (m n : ℕ) → n + m < 4_294_967_296 → walk_on s (walk_by s m) n ≡ walk_at s (n + m)
  unfolding walk_on
  walk_on_lem m zero lt = walk_begins m (omega arith) ∙ ap (walk_at s) (omega arith)
  walk_on_lem m (suc n) lt =
      let next : suc (n + m) ≡ suc n + m = omega arith in
      ap (next_walk s) (walk_on_lem m n (omega arith)) ∙ walk_goes_on (n + m) (omega arith) ∙ ap (walk_at s) next

pub walk_able : {s : Steps} → Lent s → (n : ℕ) → suc n < 4_294_967_296 → Walkable s (walk_at s n)
walk_able {s} lent n lt = record {
  inside = omega (arith, place_is s.rank s.period lent.well.period_positive n, mod-lt (n - s.rank) lent.well.period_positive, lent.room);
  fits = omega (arith, value_fits s lent.well (suc n) lt, stepped-value s lent.well n, stepped-value s lent.well (suc n), stepped-next s n);
}

-- a turn of a loop that walks
pub walk_next : {s : Steps} {w v : Walk} {n : ℕ} → Lent s → v ≡ walk_at s n → w ≡ next_walk s v → suc n < 4_294_967_296 → w ≡ walk_at s (n + 1)
walk_next {s} {n = n} lent here on lt =
    let next : suc n ≡ n + 1 = omega arith in
    on ∙ ap (next_walk s) here ∙ walk_goes_on s lent.well n lt ∙ ap (walk_at s) next
