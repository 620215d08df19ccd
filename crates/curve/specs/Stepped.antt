-- The value at every tick from a curve's form. Document 02, A10: "Show that the value at every tick is the same as from
-- the old layout", which is `value` of the crate minplus.
--
--     stepped-value             the first value and the rises before a tick are the curve's value there
--     stepped_old               so are those of a curve's own form
--     by_value, by-listed       one value, with whole periods by one multiplication; below T+d, the listed one
--     after_in, after_last_lem, stepped-next     one tick on
--     place_is                  the place as document 01's value rule has it; place_early, turns_none: below T+d;
--                               place_most: of any numbers
use Prim.Native.Nat.{ℕ, zero, suc, ◌+◌, ◌-◌, ◌*◌, ◌/◌, ◌%◌, ◌≤◌, ◌<◌, min}
use Rattle.std.specs.Prelude.{◌≡◌, refl}
use Rattle.std.proofs.Common.{sym, ap₂, ◌∙◌, subst, arith, mod-eq_of_lt, le_refl, lt-ltb, le-ltb}
use Rattle.std.proofs.Math.Path.{ap}
use Rattle.std.proofs.Math.Nat.{zero-mod, zero-div, mod-lt, mod_self, suc-mod, add-mod_right, div-eq_of_lt}
use Rattle.std.proofs.Math.Decide.{dec_le}
use Rattle.minplus.specs.Gains.{Gains}
use Rattle.minplus.specs.Curve as C
use Rattle.minplus.specs.Curve.{value, WellFormed}
use Rattle.minplus.proofs.Curve.{value_only}
use Rattle.curve.specs.Steps.{Steps, step_count, rise_in, reached, risen_to, curve_from, place_after, place_at, stepped, value_by, sum_same, close_sum, well_closes, listed-reached}
use Rattle.curve.specs.Rises.{steps_of, steps_back, steps_good}

-- up to the last rise they come in their order
place_first : (T d n : ℕ) → n < T + d → place_at T d n ≡ n
unfolding place_at place_after
place_first T d zero lt = refl
place_first T d (suc n) lt =
    ap (place_after T d) (place_first T d n (omega arith)) ∙ rw (lt-ltb (suc n) (T + d) lt, place_after)

pub after_in : (T d at : ℕ) → suc at < T + d → place_after T d at ≡ suc at
unfolding place_after
after_in T d at lt = rw (lt-ltb (suc at) (T + d) lt, place_after)

pub after_last_lem : (T d at : ℕ) → T + d ≤ suc at → place_after T d at ≡ T
unfolding place_after
after_last_lem T d at past = rw (le-ltb (suc at) (T + d) past, place_after)

sub_none : (a b : ℕ) → a ≤ b → a - b ≡ 0
sub_none a b le = omega arith

-- the place as document 01's value rule has it
pub place_is : (T d : ℕ) → 1 ≤ d → (n : ℕ) → place_at T d n ≡ min n T + (n - T) % d
unfolding place_at
place_is T d positive zero = omega (arith, ap (λ (x : ℕ). x % d) (sub_none 0 T (omega arith)) ∙ zero-mod d)
place_is T d positive (suc n) = elim (dec_le T n) [
  | yes le ↦
      let m : ℕ = (n - T) % d in
      let inside : m < d = mod-lt (n - T) positive in
      let here : place_at T d n ≡ T + m = place_is T d positive n ∙ omega arith in
      let since : suc n - T ≡ suc (n - T) = omega arith in
      let turned : (suc n - T) % d ≡ suc m % d = ap (λ (x : ℕ). x % d) since ∙ suc-mod (n - T) d in
      ap (place_after T d) here
      ∙ elim (dec_le (suc (suc m)) d) [
        | yes more ↦ after_in T d (T + m) (omega (arith, more)) ∙ omega (arith, turned, mod-eq_of_lt more)
        | no last ↦
            let e : suc m ≡ d = omega (arith, inside, last) in
            after_last_lem T d (T + m) (omega (arith, e)) ∙ omega (arith, turned, ap (λ (x : ℕ). x % d) e, mod_self d)
      ]
  | no before ↦
      let none : (n - T) % d ≡ 0 = ap (λ (x : ℕ). x % d) (sub_none n T (omega (arith, before))) ∙ zero-mod d in
      let still : (suc n - T) % d ≡ 0 = ap (λ (x : ℕ). x % d) (sub_none (suc n) T (omega (arith, before))) ∙ zero-mod d in
      let here : place_at T d n ≡ n = place_is T d positive n ∙ omega (arith, none, before) in
      ap (place_after T d) here ∙ after_in T d n (omega (arith, before, positive)) ∙ omega (arith, still, before)
]

-- the same rule with its cases told apart: in the first T+d ticks the place is the tick
pub place_early : (T d n : ℕ) → n < T + d → min n T + (n - T) % d ≡ n
place_early T d n lt = elim (dec_le 1 d) [
  | yes positive ↦ let inside : n - T < d = omega (arith, lt, positive) in omega (arith, mod-eq_of_lt inside)
  | no none ↦
      let before : n ≤ T = omega (arith, lt, none) in
      omega (arith, before, ap (λ (x : ℕ). x % d) (sub_none n T before) ∙ zero-mod d)
]

-- and no period is over
pub turns_none : (T d n : ℕ) → n < T + d → (n - T) / d ≡ 0
turns_none T d n lt = elim (dec_le 1 d) [
  | yes positive ↦ div-eq_of_lt (omega (arith, lt, positive))
  | no none ↦ let e : n - T ≡ 0 = omega (arith, lt, none) in rw e (zero-div d)
]

-- also where no curve has such a period
pub place_most : (T d n : ℕ) → place_at T d n ≤ T + d
unfolding place_at
place_most T d zero = omega arith
place_most T d (suc n) = elim (dec_le (T + d) (suc (place_at T d n))) [
  | yes last ↦ omega (arith, after_last_lem T d (place_at T d n) last)
  | no inside ↦ omega (arith, inside, after_in T d (place_at T d n) (omega (arith, inside)))
]

-- from T on the places repeat
place_again : (T d : ℕ) → 1 ≤ d → (n : ℕ) → T ≤ n → place_at T d (n + d) ≡ place_at T d n
place_again T d positive n le =
    let since : n + d - T ≡ n - T + d = omega arith in
    let same : (n + d - T) % d ≡ (n - T) % d = ap (λ (x : ℕ). x % d) since ∙ add-mod_right (n - T) d in
    omega (arith, place_is T d positive (n + d), place_is T d positive n, same)

pub stepped-next : (s : Steps) (n : ℕ) → stepped s (suc n) ≡ stepped s n + rise_in s (place_at s.rank s.period n)
unfolding stepped
stepped-next s n = omega arith

-- up to the end of the first period, the listed values and f(T)+c
stepped-reached : (s : Steps) (n : ℕ) → n ≤ step_count s → stepped s n ≡ reached s n
unfolding stepped risen_to
stepped-reached s n le =
    ap (λ (x : ℕ). s.first + x)
    (sum_same (λ i. rise_in s (place_at s.rank s.period i)) (rise_in s) n (λ i lt. ap (rise_in s) (place_first s.rank s.period i (omega arith))))

-- below T+d one value is the listed one
pub by-listed : (s : Steps) (n : ℕ) → n < step_count s → value_by s n ≡ reached s n
unfolding value_by
by-listed s n lt =
    ap₂ (λ (at turns : ℕ). reached s at + turns * s.increment) (place_early s.rank s.period n lt) (turns_none s.rank s.period n lt) ∙ omega arith

module _ (s : Steps) (w : WellFormed (curve_from s)) where
  stepped_gains : Gains (stepped s) s.rank s.period s.increment
  stepped_gains = record { gain = λ n le. let e : n ≡ s.rank + (n - s.rank) = omega arith in subst (λ (m : ℕ). stepped s (m + s.period) ≡ stepped s m + s.increment) (sym e) (from (n - s.rank)) }
    where
      from : (k : ℕ) → stepped s (s.rank + k + s.period) ≡ stepped s (s.rank + k) + s.increment
      from zero =
          let e : s.rank + zero + s.period ≡ step_count s = omega arith in
          let e' : s.rank + zero ≡ s.rank = omega arith in
          ap (stepped s) e ∙ stepped-reached s (step_count s) (le_refl (step_count s)) ∙ close_sum s (well_closes s w)
          ∙ ap (λ (x : ℕ). x + s.increment) (sym (ap (stepped s) e' ∙ stepped-reached s s.rank (omega arith)))
      from (suc k) =
          let e : s.rank + suc k + s.period ≡ suc (s.rank + k + s.period) = omega arith in
          let e' : s.rank + suc k ≡ suc (s.rank + k) = omega arith in
          let same : rise_in s (place_at s.rank s.period (s.rank + k + s.period)) ≡ rise_in s (place_at s.rank s.period (s.rank + k)) =
          ap (rise_in s) (place_again s.rank s.period w.period_positive (s.rank + k) (omega arith)) in
          ap (stepped s) e ∙ stepped-next s (s.rank + k + s.period)
          ∙ omega (arith, from k, same, stepped-next s (s.rank + k)) ∙ ap (λ (x : ℕ). stepped s x + s.increment) (sym e')

  pub stepped-value : (n : ℕ) → stepped s n ≡ value (curve_from s) n
  stepped-value =
      value_only (curve_from s) w.period_positive (stepped s)
      (λ n lt. stepped-reached s n (omega arith) ∙ sym (listed-reached s (well_closes s w) n lt)) stepped_gains

  pub by_value : (n : ℕ) → value_by s n ≡ value (curve_from s) n
  unfolding value_by value
  by_value n =
      let at : ℕ = min n s.rank + (n - s.rank) % s.period in
      let inside : at < step_count s = omega (arith, mod-lt (n - s.rank) w.period_positive) in
      ap (λ (x : ℕ). x + (n - s.rank) / s.period * s.increment) (sym (listed-reached s (well_closes s w) at inside))

-- the value at every tick is the same as from the old layout
pub stepped_old : (f : C.Curve) → WellFormed f → (n : ℕ) → stepped (steps_of f) n ≡ value f n
stepped_old f w n =
    stepped-value (steps_of f) (steps_good f w).well n ∙ ap (λ (g : C.Curve). value g n) (steps_back f w)
