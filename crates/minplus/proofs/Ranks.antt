-- The rank theorems: from its rank R on, a sum, a minimum and a convolution of two curves gain the same amount over
-- each D. Source document 000 has them as its lemmas 3, 4 and 5; here they are proved on ticks, for document 01's R.
--
--     crossed           at and after N the slower curve of a minimum is below
--     split_crossed     at and after N a split that leaves f less than T ticks is no better than the one that leaves g
--                       T' ticks
--     conv_gains        a convolution gains the smaller gain, where such splits are not needed
--     left_gains, right_gains     what a curve gains over D (gain_over; common_positive, common_comm); gain_le,
--                       gain_lt: the slower one gains less
--     by_rates_lem      what holds in each of the three ways that two rates can stand
--     rank_gains        the theorem for every operation: the gain over D is gain_of
use Prim.Native.Nat.{ℕ, ◌+◌, ◌-◌, ◌*◌, ◌/◌, ◌%◌, ◌≤◌, ◌<◌, max}
use Rattle.std.specs.Prelude.{◌≡◌, refl, Bool, true, false}
use Rattle.std.proofs.Common.{sym, ◌∙◌, le_antisymm, mod-lt, mul-pos, mul-le-mul_left, mul_comm, ltb-true, ltb-false}
use Rattle.std.proofs.Math.Path.{ap, subst}
use native.Mathlib.Omega.{arith}
use Rattle.std.proofs.Math.Nat.{mod-add-div', div-mul_cancel, le_of_mul-le-mul_left, min-eq_left, lt_of_mul-lt-mul_left, mul-lt-mul_of_pos_left, eq_of_mul-eq-mul_left}
use Rattle.std.proofs.Math.Decide.{dec_le}
use Rattle.minplus.specs.Gains.{Gains, gains_multiple, gains_later, gains_same, gained_back, gains_sum}
use Rattle.minplus.specs.Curve.{Curve, value, value_gains}
use Rattle.minplus.proofs.Curve.{value_repeats}
use Rattle.minplus.specs.Divisor.{lcm, lcm-left, lcm_right, lcm_comm, lcm_positive}
use Rattle.minplus.specs.Conv.{conv, conv_attained}
use Rattle.minplus.proofs.Conv.{conv_below, conv_above, conv_comm}
use Rattle.minplus.specs.Claim.{Operation, sum, minimum, convolution, due}
use Rattle.minplus.specs.Horizon.{Slower, common_period, slower, by_rates, minimum_n, convolution_n, slow_minimum, slow_convolution, rank_of}
use Rattle.minplus.specs.Crossing.{In, minimum_n_law, convolution_n_law}
use Rattle.minplus.specs.Ranks.{gain_over, combined, gain_of}

-- a tick from the rank on, brought back into the first period: t + k*d, where f is f(t) + k*c
record FirstPeriod (f : Curve) (m : ℕ) : Type 0 where
  tick : In f.rank f.period
  periods : ℕ
  same : tick.0 + periods * f.period ≡ m
  gained : value f m ≡ value f tick.0 + periods * f.increment

first_period : (f : Curve) → 1 ≤ f.period → (m : ℕ) → f.rank ≤ m → FirstPeriod f m
first_period f positive m le =
    let t : ℕ = f.rank + (m - f.rank) % f.period in
    let k : ℕ = (m - f.rank) / f.period in
    let e : t + k * f.period ≡ m = omega (arith, mod-add-div' (m - f.rank) f.period) in
    record {
      tick = (t, omega arith, omega (arith, mod-lt (m - f.rank) positive));
      periods = k;
      same = e;
      gained = ap (value f) (sym e) ∙ value_repeats f positive t k (omega arith);
    }

-- the arithmetic of both crossings: x and y are values in the first periods, X and Y those k and k' periods later, P
-- and Q what a split adds at the ticks s and u
uncross_scaled : (d d' c c' t t' k k' s u x y P Q : ℕ)
    → d' * (d * x + d * P) + d * (c' * t' + c' * u) + c * d' * (t + k * d + s) ≤ d * (d' * y + d' * Q) + d' * (c * t + c * s) + c' * d * (t' + k' * d' + u)
    → d * d' * (x + k * c + P) ≤ d * d' * (y + k' * c' + Q)
uncross_scaled d d' c c' t t' k k' s u x y P Q le = omega arith

uncross : (d d' c c' n t t' k k' s u x y X Y P Q : ℕ) → 0 < d → 0 < d' → t + k * d + s ≡ n → t' + k' * d' + u ≡ n
    → X ≡ x + k * c → Y ≡ y + k' * c'
    → d' * (d * x + d * P) + d * (c' * t' + c' * u) + c * d' * n ≤ d * (d' * y + d' * Q) + d' * (c * t + c * s) + c' * d * n
    → X + P ≤ Y + Q
uncross d d' c c' n t t' k k' s u x y X Y P Q h h' e e' e_x e_y le =
    rw (e_x, e_y) (le_of_mul-le-mul_left {k = d * d'} (uncross_scaled d d' c c' t t' k k' s u x y P Q (rw e (rw e' le))) (mul-pos h h'))

module _ (f g : Curve) (positive : 1 ≤ f.period) (positive' : 1 ≤ g.period) (slow : Slower f g) where
  pub crossed : (n : ℕ) → minimum_n f g ≤ n → f.rank ≤ n → g.rank ≤ n → value f n ≤ value g n
  crossed n le r r' =
      let a = first_period f positive n r in
      let b = first_period g positive' n r' in
      omega (
        arith,
        uncross f.period g.period f.increment g.increment n a.tick.0 b.tick.0 a.periods b.periods 0 0
            (value f a.tick.0) (value g b.tick.0) (value f n) (value g n) 0 0 positive positive'
            (omega (arith, a.same)) (omega (arith, b.same)) a.gained b.gained
            (omega (arith, (minimum_n_law f g positive positive' slow n).0 le a.tick b.tick)),
      )

  split_crossed : (n m p u : ℕ) → convolution_n f g ≤ n → m + g.rank ≡ n → u + p ≡ n → f.rank ≤ m → u < f.rank
      → value f m + value g g.rank ≤ value g p + value f u
  split_crossed n m p u le e e' r early =
      let a = first_period f positive m r in
      let b = first_period g positive' p (omega arith) in
      uncross f.period g.period f.increment g.increment n a.tick.0 b.tick.0 a.periods b.periods g.rank u
      (value f a.tick.0) (value g b.tick.0) (value f m) (value g p) (value g g.rank) (value f u) positive positive'
      (omega (arith, a.same)) (omega (arith, b.same)) a.gained b.gained
      ((convolution_n_law f g positive positive' slow n).0 le a.tick b.tick (u, omega arith, omega arith))

-- ---- the rank theorems on functions that gain

-- a convolution, where `early` serves the splits that leave F less than T ticks
conv_gains : {F G : ℕ → ℕ} {T T' D a b : ℕ} (R : ℕ) → Gains F T D a → Gains G T' D b → a ≤ b → T + T' + D ≤ R
    → ((n u v : ℕ) → R ≤ n → u + v ≡ n → u < T → conv F G (n + D) ≤ F u + G v + a) → Gains (conv F G) R D a
conv_gains {F} {G} {T} {T'} {D} {a} {b} R GF GG slow far early = record { gain = λ n le. le_antisymm (over n le) (under n le) }
  where
    over : (n : ℕ) → R ≤ n → conv F G (n + D) ≤ conv F G n + a
    over n le =
        let t = conv_attained F G n in
        let u = t.0 in
        let v = t.1 in
        elim (dec_le T u) [
          | yes late ↦ omega (arith, conv_below F G (n + D) (u + D) v (omega (arith, t.2)), GF.gain u late, t.3)
          | no soon ↦ omega (arith, early n u v le t.2 (omega (arith, soon)), t.3)
        ]

    under : (n : ℕ) → R ≤ n → conv F G n + a ≤ conv F G (n + D)
    under n le = conv_above F G (n + D) (conv F G n + a) (λ u v e. elim (dec_le (T + D) u) [
      | yes late ↦ omega (arith, gained_back GF u late, conv_below F G n (u - D) v (omega (arith, late)))
      | no soon ↦
          let late : T' + D ≤ v = omega (arith, soon) in
          omega (arith, gained_back GG v late, conv_below F G n u (v - D) (omega arith))
    ])

due_comm : (op : Operation) (F G : ℕ → ℕ) (n : ℕ) → due op F G n ≡ due op G F n
unfolding due
due_comm sum F G n = omega arith
due_comm minimum F G n = omega arith
due_comm convolution F G n = conv_comm F G n

-- ---- the rank theorems on curves

-- the gains over D stand to each other as the cross products of the rates do
scaled_gain : (d d' c q D : ℕ) → q * d ≡ D → d * d' * (q * c) ≡ D * (c * d')
scaled_gain d d' c q D e = omega (arith, ap (λ (x : ℕ). d' * c * x) e)

module _ (f g : Curve) (positive : 1 ≤ f.period) (positive' : 1 ≤ g.period) where
  pub common_positive : 0 < common_period f g
  unfolding common_period
  common_positive = lcm_positive f.period g.period positive positive'

  pub left_gains : Gains (value f) f.rank (common_period f g) (gain_over f (common_period f g))
  unfolding common_period
  left_gains = gains_multiple (value_gains f positive) (lcm f.period g.period) (lcm-left f.period g.period)

  pub right_gains : Gains (value g) g.rank (common_period f g) (gain_over g (common_period f g))
  unfolding common_period
  right_gains = gains_multiple (value_gains g positive') (lcm f.period g.period) (lcm_right f.period g.period)

  scaled_left : f.period * g.period * gain_over f (common_period f g) ≡ common_period f g * (f.increment * g.period)
  unfolding common_period
  scaled_left = scaled_gain f.period g.period f.increment _ _ (div-mul_cancel f.period (lcm-left f.period g.period))

  scaled_right : f.period * g.period * gain_over g (common_period f g) ≡ common_period f g * (g.increment * f.period)
  unfolding common_period
  scaled_right =
      ap (λ (x : ℕ). x * gain_over g (common_period f g)) (mul_comm f.period g.period)
      ∙ scaled_gain g.period f.period g.increment _ _ (div-mul_cancel g.period (lcm_right f.period g.period))

  pub gain_le : f.increment * g.period ≤ g.increment * f.period → gain_over f (common_period f g) ≤ gain_over g (common_period f g)
  gain_le le =
      le_of_mul-le-mul_left {k = f.period * g.period} (rw (scaled_left, scaled_right) (mul-le-mul_left (common_period f g) le)) (mul-pos positive positive')

  pub gain_lt : g.increment * f.period < f.increment * g.period → gain_over g (common_period f g) < gain_over f (common_period f g)
  gain_lt lt =
      lt_of_mul-lt-mul_left (f.period * g.period) (rw (scaled_left, scaled_right) (mul-lt-mul_of_pos_left lt common_positive))

  equal_gains : f.increment * g.period ≡ g.increment * f.period → gain_over f (common_period f g) ≡ gain_over g (common_period f g)
  equal_gains e =
      eq_of_mul-eq-mul_left (f.period * g.period) (mul-pos positive positive') _ _
      (scaled_left ∙ ap (λ (x : ℕ). common_period f g * x) e ∙ sym scaled_right)

  sum_gains : Gains (due sum (value f) (value g)) (max f.rank g.rank) (common_period f g) (gain_of sum f g)
  unfolding due gain_of
  sum_gains = gains_sum (gains_later (max f.rank g.rank) (omega arith) left_gains) (gains_later (max f.rank g.rank) (omega arith) right_gains)

  minimum_equal : f.increment * g.period ≡ g.increment * f.period
      → Gains (due minimum (value f) (value g)) (max f.rank g.rank) (common_period f g) (gain_of minimum f g)
  unfolding due gain_of
  minimum_equal e = record {
    gain = λ n le. omega (arith, left_gains.gain n (omega arith), right_gains.gain n (omega arith), equal_gains e);
  }

  minimum_slower : Slower f g
      → Gains (due minimum (value f) (value g)) (slow_minimum f g) (common_period f g) (gain_of minimum f g)
  unfolding due gain_of
  minimum_slower slow = record {
    gain = λ n le.
        let below : (m : ℕ) → n ≤ m → value f m ≤ value g m =
        λ m later. crossed f g positive positive' slow m (omega arith) (omega arith) (omega arith) in
        omega (arith, left_gains.gain n (omega arith), below n (omega arith), below (n + common_period f g) (omega arith), gain_le (omega arith));
  }

  convolution_equal : f.increment * g.period ≡ g.increment * f.period
      → Gains (due convolution (value f) (value g)) (f.rank + g.rank + common_period f g) (common_period f g) (gain_of convolution f g)
  unfolding due gain_of
  convolution_equal e =
      let same = equal_gains e in
      subst (λ (a : ℕ). Gains (conv (value f) (value g)) (f.rank + g.rank + common_period f g) (common_period f g) a) (sym (min-eq_left (omega arith)))
      (conv_gains (f.rank + g.rank + common_period f g) left_gains right_gains (omega arith) (omega arith) (λ n u v le split soon.
      omega (
        arith,
        conv_below (value f) (value g) (n + common_period f g) u (v + common_period f g) (omega arith),
        right_gains.gain v (omega arith),
        same,
      )))

  convolution_slower : Slower f g
      → Gains (due convolution (value f) (value g)) (slow_convolution f g) (common_period f g) (gain_of convolution f g)
  unfolding due gain_of
  convolution_slower slow =
      let less = gain_le (omega arith) in
      subst (λ (a : ℕ). Gains (conv (value f) (value g)) (slow_convolution f g) (common_period f g) a) (sym (min-eq_left less))
      (conv_gains (slow_convolution f g) left_gains right_gains less (omega arith) (λ n u v le split soon.
      let m : ℕ = n - g.rank in
      omega (
        arith,
        conv_below (value f) (value g) (n + common_period f g) (m + common_period f g) g.rank (omega arith),
        left_gains.gain m (omega arith),
        split_crossed f g positive positive' slow n m v u (omega arith) (omega arith) split (omega arith) soon,
      )))

-- a rank by rates: what holds in each of the three cases
pub by_rates_lem : (Q : ℕ → Type 0) (f g : Curve) (equal : ℕ) (f_slower : Curve → Curve → ℕ)
    → (f.increment * g.period ≡ g.increment * f.period → Q equal) → (Slower f g → Q (f_slower f g)) → (Slower g f → Q (f_slower g f))
    → Q (by_rates f g equal f_slower)
unfolding by_rates
by_rates_lem Q f g equal f_slower same left right = go (slower f g) refl (slower g f) refl
  where
    go : (b : Bool) → slower f g ≡ b → (b' : Bool) → slower g f ≡ b'
        → Q (elim b as (λ _. ℕ) [ true ↦ f_slower f g | false ↦ elim b' as (λ _. ℕ) [ true ↦ f_slower g f | false ↦ equal ] ])
    go true e b' e' = left (ltb-true _ _ e)
    go false e true e' = right (ltb-true _ _ e')
    go false e false e' = same (le_antisymm (ltb-false _ _ e') (ltb-false _ _ e))

pub common_comm : (f g : Curve) → common_period f g ≡ common_period g f
unfolding common_period
common_comm f g = lcm_comm f.period g.period

combined_comm : (op : Operation) (a b : ℕ) → combined op a b ≡ combined op b a
unfolding combined
combined_comm sum a b = omega arith
combined_comm minimum a b = omega arith
combined_comm convolution a b = omega arith

gain_comm : (op : Operation) (f g : Curve) → gain_of op f g ≡ gain_of op g f
unfolding gain_of
gain_comm op f g =
    combined_comm op (gain_over f (common_period f g)) (gain_over g (common_period f g))
    ∙ ap (λ (D : ℕ). combined op (gain_over g D) (gain_over f D)) (common_comm f g)

-- "if g is slower, swap the two"
swapped : (op : Operation) (f g : Curve) {K : ℕ} → Gains (due op (value g) (value f)) K (common_period g f) (gain_of op g f)
    → Gains (due op (value f) (value g)) K (common_period f g) (gain_of op f g)
swapped op f g G = gains_same (due_comm op (value g) (value f)) (rw (gain_comm op f g, common_comm f g) G)

pub rank_gains : (op : Operation) (f g : Curve) → 1 ≤ f.period → 1 ≤ g.period
    → Gains (due op (value f) (value g)) (rank_of op f g) (common_period f g) (gain_of op f g)
unfolding rank_of
rank_gains sum f g positive positive' = sum_gains f g positive positive'
rank_gains minimum f g positive positive' =
    by_rates_lem (λ R. Gains (due minimum (value f) (value g)) R (common_period f g) (gain_of minimum f g)) f g _ slow_minimum
    (minimum_equal f g positive positive') (minimum_slower f g positive positive') (λ slow. swapped minimum f g (minimum_slower g f positive' positive slow))
rank_gains convolution f g positive positive' =
    by_rates_lem (λ R. Gains (due convolution (value f) (value g)) R (common_period f g) (gain_of convolution f g)) f g _ slow_convolution
    (convolution_equal f g positive positive') (convolution_slower f g positive positive')
    (λ slow. swapped convolution f g (convolution_slower g f positive' positive slow))
