-- A curve, when it is well formed, and its value at any tick.
--
-- Document 01, 'Curves': "A curve has a rank T, period d, increment c and listed values f(0) to f(T+d-1). For n >= T,
-- f(n+d) = f(n)+c. Limits: d >= 1, T+d <= 256, c and each listed value <= 1,000,000. Curves never fall: no listed value
-- is below the one before it." Document 02, A2: "Refusal 9 must also be given when f(T)+c is below f(T+d-1)."
--
--     Curve                     rank T, period d, increment c, listed values
--     max_listed, max_units     the limits
--     count f, listed_at f n    T + d, and the n-th listed value
--     Rising f                  the two rules by which a curve never falls: in its list, and over the seam where one
--                               period meets the next; Rising.antt: they hold exactly when its value never falls
--     WellFormed f              every limit of that paragraph, and Rising; well_formed f is the same as a test that
--                               computes (well-formed), seam_holds f its last one
--     value f n                 f(n), at any tick n
--     value-listed              below T + d it is the listed value
--     value_gains               from T on it gains c over d; value_repeats: and k*c over k*d (proofs/Curve.antt)
--     value_only                nothing else has both: the first two sentences above leave one function
--                               (proofs/Curve.antt)
--     period_fits, rank_fits, value_at_most     how large they can be
--     value_after, value_no_period     the rule with its cases told apart, for code that tells them apart
use Rattle.std.specs.Prelude.{ℕ, suc, ◌+◌, ◌-◌, ◌*◌, ◌/◌, ◌%◌, ◌≤◌, ◌<◌, min, ◌≡◌, Bool, true, ◌&&◌, List, ◌↔◌, length, get_or, leb, eqb}
use Rattle.std.proofs.Common.{ap, ◌∙◌, arith, mod-eq_of_lt, mod-lt, div-le_self, mul-le-mul, leb-true, eqb-true, le-leb, eq-eqb}
use Rattle.std.proofs.Math.Nat.{div-eq_of_lt, add-mod_right, add-div_right, mod-zero, div-zero, min-eq_right}
use Rattle.minplus.specs.Gains.{Gains}
use Rattle.minplus.specs.Search.{all_below, all_below_lem, both_true}

pub record Curve : Type 0 where
  pub rank : ℕ
  pub period : ℕ
  pub increment : ℕ
  pub listed : List ℕ

-- the limits: how many values a curve lists, and how many units a value or an increment is
abbrev pub max_listed : ℕ
max_listed = 256

abbrev pub max_units : ℕ
max_units = 1_000_000

-- T + d: how many values f lists
abbrev pub count : Curve → ℕ
count f = f.rank + f.period

abbrev pub listed_at : Curve → ℕ → ℕ
listed_at f n = get_or f.listed n 0

-- "no listed value is below the one before it", and f(T)+c, the first value of the next period, is not below f(T+d-1)
pub record Rising (f : Curve) : Type 0 where
  pub listed-rise : (n : ℕ) → n < count f - 1 → listed_at f n ≤ listed_at f (suc n)
  pub seam_holds_lem : listed_at f (count f - 1) ≤ listed_at f f.rank + f.increment

pub record WellFormed (f : Curve) : Type 0 where
  pub period_positive : 1 ≤ f.period
  pub count_fits : count f ≤ max_listed
  pub listed_whole : length f.listed ≡ count f
  pub increment_fits : f.increment ≤ max_units
  pub values_fit_lem : (n : ℕ) → n < count f → listed_at f n ≤ max_units
  pub rises : Rising f

-- f(n): the tick's place in the list, and the increments of the whole periods since the rank. Below the rank the
-- truncated difference is 0, and so are its quotient and its remainder
unfoldable pub value : Curve → ℕ → ℕ
value f n = listed_at f (min n f.rank + (n - f.rank) % f.period) + (n - f.rank) / f.period * f.increment

-- f(T)+c is not below f(T+d-1)
abbrev pub seam_holds : Curve → Bool
seam_holds f = leb (listed_at f (count f - 1)) (listed_at f f.rank + f.increment)

-- WellFormed as a test
unfoldable pub well_formed : Curve → Bool
unfolding all_below
well_formed f =
    leb 1 f.period
    && leb (count f) max_listed
    && eqb (length f.listed) (count f)
    && leb f.increment max_units
    && all_below (λ n. leb (listed_at f n) max_units) (count f)
    && all_below (λ n. leb (listed_at f n) (listed_at f (suc n))) (count f - 1)
    && seam_holds f

-- ---- laws

pub value-listed : (f : Curve) → 1 ≤ f.period → (n : ℕ) → n < count f → value f n ≡ listed_at f n
unfolding value
value-listed f positive n lt =
    let inside : n - f.rank < f.period = omega arith in
    let at : min n f.rank + (n - f.rank) % f.period ≡ n = omega (arith, mod-eq_of_lt inside) in
    let none_yet : (n - f.rank) / f.period * f.increment ≡ 0 = ap (λ (q : ℕ). q * f.increment) (div-eq_of_lt inside) ∙ omega arith in
    ap (λ (x : ℕ). x + (n - f.rank) / f.period * f.increment) (ap (listed_at f) at) ∙ omega (arith, none_yet)

pub value_gains : (f : Curve) → 1 ≤ f.period → Gains (value f) f.rank f.period f.increment
unfolding value
value_gains f positive = record {
  gain = λ n le.
      let since : n + f.period - f.rank ≡ n - f.rank + f.period = omega arith in
      let at : min (n + f.period) f.rank + (n + f.period - f.rank) % f.period ≡ min n f.rank + (n - f.rank) % f.period =
      ap (λ (x : ℕ). min (n + f.period) f.rank + x % f.period) since ∙ omega (arith, add-mod_right (n - f.rank) f.period) in
      let more : (n + f.period - f.rank) / f.period ≡ (n - f.rank) / f.period + 1 =
      ap (λ (x : ℕ). x / f.period) since ∙ add-div_right (n - f.rank) positive in
      ap (λ (x : ℕ). listed_at f x + (n + f.period - f.rank) / f.period * f.increment) at
      ∙ ap (λ (q : ℕ). listed_at f (min n f.rank + (n - f.rank) % f.period) + q * f.increment) more
      ∙ omega arith;
}

pub value_after : (f : Curve) (n : ℕ) → f.rank ≤ n
    → value f n ≡ listed_at f (f.rank + (n - f.rank) % f.period) + (n - f.rank) / f.period * f.increment
unfolding value
value_after f n le = rw (min-eq_right le)

-- no curve has a period of 0, and the rule still says something
pub value_no_period : (f : Curve) (n : ℕ) → f.period ≡ 0 → value f n ≡ listed_at f n
unfolding value
value_no_period f n e =
    rw (e, mod-zero (n - f.rank), div-zero (n - f.rank))
    (let at : min n f.rank + (n - f.rank) ≡ n = omega arith in rw at (omega arith))

pub period_fits : {f : Curve} → WellFormed f → f.period ≤ max_listed
period_fits {f} w = omega (arith, w.count_fits)

pub rank_fits : {f : Curve} → WellFormed f → f.rank < max_listed
rank_fits {f} w = omega (arith, w.count_fits, w.period_positive)

-- up to tick 4,096 a value fits 32 bits, and so does a sum over a split; up to tick 2,000,000,000 a value fits 64
pub value_at_most : (f : Curve) → WellFormed f → (n : ℕ) → value f n ≤ max_units * suc n
unfolding value
value_at_most f w n =
    let at : ℕ = min n f.rank + (n - f.rank) % f.period in
    let positive : 0 < f.period = w.period_positive in
    let inside : at < count f = omega (arith, mod-lt (n - f.rank) positive) in
    let turns : (n - f.rank) / f.period ≤ n = omega (arith, div-le_self (n - f.rank) f.period) in
    omega (arith, w.values_fit_lem at inside, mul-le-mul turns w.increment_fits)

pub well_formed_lem : (f : Curve) → (well_formed f ≡ true) ↔ WellFormed f
unfolding well_formed
well_formed_lem f =
    let fits : ℕ → Bool = λ n. leb (listed_at f n) max_units in
    let rises : ℕ → Bool = λ n. leb (listed_at f n) (listed_at f (suc n)) in
    let t₁ = both_true (leb 1 f.period) (leb (count f) max_listed) in
    let t₂ = both_true _ (eqb (length f.listed) (count f)) in
    let t₃ = both_true _ (leb f.increment max_units) in
    let t₄ = both_true _ (all_below fits (count f)) in
    let t₅ = both_true _ (all_below rises (count f - 1)) in
    let t₆ = both_true _ (seam_holds f) in (
      λ e₆.
          let e₅ = (t₆.0 e₆).0 in
          let e₄ = (t₅.0 e₅).0 in
          let e₃ = (t₄.0 e₄).0 in
          let e₂ = (t₃.0 e₃).0 in
          let e₁ = (t₂.0 e₂).0 in
          record {
            period_positive = leb-true _ _ (t₁.0 e₁).0;
            count_fits = leb-true _ _ (t₁.0 e₁).1;
            listed_whole = eqb-true _ _ (t₂.0 e₂).1;
            increment_fits = leb-true _ _ (t₃.0 e₃).1;
            values_fit_lem = λ n lt. leb-true _ _ ((all_below_lem fits _).0 (t₄.0 e₄).1 n lt);
            rises = record {
              listed-rise = λ n lt. leb-true _ _ ((all_below_lem rises _).0 (t₅.0 e₅).1 n lt);
              seam_holds_lem = leb-true _ _ (t₆.0 e₆).1;
            };
          },
      λ w.
          let e₁ = t₁.1 (le-leb _ _ w.period_positive, le-leb _ _ w.count_fits) in
          let e₂ = t₂.1 (e₁, eq-eqb _ _ w.listed_whole) in
          let e₃ = t₃.1 (e₂, le-leb _ _ w.increment_fits) in
          let e₄ = t₄.1 (e₃, (all_below_lem fits _).1 (λ n lt. le-leb _ _ (w.values_fit_lem n lt))) in
          let e₅ = t₅.1 (e₄, (all_below_lem rises _).1 (λ n lt. le-leb _ _ (w.rises.listed-rise n lt))) in
          t₆.1 (e₅, le-leb _ _ w.rises.seam_holds_lem),
    )
