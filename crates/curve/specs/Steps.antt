-- A curve as its first value and its rises from tick to tick.
--
-- Document 02, A10: "Hold a curve as its first value and the rises from tick to tick, in place of the values." The rise
-- after the last listed value is that over the seam, f(T)+c - f(T+d-1): so there are T+d of them, and from T on they
-- repeat. Rises.antt has the form of a curve, and that there is one; Stepped.antt that its values are the curve's.
--
--     Steps                     T, d, c, the first value and the rises
--     step_count, rise_in       T+d, and one of the rises; largest is the largest number of 32 bits
--     sum_to r k                r(0) + .. + r(k-1)
--     reached s k               the first value and the first k rises (risen_to): for k < T+d, the listed value
--     closes s                  the rises of one period add up to c
--     curve_from s              the curve of a form (listed_from: its list). Rises that do not close are no curve's:
--                               nothing is listed then, so that the curve is not well formed (well_closes)
--     place_at, place_after     which rise comes after a tick: one after the other, from the last one back to the T-th
--     stepped s n               the first value and the sum of the n rises before n, which repeat from T on
--     value_by s n              the same with whole periods by one multiplication
--     Good s                    T+d rises, and a curve that is well formed
--     Lent s                    at least so many: what is lent to be judged on
--     Sized s                   what that asks of the numbers alone: sized_well, well_sized
--     sum_same, sum_split, sum_more, sum_past     laws of sums
--     reached-next, listed-reached, close_sum, sum-closes, closed_listed     of the list
use Rattle.std.specs.Prelude.{ℕ, zero, suc, ◌+◌, ◌-◌, ◌*◌, ◌/◌, ◌%◌, ◌≤◌, ◌<◌, min, ◌≡◌, Bool, get_or, ltb, eqb}
use Rattle.std.proofs.Math.Path.{refl}
use Rattle.std.proofs.Common.{ap, ◌∙◌, arith, le_refl}
use Rattle.std.proofs.Math.Bool.{true, false}
use mathlib.Core.List.{List, []}
use Rattle.std.proofs.Math.Decide.{dec_le}
use Rattle.std.proofs.Math.ListN.{length}
use borrow.Author.Tests.{eqb-true, eq-eqb}
use Rattle.minplus.specs.Curve as C
use Rattle.minplus.specs.Curve.{listed_at, WellFormed, max_listed, max_units}
use Rattle.curve.specs.Filled.{list_of, length-list_of, list_of_at}

pub record Steps : Type 0 where
  pub rank : ℕ
  pub period : ℕ
  pub increment : ℕ
  pub first : ℕ
  pub rises : List ℕ

-- T + d
abbrev pub step_count : Steps → ℕ
step_count s = s.rank + s.period

abbrev pub rise_in : Steps → ℕ → ℕ
rise_in s n = get_or s.rises n 0

unfoldable pub sum_to : (ℕ → ℕ) → ℕ → ℕ
sum_to r zero = 0
sum_to r (suc k) = sum_to r k + r k

unfoldable pub risen_to : (first : ℕ) → List ℕ → ℕ → ℕ
unfolding sum_to
risen_to first l k = first + sum_to (λ i. get_or l i 0) k

abbrev pub reached : Steps → ℕ → ℕ
reached s k = risen_to s.first s.rises k

unfoldable pub closes : Steps → Bool
unfolding sum_to
closes s = eqb (sum_to (λ i. rise_in s (s.rank + i)) s.period) s.increment

unfoldable pub listed_from : Steps → List ℕ
unfolding closes risen_to list_of
listed_from s = elim (closes s) [ true ↦ list_of (reached s) (step_count s) | false ↦ [] ]

abbrev pub curve_from : Steps → C.Curve
curve_from s = record { rank = s.rank; period = s.period; increment = s.increment; listed = listed_from s }

-- the largest number of 32 bits
abbrev pub largest : ℕ
largest = 4_294_967_295

unfoldable pub place_after : ℕ → ℕ → ℕ → ℕ
place_after T d at = elim (ltb (suc at) (T + d)) [ true ↦ suc at | false ↦ T ]

unfoldable pub place_at : ℕ → ℕ → ℕ → ℕ
unfolding place_after
place_at T d zero = 0
place_at T d (suc n) = place_after T d (place_at T d n)

unfoldable pub stepped : Steps → ℕ → ℕ
unfolding sum_to place_at
stepped s n = s.first + sum_to (λ i. rise_in s (place_at s.rank s.period i)) n

-- T + d rises, and a curve that is well formed
pub record Good (s : Steps) : Type 0 where
  pub whole : length s.rises ≡ step_count s
  pub well : WellFormed (curve_from s)

-- no fewer rises than T + d, and a curve that is well formed: so a walk never leaves them
pub record Lent (s : Steps) : Type 0 where
  pub room : step_count s ≤ length s.rises
  pub well : WellFormed (curve_from s)

unfoldable pub value_by : Steps → ℕ → ℕ
unfolding risen_to
value_by s n = reached s (min n s.rank + (n - s.rank) % s.period) + (n - s.rank) / s.period * s.increment

-- ---- sums

pub sum_same : (q r : ℕ → ℕ) (k : ℕ) → ((i : ℕ) → i < k → q i ≡ r i) → sum_to q k ≡ sum_to r k
unfolding sum_to
sum_same q r zero same = refl
sum_same q r (suc k) same = rw (sum_same q r k (λ i lt. same i (omega arith)), same k (omega arith))

pub sum_split : (r : ℕ → ℕ) (a b : ℕ) → sum_to r (a + b) ≡ sum_to r a + sum_to (λ i. r (a + i)) b
unfolding sum_to
sum_split r a zero = let e : a + zero ≡ a = omega arith in ap (sum_to r) e ∙ omega arith
sum_split r a (suc b) =
    let e : a + suc b ≡ suc (a + b) = omega arith in
    ap (sum_to r) e ∙ omega (arith, sum_split r a b)

pub sum_more : (r : ℕ → ℕ) (n k : ℕ) → n ≤ k → sum_to r n ≤ sum_to r k
unfolding sum_to
sum_more r n zero le = let e : n ≡ zero = omega arith in rw e (le_refl 0)
sum_more r n (suc k) le = elim (dec_le n k) [
  | yes before ↦ omega (arith, sum_more r n k before)
  | no last ↦ let e : n ≡ suc k = omega (arith, le, last) in rw e (le_refl (sum_to r k + r k))
]

pub sum_past : (r : ℕ → ℕ) (k m : ℕ) → k ≤ m → ((n : ℕ) → k ≤ n → n < m → r n ≡ 0) → sum_to r m ≡ sum_to r k
unfolding sum_to
sum_past r k zero le none = let e : k ≡ zero = omega arith in rw e
sum_past r k (suc m) le none = elim (dec_le k m) [
  | yes before ↦ omega (arith, sum_past r k m before (λ n from lt. none n from (omega arith)), none m before (omega arith))
  | no last ↦ let e : k ≡ suc m = omega (arith, le, last) in rw e
]

-- ---- the list of a form

pub reached-next : (s : Steps) (k : ℕ) → reached s (suc k) ≡ reached s k + rise_in s k
unfolding risen_to
reached-next s k = omega arith

pub reached-more : (s : Steps) (n k : ℕ) → n ≤ k → reached s n ≤ reached s k
unfolding risen_to
reached-more s n k le = omega (arith, sum_more (rise_in s) n k le)

-- the value after one period is f(T)+c
module _ (s : Steps) where
  pub close_sum : closes s ≡ true → reached s (step_count s) ≡ reached s s.rank + s.increment
  unfolding closes risen_to
  close_sum e =
      omega (arith, sum_split (rise_in s) s.rank s.period, eqb-true (sum_to (λ i. rise_in s (s.rank + i)) s.period) s.increment e)

  pub sum-closes : reached s (step_count s) ≡ reached s s.rank + s.increment → closes s ≡ true
  unfolding closes risen_to
  sum-closes e =
      eq-eqb (sum_to (λ i. rise_in s (s.rank + i)) s.period) s.increment (omega (arith, sum_split (rise_in s) s.rank s.period, e))

  pub closed_listed : closes s ≡ true → listed_from s ≡ list_of (reached s) (step_count s)
  unfolding listed_from
  closed_listed e = rw (e, listed_from)

  pub well_closes : WellFormed (curve_from s) → closes s ≡ true
  unfolding listed_from
  well_closes w = go (closes s) refl w.listed_whole
    where
      go : (b : Bool) → closes s ≡ b → length {A = ℕ} (elim b as (λ _. List ℕ) [ true ↦ list_of (reached s) (step_count s) | false ↦ [] ]) ≡ step_count s → b ≡ true
      go true is whole = refl
      go false is whole = absurd (omega (arith, whole, w.period_positive))

  pub listed-reached : closes s ≡ true → (n : ℕ) → n < step_count s → listed_at (curve_from s) n ≡ reached s n
  listed-reached e n lt = ap (λ (l : List ℕ). get_or l n 0) (closed_listed e) ∙ list_of_at (reached s) (step_count s) n lt

-- what is asked of a form: the last listed value is the greatest
pub record Sized (s : Steps) : Type 0 where
  pub period_positive : 1 ≤ s.period
  pub count_fits : step_count s ≤ max_listed
  pub increment_fits : s.increment ≤ max_units
  pub last_fits : reached s (step_count s - 1) ≤ max_units
  pub closed : closes s ≡ true

pub sized_well : {s : Steps} → Sized s → WellFormed (curve_from s)
sized_well {s} z = record {
  period_positive = z.period_positive;
  count_fits = z.count_fits;
  listed_whole = ap length (closed_listed s z.closed) ∙ length-list_of (reached s) (step_count s);
  increment_fits = z.increment_fits;
  values_fit_lem = λ n lt. omega (arith, z.last_fits, listed-reached s z.closed n lt, reached-more s n (step_count s - 1) (omega arith));
  rises = record {
    listed-rise = λ n lt.
        omega (
          arith,
          listed-reached s z.closed n (omega (arith, lt)),
          listed-reached s z.closed (suc n) (omega (arith, lt)),
          reached-next s n,
        );
    seam_holds_lem =
        omega (
          arith,
          listed-reached s z.closed (step_count s - 1) (omega (arith, z.period_positive)),
          listed-reached s z.closed s.rank (omega (arith, z.period_positive)),
          close_sum s z.closed,
          reached-more s (step_count s - 1) (step_count s) (omega arith),
        );
  };
}

pub well_sized : {s : Steps} → WellFormed (curve_from s) → Sized s
well_sized {s} w = record {
  period_positive = w.period_positive;
  count_fits = w.count_fits;
  increment_fits = w.increment_fits;
  last_fits =
      omega (
        arith,
        w.values_fit_lem (step_count s - 1) (omega (arith, w.period_positive)),
        listed-reached s (well_closes s w) (step_count s - 1) (omega (arith, w.period_positive)),
      );
  closed = well_closes s w;
}
