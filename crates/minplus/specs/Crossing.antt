-- The crossing N, pinned without shifts: N <= n exactly when document 01's formula, multiplied out, holds at n for
-- every t of its two or three lists. No other number has this law (bounds_fix).
--
--     In start count      a tick t with start <= t < start + count
--     Greatest, Least     a signed number is the greatest or the least p(i) - q(i) over all i: a bound of them that is
--                         one of them
--     Crossed             d'*A - d*B <= (c'*d - c*d')*n, with each A = p - q and B = p' - q' put in and what is
--                         subtracted moved across; SplitCrossed: the same with A and B increased
--     minimum_n_law       N of a minimum; convolution_n_law: of a convolution, at T = 0 too
use Rattle.std.specs.Prelude.{ℕ, zero, suc, ◌+◌, ◌-◌, ◌*◌, ◌/◌, ◌≤◌, ◌<◌, min, max, ◌≡◌, ◌↔◌}
use Rattle.std.proofs.Math.Path.{refl, sym}
use Rattle.std.proofs.Common.{ap, ◌∙◌, subst, arith, sub-add_cancel, add-sub_of_le, div-lt_iff_lt-mul, mul-le-mul_left, le_antisymm, le_refl}
use Rattle.minplus.specs.Search.{greatest, least, greatest_upper, least_lower, greatest_attained, least_attained}
use Rattle.minplus.specs.Curve.{Curve, value}
use Rattle.minplus.specs.Horizon.{Signed, Slower, raised_at, extreme_of, highest, lowest, earliest, rounded_up, crossing, begun_at, minimum_n, convolution_n, ◌increased_by◌}

abbrev pub In : ℕ → ℕ → Type 0
In start count = (t : ℕ) × (start ≤ t) × (t < start + count)

-- d'*A - d*B <= (c'*d - c*d')*n for A = d*f(t) - c*t and B = d'*g(t') - c'*t', with what is subtracted moved across
abbrev pub Crossed : Curve → Curve → (n t t' : ℕ) → Type 0
Crossed f g n t t' =
    let d = f.period in
    let c = f.increment in
    let d' = g.period in
    let c' = g.increment in
    d' * (d * value f t) + d * (c' * t') + c * d' * n ≤ d * (d' * value g t') + d' * (c * t) + c' * d * n

-- the same with A increased by d*g(T') - c*T' and B by d'*f(u) - c'*u
abbrev pub SplitCrossed : Curve → Curve → (n t t' u : ℕ) → Type 0
SplitCrossed f g n t t' u =
    let d = f.period in
    let c = f.increment in
    let d' = g.period in
    let c' = g.increment in
    let T' = g.rank in
    d' * (d * value f t + d * value g T') + d * (c' * t' + c' * u) + c * d' * n
    ≤ d * (d' * value g t' + d' * value f u) + d' * (c * t + c * T') + c' * d * n

record Greatest (I : Type 0) (p q : I → ℕ) (A : Signed) : Type 0 where
  upper : (i : I) → p i + A.minus ≤ A.plus + q i
  attained : (i : I) × (p i + A.minus ≡ A.plus + q i)

record Least (I : Type 0) (p q : I → ℕ) (B : Signed) : Type 0 where
  lower : (i : I) → B.plus + q i ≤ p i + B.minus
  attained : (i : I) × (p i + B.minus ≡ B.plus + q i)

-- ---- the extremes of d*f(t) - c*t

module _ (f : ℕ → ℕ) (d c start count : ℕ) where
  -- raised_at, kept shut for omega
  term : ℕ → ℕ
  term = raised_at f d c start count

  -- a term with what it is raised by
  raised : (x r i : ℕ) → r + i ≡ count → x + c * r + c * (start + i) ≡ x + c * (start + count)
  raised x r i e = omega (arith, ap (λ (y : ℕ). c * y) e)

  term_at : (i : ℕ) → i ≤ count → d * f (start + i) + c * (start + count) ≡ term i + c * (start + i)
  unfolding term
  term_at i le = sym (raised (d * f (start + i)) (count - i) i (sub-add_cancel le))

  term_of : (t : In start count) → d * f t.0 + c * (start + count) ≡ term (t.0 - start) + c * t.0
  term_of t =
      subst (λ (s : ℕ). d * f s + c * (start + count) ≡ term (t.0 - start) + c * s) (add-sub_of_le t.1)
      (term_at (t.0 - start) (omega (arith, t.2)))

  -- what is kept of the terms is one of them
  attained_at : (x : ℕ) → 0 < count → (i : ℕ) × (i ≤ count - 1) × (x ≡ term i)
      → (t : In start count) × (d * f t.0 + c * (start + count) ≡ x + c * t.0)
  attained_at x h a =
      let fits : a.0 < count = omega (arith, a.1) in
      ((start + a.0, omega arith, omega arith), term_at a.0 (omega arith) ∙ ap (λ (y : ℕ). y + c * (start + a.0)) (sym a.2))

  extreme_greatest : 0 < count → Greatest (In start count) (λ t. d * f t.0) (λ t. c * t.0) (extreme_of max f d c start count)
  unfolding extreme_of term
  extreme_greatest h = record {
    upper = λ t. omega (arith, term_of t, greatest_upper term (count - 1) (t.0 - start) (omega (arith, t.1, t.2)));
    attained = attained_at (greatest term (count - 1)) h (greatest_attained term (count - 1));
  }

  extreme_least : 0 < count → Least (In start count) (λ t. d * f t.0) (λ t. c * t.0) (extreme_of min f d c start count)
  unfolding extreme_of term
  extreme_least h = record {
    lower = λ t. omega (arith, term_of t, least_lower term (count - 1) (t.0 - start) (omega (arith, t.1, t.2)));
    attained = attained_at (least term (count - 1)) h (least_attained term (count - 1));
  }

-- A and B, increased
greatest-more : {I : Type 0} {p q : I → ℕ} {A : Signed} (x y : ℕ) → Greatest I p q A
    → Greatest I (λ i. p i + x) (λ i. q i + y) (A increased_by record { plus = x; minus = y })
greatest-more x y G = record { upper = λ i. omega (arith, G.upper i); attained = (G.attained.0, omega (arith, G.attained.1)) }

least_more : {I J : Type 0} {p q : I → ℕ} {p' q' : J → ℕ} {B B' : Signed} → Least I p q B → Least J p' q' B'
    → Least (I × J) (λ i. p i.0 + p' i.1) (λ i. q i.0 + q' i.1) (B increased_by B')
least_more L M = record {
  lower = λ i. omega (arith, L.lower i.0, M.lower i.1);
  attained = ((L.attained.0, M.attained.0), omega (arith, L.attained.1, M.attained.1));
}

-- ---- N from A and B

-- a number is fixed by the numbers that it is not above
pub bounds_fix : (S : ℕ → Type 0) (N M : ℕ) → ((n : ℕ) → (N ≤ n) ↔ S n) → ((n : ℕ) → (M ≤ n) ↔ S n) → N ≡ M
bounds_fix S N M p q = le_antisymm ((p M).1 ((q M).0 (le_refl M))) ((q N).1 ((p N).0 (le_refl N)))

rounded_up_lem : (x y n : ℕ) → 0 < y → (rounded_up x y ≤ n) ↔ (x ≤ n * y)
unfolding rounded_up
rounded_up_lem x y n h = (
  λ le. omega (arith, (div-lt_iff_lt-mul h).0 (let q : (x + (y - 1)) / y < suc n = omega arith in q)),
  λ le. let q : (x + (y - 1)) / y < suc n = (div-lt_iff_lt-mul h).1 (omega arith) in omega arith,
)

-- a difference of rates, moved across
moved : (x y p q δ n : ℕ) → δ + p ≡ q → (x - y ≤ n * δ) ↔ (x + p * n ≤ y + q * n)
moved x y p q δ n e = let e' = ap (λ (z : ℕ). n * z) e in (λ le. omega (arith, e'), λ le. omega (arith, e'))

crossing_signed : (f g : Curve) (A B : Signed) → Slower f g → (n : ℕ) → (crossing f g A B ≤ n)
    ↔ (g.period * A.plus + f.period * B.minus + f.increment * g.period * n
    ≤ f.period * B.plus + g.period * A.minus + g.increment * f.period * n)
unfolding crossing
crossing_signed f g A B slow n =
    let δ : ℕ = g.increment * f.period - f.increment * g.period in
    let x : ℕ = g.period * A.plus + f.period * B.minus in
    let y : ℕ = f.period * B.plus + g.period * A.minus in
    let up = rounded_up_lem (x - y) δ n (omega arith) in
    let across = moved x y (f.increment * g.period) (g.increment * f.period) δ n (omega arith) in
    (λ le. across.0 (up.0 le), λ le. up.1 (across.1 le))

crossing_law : {I J : Type 0} {p q : I → ℕ} {p' q' : J → ℕ} {A B : Signed} (f g : Curve) → Greatest I p q A → Least J p' q' B → Slower f g
    → (n : ℕ) → (crossing f g A B ≤ n)
    ↔ ((i : I) (j : J) → g.period * p i + f.period * q' j + f.increment * g.period * n
    ≤ f.period * p' j + g.period * q i + g.increment * f.period * n)
crossing_law {p = p} {q = q} {p' = p'} {q' = q'} {A = A} {B = B} f g G L slow n =
    let signed = crossing_signed f g A B slow n in (
      λ le i j. omega (arith, signed.0 le, mul-le-mul_left g.period (G.upper i), mul-le-mul_left f.period (L.lower j)),
      λ all.
          let i = G.attained.0 in
          let j = L.attained.0 in
          signed.1
          (omega (arith, all i j, ap (λ (x : ℕ). g.period * x) G.attained.1, ap (λ (x : ℕ). f.period * x) L.attained.1)),
    )

module _ (f g : Curve) (positive : 1 ≤ f.period) (positive' : 1 ≤ g.period) (slow : Slower f g) where
  high : Greatest (In f.rank f.period) (λ t. f.period * value f t.0) (λ t. f.increment * t.0) (highest f)
  unfolding highest
  high = extreme_greatest (value f) f.period f.increment f.rank f.period positive

  low : Least (In g.rank g.period) (λ t. g.period * value g t.0) (λ t. g.increment * t.0) (lowest g)
  unfolding lowest
  low = extreme_least (value g) g.period g.increment g.rank g.period positive'

  early : 0 < f.rank → Least (In 0 f.rank) (λ t. g.period * value f t.0) (λ t. g.increment * t.0) (earliest f g)
  unfolding earliest
  early h = extreme_least (value f) g.period g.increment 0 f.rank h

  pub minimum_n_law : (n : ℕ) → (minimum_n f g ≤ n) ↔ ((t : In f.rank f.period) (t' : In g.rank g.period) → Crossed f g n t.0 t'.0)
  unfolding minimum_n
  minimum_n_law n = crossing_law f g high low slow n

  pub convolution_n_law : (n : ℕ) → (convolution_n f g ≤ n)
      ↔ ((t : In f.rank f.period) (t' : In g.rank g.period) (u : In 0 f.rank) → SplitCrossed f g n t.0 t'.0 u.0)
  unfolding convolution_n
  convolution_n_law n = go f.rank refl
    where
      A : Signed
      A = highest f increased_by begun_at f g

      B : Signed
      B = lowest g increased_by earliest f g

      go : (T : ℕ) → f.rank ≡ T → (elim T as (λ _. ℕ) [ zero ↦ 0 | suc _ ↦ crossing f g A B ] ≤ n)
          ↔ ((t : In f.rank f.period) (t' : In g.rank g.period) (u : In 0 f.rank) → SplitCrossed f g n t.0 t'.0 u.0)
      go zero e = (λ _ t t' u. absurd (omega (arith, u.2, e)), λ _. omega arith)
      go (suc T) e =
          let law = crossing_law f g (greatest-more (f.period * value g g.rank) (f.increment * g.rank) high)
          (least_more low (early (omega (arith, e)))) slow n in
          (λ le t t' u. law.0 le t (t', u), λ all. law.1 (λ t j. all t j.0 j.1))
