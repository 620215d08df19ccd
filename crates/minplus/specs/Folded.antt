-- A convolution of few splits. From its rank T on g repeats, so of the splits u + v = n those with v below T + d are
-- enough, if what they gave some periods before is carried on with the gain of these periods: f(n-v) + g(v + j*d) is
-- f(n-v) + g(v) of j*d ticks before, and j*c. No rate is asked for, and f may be any function. That they are enough is
-- conv_folded, proofs/Folded.antt.
--
--     least_from f g low k r n    the least f(n-v) + g(v) over low <= v <= low + k with v <= r; v = low is always tried
--     from_most, from_same        it is at most the first of these; it depends on f up to n and g up to low + k alone
--     from_below, from_attained   it is at most each of these, and one of them
--     from_gains                  if f gains c over d from T on, it does so from T + low + k on: later ticks need no
--                                 split
--     carried F K P a n           the least of F(n), F(n-P) + a, F(n-2P) + 2a and so on, no tick of these below K
--     carried_first               in the first period from K on, and before K, it is F(n); carried-next: later, the
--                                 lesser of F(n) and of itself one period before with a, as a loop has it
--     carried-most                it is at most F(n); carried_below, carried_attained: at most each of its numbers, and
--                                 one of them
--     Reached f g r               splits of n with v <= r(n) are enough
--     from_half                   of a function with itself the least over v up to n/2, rounded down, is that over all
--                                 of low to low + k, once the mirrors of these are from low on
--     conv_half                   of all splits it always is
--     first_half                  2*T is the first tick with v = T within n/2
--     half_gains                  and with it the least gains from T + low + k on as well
use Prim.Native.Nat.{ℕ, zero, suc, ◌+◌, ◌-◌, ◌*◌, ◌/◌, ◌≤◌, ◌<◌, min}
use Rattle.std.specs.Prelude.{◌≡◌, refl, ◌↔◌}
use Rattle.std.proofs.Common.{sym, ◌∙◌, le_antisymm, le_refl, le-div_iff_mul-le}
use Rattle.std.proofs.Math.Path.{ap, ap₂, subst}
use native.Mathlib.Omega.{arith}
use Rattle.std.proofs.Math.Nat.{div-eq_of_lt, div-eq-sub-div, zero-div}
use Rattle.std.proofs.Math.Decide.{dec_le}
use Rattle.minplus.specs.Search.{best, best_same, least, least_lower, least_attained}
use Rattle.minplus.specs.Conv.{conv}
use Rattle.minplus.specs.Gains.{Gains}

unfoldable pub least_from : (f g : ℕ → ℕ) (low k r n : ℕ) → ℕ
unfolding best
least_from f g low k r n = least (λ i. f (n - (low + i)) + g (low + i)) (min (r - low) k)

-- F, or what it was some periods before with the gain of these
unfoldable pub carried : (F : ℕ → ℕ) (K P a n : ℕ) → ℕ
unfolding best
carried F K P a n = least (λ j. F (n - j * P) + j * a) ((n - K) / P)

-- which splits are enough: some least one has its v within r, and of two with the same u the one with the smaller v
-- is within r if the other is
pub record Reached (f g r : ℕ → ℕ) : Type 0 where
  pub inside : (n : ℕ) → r n ≤ n
  pub attained : (n : ℕ) → (u : ℕ) × (v : ℕ) × (u + v ≡ n) × (v ≤ r n) × (conv f g n ≡ f u + g v)
  pub smaller : (u v w : ℕ) → w ≤ v → v ≤ r (u + v) → w ≤ r (u + w)

-- ---- the least of finitely many numbers, once more

-- its first number apart
least_first : (h : ℕ → ℕ) (k : ℕ) → least h (suc k) ≡ min (h zero) (least (λ i. h (suc i)) k)
unfolding best
least_first h zero = refl
least_first h (suc k) = omega (arith, least_first h k)

-- all of them greater by a
least_raised : (h : ℕ → ℕ) (a k : ℕ) → least (λ i. h i + a) k ≡ least h k + a
unfolding best
least_raised h a zero = refl
least_raised h a (suc k) = omega (arith, least_raised h a k)

-- ---- the least over some splits

module _ (f g : ℕ → ℕ) (low k r n : ℕ) where
  pub from_below : (u v : ℕ) → u + v ≡ n → low ≤ v → v ≤ low + k → v ≤ r → least_from f g low k r n ≤ f u + g v
  unfolding least_from
  from_below u v e late soon within =
      let at : low + (v - low) ≡ v = omega arith in
      let rest : n - (low + (v - low)) ≡ u = omega arith in
      omega (
        arith,
        least_lower (λ i. f (n - (low + i)) + g (low + i)) (min (r - low) k) (v - low) (omega arith),
        ap f rest,
        ap g at,
      )

  pub from_attained : r ≤ n → low ≤ n → (u : ℕ) × (v : ℕ) × (u + v ≡ n) × (low ≤ v) × (v ≤ low + k) × (least_from f g low k r n ≡ f u + g v)
  unfolding least_from
  from_attained inside le =
      let t = least_attained (λ i. f (n - (low + i)) + g (low + i)) (min (r - low) k) in
      (n - (low + t.0), low + t.0, omega (arith, t.1), omega arith, omega (arith, t.1), t.2)

  pub from_most : least_from f g low k r n ≤ f (n - low) + g low
  unfolding least_from
  from_most =
      let e : low + 0 ≡ low = omega arith in
      subst (λ (v : ℕ). least_from f g low k r n ≤ f (n - v) + g v) e
      (least_lower (λ i. f (n - (low + i)) + g (low + i)) (min (r - low) k) 0 (omega arith))

pub from_same : (f g f' g' : ℕ → ℕ) (low k r n : ℕ) → ((m : ℕ) → m ≤ n → f m ≡ f' m) → ((v : ℕ) → v ≤ low + k → g v ≡ g' v)
    → least_from f g low k r n ≡ least_from f' g' low k r n
unfolding least_from
from_same f g f' g' low k r n same same' =
    best_same min (λ i. f (n - (low + i)) + g (low + i)) (λ i. f' (n - (low + i)) + g' (low + i)) (min (r - low) k)
    (λ i le. omega (arith, same (n - (low + i)) (omega arith), same' (low + i) (omega (arith, le))))

pub from_gains : {f : ℕ → ℕ} {T d c : ℕ} → Gains f T d c → (g : ℕ → ℕ) (low k : ℕ)
    → Gains (λ n. least_from f g low k n n) (T + (low + k)) d c
unfolding least_from
from_gains {f} {T} {d} {c} G g low k = record {
  gain = λ n le.
      let all : min (n - low) k ≡ k = omega arith in
      let all' : min (n + d - low) k ≡ k = omega arith in
      rw (all, all')
      (best_same min _ (λ i. f (n - (low + i)) + g (low + i) + c) k (λ i few. moved n i (omega arith))
      ∙ least_raised (λ i. f (n - (low + i)) + g (low + i)) c k);
}
  where
    moved : (n i : ℕ) → T + (low + i) ≤ n → f (n + d - (low + i)) + g (low + i) ≡ f (n - (low + i)) + g (low + i) + c
    moved n i le =
        let e : n + d - (low + i) ≡ n - (low + i) + d = omega arith in
        omega (arith, ap f e, G.gain (n - (low + i)) (omega arith))

-- ---- carried from period to period

module _ (F : ℕ → ℕ) (K P a n : ℕ) where
  none_back : F (n - 0 * P) + 0 * a ≡ F n
  none_back =
      let e : n - 0 * P ≡ n = omega arith in
      omega (arith, ap F e)

  pub carried_first : n < K + P → carried F K P a n ≡ F n
  unfolding carried
  carried_first lt = ap (best min (λ j. F (n - j * P) + j * a)) none ∙ none_back
    where
      none : (n - K) / P ≡ 0
      none = elim (dec_le K n) [
        | yes le ↦ div-eq_of_lt (omega arith)
        | no gt ↦
            let e : n - K ≡ 0 = omega (arith, gt) in
            ap (λ (x : ℕ). x / P) e ∙ zero-div P
      ]

  pub carried-most : carried F K P a n ≤ F n
  unfolding carried
  carried-most = omega (arith, least_lower (λ j. F (n - j * P) + j * a) ((n - K) / P) 0 (omega arith), none_back)

  pub carried-next : 0 < P → K + P ≤ n → carried F K P a n ≡ min (F n) (carried F K P a (n - P) + a)
  unfolding carried
  carried-next positive le =
      ap (best min (λ j. F (n - j * P) + j * a)) one_more
      ∙ least_first (λ j. F (n - j * P) + j * a) ((n - P - K) / P)
      ∙ ap₂ min none_back (best_same min _ _ ((n - P - K) / P) (λ j few. before j) ∙ least_raised (λ j. F (n - P - j * P) + j * a) a ((n - P - K) / P))
    where
      one_more : (n - K) / P ≡ suc ((n - P - K) / P)
      one_more =
          let e : n - K - P ≡ n - P - K = omega arith in
          omega (arith, div-eq-sub-div {m = P} {n = n - K} positive (omega arith), ap (λ (x : ℕ). x / P) e)

      before : (j : ℕ) → F (n - suc j * P) + suc j * a ≡ F (n - P - j * P) + j * a + a
      before j =
          let e : n - suc j * P ≡ n - P - j * P = omega arith in
          omega (arith, ap F e)

  pub carried_below : 0 < P → (m j : ℕ) → m + j * P ≡ n → K ≤ m → carried F K P a n ≤ F m + j * a
  unfolding carried
  carried_below positive m j e le =
      let back : n - j * P ≡ m = omega arith in
      omega (
        arith,
        least_lower (λ j. F (n - j * P) + j * a) ((n - K) / P) j ((le-div_iff_mul-le positive).1 (omega arith)),
        ap F back,
      )

  pub carried_attained : 0 < P → K ≤ n → (m : ℕ) × (j : ℕ) × (m + j * P ≡ n) × (K ≤ m) × (carried F K P a n ≡ F m + j * a)
  unfolding carried
  carried_attained positive le =
      let t = least_attained (λ j. F (n - j * P) + j * a) ((n - K) / P) in
      let back : t.0 * P ≤ n - K = (le-div_iff_mul-le positive).0 t.1 in
      (n - t.0 * P, t.0, omega arith, omega arith, t.2)

-- ---- a convolution of few splits

-- ---- a function with itself

-- of a split past the half the mirror is tried, if it is from low on
pub from_half : (f : ℕ → ℕ) (low k n : ℕ) → low + (low + k) ≤ n → least_from f f low k (n / 2) n ≡ least_from f f low k n n
from_half f low k n le = le_antisymm over under
  where
    over : least_from f f low k (n / 2) n ≤ least_from f f low k n n
    over =
        let t = from_attained f f low k n n (le_refl n) (omega arith) in
        elim (dec_le t.1 t.0) [
          | yes before ↦ omega (arith, from_below f f low k (n / 2) n t.0 t.1 t.2 t.3 t.4 (omega (arith, t.2, before)), t.5)
          | no past ↦
              omega (
                arith,
                from_below f f low k (n / 2) n t.1 t.0 (omega (arith, t.2)) (omega (arith, t.2, t.4)) (omega (arith, t.4, past)) (omega (arith, t.2, past)),
                t.5,
              )
        ]

    under : least_from f f low k n n ≤ least_from f f low k (n / 2) n
    under =
        let t = from_attained f f low k (n / 2) n (omega arith) (omega arith) in
        omega (arith, from_below f f low k n n t.0 t.1 t.2 t.3 t.4 (omega (arith, t.2)), t.5)

-- of all splits
pub conv_half : (f : ℕ → ℕ) (n : ℕ) → conv f f n ≡ least (λ u. f u + f (n - u)) (n / 2)
unfolding conv least_from
conv_half f n =
    let all : min (n - 0) n ≡ n = omega arith in
    let up_to : min (n / 2 - 0) n ≡ n / 2 = omega arith in
    best_same min (λ u. f u + f (n - u)) (λ i. f (n - (0 + i)) + f (0 + i)) n (λ u le. from_first u)
    ∙ ap (least (λ i. f (n - (0 + i)) + f (0 + i))) (sym all)
    ∙ sym (from_half f 0 n n (omega arith))
    ∙ ap (least (λ i. f (n - (0 + i)) + f (0 + i))) up_to
    ∙ best_same min (λ i. f (n - (0 + i)) + f (0 + i)) (λ u. f u + f (n - u)) (n / 2) (λ u le. sym (from_first u))
  where
    from_none : (u : ℕ) → 0 + u ≡ u
    from_none u = omega arith

    from_first : (u : ℕ) → f u + f (n - u) ≡ f (n - (0 + u)) + f (0 + u)
    from_first u = omega (arith, ap f (from_none u), ap (λ (x : ℕ). f (n - x)) (from_none u))

pub first_half : (T m : ℕ) → (2 * T ≤ m) ↔ (T ≤ m / 2)
first_half T m = (λ le. omega arith, λ le. omega arith)

pub half_gains : {f : ℕ → ℕ} {T d c : ℕ} → Gains f T d c → (low k : ℕ) → low ≤ T → Gains (λ n. least_from f f low k (n / 2) n) (T + (low + k)) d c
half_gains {f} {T} {d} {c} G low k soon = record {
  gain = λ n le.
      from_half f low k (n + d) (omega arith)
      ∙ (from_gains G f low k).gain n le
      ∙ ap (λ (x : ℕ). x + c) (sym (from_half f low k n (omega arith)));
}
