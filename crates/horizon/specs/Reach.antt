-- What the steps of the horizon's code compute, in the words of the crate minplus.
--
--     signed_of                            a struct of two numbers as a signed number
--     Limited                              a curve's numbers keep their limits, as those of a well-formed one do
--                                          (limited)
--     Raisable, Extent, Small, Crossable     what is known where it is computed, so that products fit: no
--                                          extreme is above large, no sum of products above far
--     raised_fits, raisable, small_more, begun_fits, above_fits, below_fits, faster_fits     that they do
--     even_rank, crossing_n                the rank with equal rates from D, and N where f is the slower curve
--     rates_left, rates_right, rates_even  by the three ways in which two rates can stand; convolution_none,
--                                          convolution_some: by T
--     rank_is                              R is the greater of the two, with D itself
--     result_capped, result_far            K+P, from a D and a P that stop counting, and where N is above the limit
--     horizon_numbers                      of the claimed curve the horizon asks the numbers alone
--     horizon_answer                       the answer: no horizon for a claim that is not well formed (horizon_none),
--                                          else its horizon as far as there is one (horizon_some)
use Rattle.std.specs.Prelude.{ℕ, suc, ◌+◌, ◌-◌, ◌*◌, ◌≤◌, ◌<◌, max, ◌≡◌, refl, Bool, true, false, List, Option, Result, Ok, Err}
use Rattle.std.proofs.Common.{sym, ap, ◌∙◌, arith, mul-le-mul, le_of_lt}
use Rattle.std.proofs.Math.Nat.{max_comm}
use Rattle.minplus.specs.Curve as C
use Rattle.minplus.specs.Divisor.{lcm}
use Rattle.minplus.proofs.Ranks.{common_comm, by_rates_lem}
use Rattle.minplus.specs.Claim as M
use Rattle.minplus.specs.Horizon as H
use Rattle.minplus.specs.Horizon.{Slower}
use Rattle.curve.specs.declared.Claim as code
use Rattle.curve.specs.declared.Claim.TheVariants.{Equals, AtMost, Exactly}
use Rattle.curve.specs.declared.Form.{Form}
use Rattle.curve.specs.declared.Ticks.{Ticks}
use Rattle.curve.specs.Steps.{Steps, Lent, curve_from}
use Rattle.curve.specs.Held.{held_as, rates_of}
use Rattle.curve.specs.Claimed.{claim_over}
use Rattle.horizon.specs.declared.crossing.Signed.{Signed}
use Rattle.limits.specs.declared.IllFormed.{IllFormed}
use Rattle.horizon.specs.Capped.{capped, capped_twice, horizon_from, max-capped, plus_capped}

abbrev pub signed_of : Signed → H.Signed
signed_of s = record { plus = s.plus; minus = s.minus }

-- a value and factors that are small enough: no value that is looked at is above that at tick 256
pub record Raisable (v d c left : ℕ) : Type 0 where
  pub value_fits : v ≤ 256_000_000
  pub factor_fits : d ≤ C.max_listed
  pub slope_fits : c ≤ C.max_units
  pub left_fits : left ≤ C.max_listed

-- the numbers of a well-formed curve
pub record Limited (f : C.Curve) : Type 0 where
  pub rank_fits : f.rank ≤ C.max_listed
  pub period_fits : f.period ≤ C.max_listed
  pub increment_fits : f.increment ≤ C.max_units

-- what an extreme is taken over: some of a curve's values, with factors that are small enough
pub record Extent (d c start count : ℕ) : Type 0 where
  pub some : 1 ≤ count
  pub room : start + count ≤ C.max_listed
  pub factor_fits : d ≤ C.max_listed
  pub slope_fits : c ≤ C.max_units

pub record Small (bound : ℕ) (s : Signed) : Type 0 where
  pub plus_fits : s.plus ≤ bound
  pub minus_fits : s.minus ≤ bound

-- 2^41: no extreme is above it; two extremes and a value's multiple are not above twice that
abbrev pub large : ℕ
large = 2_199_023_255_552

-- 2^52: no sum of their products with periods is above it, and so no N
abbrev pub far : ℕ
far = 4_503_599_627_370_496

-- f is the slower of two curves, and A and B are within bounds
pub record Crossable (f g : C.Curve) (a b : Signed) : Type 0 where
  pub left : Limited f
  pub right : Limited g
  pub slower : Slower f g
  pub a_small : Small (large + large) a
  pub b_small : Small (large + large) b

unfoldable pub even_rank : M.Operation → (T T' D : ℕ) → ℕ
even_rank M.sum T T' D = max T T'
even_rank M.minimum T T' D = max T T'
even_rank M.convolution T T' D = T + T' + D

unfoldable pub crossing_n : M.Operation → C.Curve → C.Curve → ℕ
unfolding H.minimum_n H.convolution_n
crossing_n M.sum f g = 0
crossing_n M.minimum f g = H.minimum_n f g
crossing_n M.convolution f g = H.convolution_n f g

unfoldable pub horizon_answer : M.Claim → Result (Option Ticks) IllFormed
unfolding M.well_formed_claim H.horizon horizon_from
horizon_answer c = elim (M.well_formed_claim c) [ true ↦ Ok (horizon_from (H.horizon c)) | false ↦ Err (record {}) ]

-- ---- laws

pub raised_fits : {v d c left : ℕ} → Raisable v d c left → d * v + c * left ≤ large
raised_fits at = omega (arith, mul-le-mul at.factor_fits at.value_fits, mul-le-mul at.slope_fits at.left_fits)

-- a curve's limits hold of its numbers
pub limited : {form : Form} {l : List ℕ} → Lent (held_as form l) → Limited (rates_of form)
limited lent = record {
  rank_fits = omega (arith, C.rank_fits lent.well);
  period_fits = C.period_fits lent.well;
  increment_fits = lent.well.increment_fits;
}

pub small_more : {s : Signed} → Small large s → Small (large + large) s
small_more small = record { plus_fits = omega (arith, small.plus_fits); minus_fits = omega (arith, small.minus_fits) }

pub raisable : {s : Steps} {d c start count v left : ℕ} → Lent s → Extent d c start count → (n : ℕ) → n < start + count → v ≡ C.value (curve_from s) n → left ≤ count
    → Raisable v d c left
raisable {s} lent over n lt is few = record {
  value_fits = omega (arith, is, C.value_at_most (curve_from s) lent.well n, over.room);
  factor_fits = over.factor_fits;
  slope_fits = over.slope_fits;
  left_fits = omega (arith, few, over.room);
}

pub begun_fits : {f : C.Curve} {s : Steps} → Limited f → Lent s → ((H.begun_at f (curve_from s)).plus ≤ large) × ((H.begun_at f (curve_from s)).minus ≤ large)
begun_fits {f} {s} at lent =
    let value_fits : C.value (curve_from s) s.rank ≤ 256_000_000 = omega (arith, C.value_at_most (curve_from s) lent.well s.rank, C.rank_fits lent.well) in (
      omega (arith, mul-le-mul at.period_fits value_fits),
      omega (arith, mul-le-mul at.increment_fits (le_of_lt (C.rank_fits lent.well))),
    )

-- what is computed of A and B stays far below 2^64
module _ {f g : C.Curve} {a b : Signed} (at : Crossable f g a b) where
  d_fits : f.period ≤ C.max_listed
  d_fits = at.left.period_fits

  e_fits : g.period ≤ C.max_listed
  e_fits = at.right.period_fits

  pub above_fits : g.period * a.plus + f.period * b.minus ≤ far
  above_fits = omega (arith, mul-le-mul e_fits at.a_small.plus_fits, mul-le-mul d_fits at.b_small.minus_fits)

  pub below_fits : f.period * b.plus + g.period * a.minus ≤ far
  below_fits = omega (arith, mul-le-mul d_fits at.b_small.plus_fits, mul-le-mul e_fits at.a_small.minus_fits)

  pub faster_fits : g.increment * f.period + f.increment * g.period ≤ large
  faster_fits = omega (arith, mul-le-mul at.right.increment_fits d_fits, mul-le-mul at.left.increment_fits e_fits)

-- the three ways in which two rates can stand
module _ (f g : C.Curve) (equal : ℕ) (N : C.Curve → C.Curve → ℕ) where
  pub rates_left : H.slower f g ≡ true → H.by_rates f g equal N ≡ N f g
  unfolding H.by_rates
  rates_left e = rw (e, H.by_rates)

  pub rates_right : H.slower f g ≡ false → H.slower g f ≡ true → H.by_rates f g equal N ≡ N g f
  unfolding H.by_rates
  rates_right e d = rw (e, d, H.by_rates)

  pub rates_even : H.slower f g ≡ false → H.slower g f ≡ false → H.by_rates f g equal N ≡ equal
  unfolding H.by_rates
  rates_even e d = rw (e, d, H.by_rates)

-- with D itself
abbrev even_by : M.Operation → C.Curve → C.Curve → ℕ
even_by op f g = even_rank op f.rank g.rank (H.common_period f g)

even_comm : (op : M.Operation) (f g : C.Curve) → even_by op f g ≡ even_by op g f
unfolding even_rank
even_comm M.sum f g = max_comm f.rank g.rank
even_comm M.minimum f g = max_comm f.rank g.rank
even_comm M.convolution f g = omega (arith, common_comm f g)

-- the ways in which two rates can stand share the rank E, where E is the same for both orders
rates_max : (f g : C.Curve) (E N : C.Curve → C.Curve → ℕ) → E f g ≡ E g f
    → H.by_rates f g (E f g) (λ a b. max (E a b) (N a b)) ≡ max (E f g) (H.by_rates f g 0 N)
unfolding H.by_rates
rates_max f g E N comm = go (H.slower f g) (H.slower g f)
  where
    go : (t u : Bool)
        → elim t as (λ _. ℕ) [ true ↦ max (E f g) (N f g) | false ↦ elim u as (λ _. ℕ) [ true ↦ max (E g f) (N g f) | false ↦ E f g ] ]
        ≡ max (E f g) (elim t as (λ _. ℕ) [ true ↦ N f g | false ↦ elim u as (λ _. ℕ) [ true ↦ N g f | false ↦ 0 ] ])
    go true u = refl
    go false true = ap (λ (e : ℕ). max e (N g f)) (sym comm)
    go false false = omega arith

pub rank_is : (op : M.Operation) (f g : C.Curve) → H.rank_of op f g ≡ max (even_rank op f.rank g.rank (H.common_period f g)) (H.by_rates f g 0 (crossing_n op))
unfolding H.rank_of even_rank crossing_n
rank_is M.sum f g = omega (arith, by_rates_lem (λ N. N ≡ 0) f g 0 (crossing_n M.sum) (λ _. refl) (λ _. refl) (λ _. refl))
rank_is M.minimum f g = rates_max f g (even_by M.minimum) H.minimum_n (even_comm M.minimum f g)
rank_is M.convolution f g = rates_max f g (even_by M.convolution) H.convolution_n (even_comm M.convolution f g)

pub convolution_none : (f g : C.Curve) → f.rank ≡ 0 → H.convolution_n f g ≡ 0
unfolding H.convolution_n
convolution_none f g e = rw e

pub convolution_some : (f g : C.Curve) → 1 ≤ f.rank
    → H.convolution_n f g ≡ H.crossing f g (H.◌increased_by◌ (H.highest f) (H.begun_at f g)) (H.◌increased_by◌ (H.lowest g) (H.earliest f g))
unfolding H.convolution_n
convolution_some f g some = let e : f.rank ≡ suc (f.rank - 1) = omega arith in rw e

-- the rank and the horizon of kinds 1 to 3 from a D and a P that stop counting
even_capped : (op : M.Operation) (T T' D : ℕ) → capped (even_rank op T T' (capped D)) ≡ capped (even_rank op T T' D)
unfolding even_rank
even_capped M.sum T T' D = refl
even_capped M.minimum T T' D = refl
even_capped M.convolution T T' D = omega arith

pub result_capped : (op : M.Operation) (f g h : C.Curve) → let D : ℕ = H.common_period f g in
    capped (max (max (even_rank op f.rank g.rank (capped D)) (H.by_rates f g 0 (crossing_n op))) h.rank + capped (lcm (capped D) h.period))
    ≡ capped (H.horizon (M.equals op f g h))
unfolding H.horizon H.last_rank H.full_period H.common_period
result_capped op f g h =
    let D : ℕ = H.common_period f g in
    let rank = max-capped _ _ (H.by_rates f g 0 (crossing_n op)) (even_capped op f.rank g.rank D) ∙ ap capped (sym (rank_is op f g)) in
    let period : capped (capped (lcm (capped D) h.period)) ≡ capped (lcm D h.period) = omega (arith, capped_twice f.period g.period h.period) in
    plus_capped _ _ _ _ (max-capped _ _ h.rank rank) period

-- where N is above the limit, so is the horizon
pub result_far : (op : M.Operation) (f g h : C.Curve) → H.max_horizon < H.by_rates f g 0 (crossing_n op) → H.max_horizon < H.horizon (M.equals op f g h)
unfolding H.horizon H.last_rank
result_far op f g h lt = omega (arith, rank_is op f g)

-- of the claimed curve the numbers are enough
pub horizon_numbers : (c : code.Claim) (f g : C.Curve) (h : Form) (l : List ℕ)
    → H.horizon (claim_over c f g (rates_of h)) ≡ H.horizon (claim_over c f g (curve_from (held_as h l)))
unfolding H.horizon
horizon_numbers (Equals o) f g h l = refl
horizon_numbers (AtMost x) f g h l = refl
horizon_numbers (Exactly x) f g h l = refl

-- the answer from what holds
module _ (c : M.Claim) where
  pub horizon_none : M.well_formed_claim c ≡ false → horizon_answer c ≡ Err (record {})
  unfolding horizon_answer
  horizon_none e = rw (e, horizon_answer)

  pub horizon_some : M.well_formed_claim c ≡ true → horizon_answer c ≡ Ok (horizon_from (H.horizon c))
  unfolding horizon_answer
  horizon_some e = rw (e, horizon_answer)
