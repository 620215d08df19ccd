-- The first of a claim's tried ticks that breaks its rule.
--
--     first_of_tried c tried     the first of so many ticks that breaks the rule, with its two values, and the ticks
--                        compared
--     break_of c         the same of the ticks that are tried
--     Judgeable          what is asked of a claim, and its horizon, which is within the limit
--     Searched, LessAsked     what the searches of kinds 1 to 3 are given, and what is given where X-1 is asked for
--     later_by, more_by  how many ticks later the right value of kinds 4 to 7 is taken, and what is added to it
--                        (allowed-by)
--     first_above        the first tick at which f is above what g is so many ticks later, and so many units more
--                        (allowed_by); Comparable: what that search needs in order that all fits. A bound is searched
--                        so (bound_comparable, above_first)
--     first_loosely      of a bound, whether it is claimed to be the least or not
--     is_nowhere         no tried tick breaks it
--     less_none          X-1 is not asked for where X is 0,
--     less_nowhere       and elsewhere it is a bound if no tried tick breaks it
use Prim.Native.Nat.{ℕ, suc, ◌+◌, ◌-◌, ◌≤◌, ◌<◌}
use Rattle.std.specs.Prelude.{◌≡◌, Bool, true, false, Option, Some, None}
use Rattle.std.proofs.Math.Path.{refl, ap}
use Rattle.std.proofs.Common.{◌∙◌, arith, lt-ltb}
use borrow.Author.Tests.{eqb-true, eqb-false}
use Rattle.std.proofs.Math.Option as Math
use Rattle.std.proofs.Math.Option.{none, some}
use Rattle.std.proofs.Math.Dec.{eqb, ltb}
use Rattle.minplus.specs.Curve.{Curve, value}
use Rattle.minplus.specs.Claim.{Claim, Deviation, Tightness, allowed, at_most, bounds, equals, exactly, max_x}
use Rattle.minplus.specs.Horizon.{horizon, max_horizon}
use Rattle.minplus.specs.Verdict.{breaks, first_break, left_at, less_holds, right_at, tried}
use Rattle.curve.specs.declared.Claim as code
use Rattle.curve.specs.declared.Claim.TheVariants.{Equals, AtMost, Exactly}
use Rattle.curve.specs.declared.Deviation as deviation
use Rattle.curve.specs.declared.Operation as op
use Rattle.curve.specs.declared.Deviation.TheVariants.{Delay, Backlog}
use Rattle.curve.specs.Steps.{Steps, Lent, curve_from}
use Rattle.curve.specs.Claimed.{amount_of, bound_over, claim_over, deviation_of, operation_of}
use Rattle.curve.specs.Lending.{ThirdLent}
use Rattle.search.specs.declared.Break.{Break}
use Rattle.search.specs.declared.Compared.{Compared}
use Rattle.search.specs.Found.{compared_from, compared_of, found_same}

abbrev pub first_of_tried : Claim → ℕ → Compared
first_of_tried c tried = compared_of (breaks c) (left_at c) (right_at c) tried

abbrev pub break_of : Claim → Compared
break_of c = first_of_tried c (tried c)

pub record Judgeable (c : code.Claim) (f g h : Steps) (at : ℕ) : Type 0 where
  pub third : ThirdLent c h
  pub is_horizon : at ≡ horizon (claim_over c (curve_from f) (curve_from g) (curve_from h))
  pub within : at ≤ max_horizon

-- kinds 1 to 3: three curves that are lent, and ticks up to the limit
pub record Searched (f g h : Steps) (tried : ℕ) : Type 0 where
  pub left : Lent f
  pub right : Lent g
  pub claimed : Lent h
  pub within : tried ≤ max_horizon + 1

-- kinds 5 and 7 alone, which have no claimed curve
pub record LessAsked (x : deviation.Deviation) (f g : Curve) (at : ℕ) : Type 0 where
  pub x_fits : amount_of x ≤ max_x
  pub is_horizon : at ≡ horizon (bound_over x exactly f g)
  pub within : at ≤ max_horizon

-- "in 4 and 5, f(s) and g(s+X); in 6 and 7, f(s) and g(s)+X": how much later, and how much more
abbrev pub later_by : deviation.Deviation → ℕ
later_by (Delay x) = x.0
later_by (Backlog x) = 0

abbrev pub more_by : deviation.Deviation → ℕ
more_by (Delay x) = 0
more_by (Backlog x) = x.0

-- what g is so many ticks later, and so many units more
abbrev pub allowed_by : Curve → ℕ → ℕ → ℕ → ℕ
allowed_by g later more s = value g (s + later) + more

-- the first tick at which f is above that
abbrev pub first_above : Curve → Curve → ℕ → ℕ → ℕ → Compared
first_above f g later more tried = compared_of (λ s. ltb (allowed_by g later more s) (value f s)) (value f) (allowed_by g later more) tried

-- what such a search needs in order that all ticks and values fit
pub record Comparable (later more tried : ℕ) : Type 0 where
  pub later_fits : later ≤ max_x
  pub more_fits : more ≤ max_x
  pub within : tried ≤ max_horizon

abbrev pub is_nowhere : Option Break → Bool
is_nowhere (Some found) = false
is_nowhere None = true

-- X-1, and none where X is 0
unfoldable pub less_of : deviation.Deviation → Option deviation.Deviation
less_of (Delay x) = elim (eqb x.0 0) [ true ↦ None | false ↦ Some (Delay (record { 0 = x.0 - 1 })) ]
less_of (Backlog x) = elim (eqb x.0 0) [ true ↦ None | false ↦ Some (Backlog (record { 0 = x.0 - 1 })) ]

-- ---- laws

pub allowed-by : (x : deviation.Deviation) (g : ℕ → ℕ) (s : ℕ) → g (s + later_by x) + more_by x ≡ allowed (deviation_of x) g (amount_of x) s
unfolding allowed
allowed-by (Delay x) g s = omega arith
allowed-by (Backlog x) g s = let e : s + 0 ≡ s = omega arith in ap (λ (n : ℕ). g n + x.0) e

by_fits : (x : deviation.Deviation) → (later_by x ≤ amount_of x) × (more_by x ≤ amount_of x)
by_fits (Delay x) = (omega arith, omega arith)
by_fits (Backlog x) = (omega arith, omega arith)

-- what X-1 is, where X is not 0
pub less_some : (x : deviation.Deviation) {y : deviation.Deviation} → less_of x ≡ Some y → (0 < amount_of x) × (deviation_of y ≡ deviation_of x) × (amount_of y ≡ amount_of x - 1)
unfolding less_of
less_some (Delay x) {y} = go (eqb x.0 0) refl
  where
    less : deviation.Deviation
    less = Delay (record { 0 = x.0 - 1 })

    go : (b : Bool) → eqb x.0 0 ≡ b → elim b as (λ _. Option deviation.Deviation) [ true ↦ None | false ↦ Some less ] ≡ Some y
        → (0 < x.0) × (deviation_of y ≡ deviation_of less) × (amount_of y ≡ x.0 - 1)
    go true e is = absurd (cc)
    go false e is = let same : y ≡ less = cc in (omega (arith, eqb-false x.0 0 e), ap deviation_of same, ap amount_of same)
less_some (Backlog x) {y} = go (eqb x.0 0) refl
  where
    less : deviation.Deviation
    less = Backlog (record { 0 = x.0 - 1 })

    go : (b : Bool) → eqb x.0 0 ≡ b → elim b as (λ _. Option deviation.Deviation) [ true ↦ None | false ↦ Some less ] ≡ Some y
        → (0 < x.0) × (deviation_of y ≡ deviation_of less) × (amount_of y ≡ x.0 - 1)
    go true e is = absurd (cc)
    go false e is = let same : y ≡ less = cc in (omega (arith, eqb-false x.0 0 e), ap deviation_of same, ap amount_of same)

pub less_nothing : (x : deviation.Deviation) → less_of x ≡ None → amount_of x ≡ 0
unfolding less_of
less_nothing (Delay x) = go (eqb x.0 0) refl
  where
    go : (b : Bool) → eqb x.0 0 ≡ b → elim b as (λ _. Option deviation.Deviation) [ true ↦ None | false ↦ Some (Delay (record { 0 = x.0 - 1 })) ] ≡ None → x.0 ≡ 0
    go true e is = eqb-true _ _ e
    go false e is = absurd (cc)
less_nothing (Backlog x) = go (eqb x.0 0) refl
  where
    go : (b : Bool) → eqb x.0 0 ≡ b → elim b as (λ _. Option deviation.Deviation) [ true ↦ None | false ↦ Some (Backlog (record { 0 = x.0 - 1 })) ] ≡ None → x.0 ≡ 0
    go true e is = eqb-true _ _ e
    go false e is = absurd (cc)

-- kinds 4 to 7 are searched so
module _ (x : deviation.Deviation) where
  pub bound_comparable : {at : ℕ} → amount_of x ≤ max_x → at ≤ max_horizon → Comparable (later_by x) (more_by x) at
  bound_comparable fits near = record {
    later_fits = omega (arith, fits, (by_fits x).0);
    more_fits = omega (arith, fits, (by_fits x).1);
    within = near;
  }

  pub above_first : (f g : Curve) (at : ℕ) → first_above f g (later_by x) (more_by x) at ≡ first_of_tried (bound_over x at_most f g) at
  unfolding breaks left_at right_at
  above_first f g at =
      found_same _ _ _ _ _ _ at (λ s lt. let same = allowed-by x (value g) s in (ap (λ (r : ℕ). ltb r (value f s)) same, refl, same))

pub first_loosely : (δ : Deviation) (t : Tightness) (f g : Curve) (X at : ℕ) → first_of_tried (bounds δ at_most f g X) at ≡ first_of_tried (bounds δ t f g X) at
unfolding breaks left_at right_at
first_loosely δ t f g X at = refl

-- kinds 1 to 3 try the horizon too
module _ {f g h : Steps} {at : ℕ} where
  pub tried_result : (o : op.Operation) → Judgeable (Equals o) f g h at
      → first_of_tried (equals (operation_of o) (curve_from f) (curve_from g) (curve_from h)) (at + 1) ≡ break_of (equals (operation_of o) (curve_from f) (curve_from g) (curve_from h))
  unfolding tried
  tried_result o j =
      let c : Claim = equals (operation_of o) (curve_from f) (curve_from g) (curve_from h) in
      let last : at + 1 ≡ suc (horizon c) = omega (arith, j.is_horizon) in
      ap (first_of_tried c) last

  pub tried_bound : (x : deviation.Deviation) → Judgeable (AtMost x) f g h at → first_of_tried (bound_over x at_most (curve_from f) (curve_from g)) at ≡ break_of (bound_over x at_most (curve_from f) (curve_from g))
  unfolding tried
  tried_bound x j = ap (first_of_tried (bound_over x at_most (curve_from f) (curve_from g))) j.is_horizon

  pub tried_exactly : (x : deviation.Deviation) → Judgeable (Exactly x) f g h at → first_of_tried (bound_over x at_most (curve_from f) (curve_from g)) at ≡ break_of (bound_over x exactly (curve_from f) (curve_from g))
  unfolding tried
  tried_exactly x j =
      ap (first_of_tried (bound_over x at_most (curve_from f) (curve_from g))) j.is_horizon
      ∙ first_loosely (deviation_of x) exactly (curve_from f) (curve_from g) (amount_of x) _

module _ (δ : Deviation) (f g : Curve) (X : ℕ) where
  pub less_none : X ≡ 0 → false ≡ less_holds (bounds δ exactly f g X)
  unfolding less_holds
  less_none e = rw e

  pub less_nowhere : 0 < X → (at : ℕ) → at ≡ horizon (bounds δ exactly f g X) → is_nowhere (first_of_tried (bounds δ at_most f g (X - 1)) at).found ≡ less_holds (bounds δ exactly f g X)
  unfolding less_holds first_break compared_of tried horizon
  less_nowhere positive at is =
      ap (λ (x : Compared). is_nowhere x.found) (ap (first_of_tried (bounds δ at_most f g (X - 1))) is ∙ first_loosely δ exactly f g (X - 1) (horizon less))
      ∙ rw (lt-ltb 0 X positive, less_holds) (go (first_break less))
    where
      less : Claim
      less = bounds δ exactly f g (X - 1)

      go : (o : Math.Option ℕ) → is_nowhere (compared_from (left_at less) (right_at less) (tried less) o).found ≡ elim o as (λ _. Bool) [ none ↦ true | some _ ↦ false ]
      go none = refl
      go (some n) = refl
