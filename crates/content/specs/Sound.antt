-- What is not refused.
--
--     listed_well           a curve is not refused exactly when it is within document 01's limits (span_fits;
--                           well_span, well_limits); curve_well_formed: so a content that is not refused says such a
--                           curve
--     WellStated            a claim of a known kind whose ids name curves of so many, with an X within its limit:
--                           exactly what is not refused (well_stated)
--     claim_sound           a claim's content that is not refused has the length of its kind, and is such a claim
--     Stands                a claim's content states a claim of curves that the book has, with an X within its limit
--                           (claim_stands)
use Rattle.std.specs.Prelude.{ℕ, suc, ◌*◌, ◌+◌, ◌-◌, ◌≤◌, ◌<◌, ◌≡◌, refl, Bool, false, ◌||◌, List, ◌↔◌, length, leb, ltb, eqb, Ok, Err}
use Rattle.std.proofs.Common.{ap, ◌∙◌, arith}
use Rattle.std.proofs.Math.Bool.{true, not}
use Rattle.std.proofs.Math.Option.{Option, none, some}
use borrow.Author.Tests.{leb-true, leb-false, ltb-false, eqb-false, eqb-true, not-false, le-leb, lt-leb, le-ltb, ne_eqb, eq-eqb}
use Rattle.minplus.specs.Search.{all_below_lem}
use Rattle.minplus.specs.Claim.{Kind, result, bound, kind_by, sum, minimum, convolution, delay, backlog, at_most, exactly, max_x}
use Rattle.minplus.specs.Curve.{Curve, WellFormed, count, listed_at, max_listed, max_units, seam_holds}
use Rattle.curve.specs.Kinds.{claim_with, x_of}
use Rattle.curve.specs.Filled.{length-list_of}
use Rattle.content.specs.declared.Refusal.TheVariants.{CurveLength, CurvePeriod, TooManyUnits, CurveFalls, WrongClaim, NoSuchCurve, TooLarge}
use Rattle.content.specs.declared.Stated.{Stated}
use Rattle.content.specs.declared.Statement.{Statement}
use Rattle.content.specs.Layout.{rank_in, period_in, count_in, curve_head, value_in, curve_in, claim_in, claim_length}
use Rattle.content.specs.Refusals.{Checked, no_span, values_fit, values_rise, limit_fault, listed_fault, curve_fault, none_named, last_id, far_x, kind_fault, statement_fault, claim_fault, claimed_of, stated_of, stated_or, stated, statement_field, claim_field, on_sound, or_false, claim_whole}

-- ---- curves

pub span_fits : (rank period : ℕ) → no_span rank period ≡ false → (1 ≤ period) × (rank + period ≤ max_listed)
unfolding no_span
span_fits rank period span =
    let spans = or_false (eqb period 0) (ltb max_listed (rank + period)) span in
    (omega (arith, eqb-false period 0 spans.0), ltb-false _ _ spans.1)

module _ (f : Curve) where
  abbrev fit : ℕ → Bool
  fit n = leb (listed_at f n) max_units

  abbrev rise : ℕ → Bool
  rise n = leb (listed_at f n) (listed_at f (suc n))

  -- what the tests tell, once the list is T+d values
  well : no_span f.rank f.period ≡ false → length f.listed ≡ count f → limit_fault f ≡ Ok tt → WellFormed f
  unfolding limit_fault
  well span whole limits =
      let spans = span_fits f.rank f.period span in
      let t₁ = on_sound (ltb max_units f.increment || not (values_fit f.listed)) TooManyUnits _ limits in
      let small = or_false (ltb max_units f.increment) (not (values_fit f.listed)) t₁.0 in
      let t₂ = on_sound (not (values_rise f.listed) || not (seam_holds f)) CurveFalls _ t₁.1 in
      let rising = or_false (not (values_rise f.listed)) (not (seam_holds f)) t₂.0 in
      let fits = (all_below_lem fit (length f.listed)).0 (not-false _ small.1) in
      let rises = (all_below_lem rise (length f.listed - 1)).0 (not-false _ rising.0) in
      record {
        period_positive = spans.0;
        count_fits = spans.1;
        listed_whole = whole;
        increment_fits = ltb-false _ _ small.0;
        values_fit_lem = λ n lt. leb-true _ _ (fits n (omega (arith, whole, lt)));
        rises = record {
          listed-rise = λ n lt. leb-true _ _ (rises n (omega (arith, whole, lt)));
          seam_holds_lem = leb-true _ _ (not-false _ rising.1);
        };
      }

  -- and the other way round
  module _ (w : WellFormed f) where
    pub well_span : no_span f.rank f.period ≡ false
    unfolding no_span
    well_span = rw (ne_eqb f.period 0 (λ e. omega (arith, e, w.period_positive)), le-ltb max_listed (count f) w.count_fits)

    pub well_limits : limit_fault f ≡ Ok tt
    unfolding limit_fault
    well_limits =
        let fits : values_fit f.listed ≡ true = (all_below_lem fit (length f.listed)).1 (λ n lt. le-leb _ _ (w.values_fit_lem n (omega (arith, w.listed_whole, lt)))) in
        let rises : values_rise f.listed ≡ true = (all_below_lem rise (length f.listed - 1)).1 (λ n lt. le-leb _ _ (w.rises.listed-rise n (omega (arith, w.listed_whole, lt)))) in
        rw (le-ltb max_units f.increment w.increment_fits, fits, rises, le-leb _ _ w.rises.seam_holds_lem)

pub listed_well : (f : Curve) → (listed_fault f ≡ Ok tt) ↔ WellFormed f
unfolding listed_fault
listed_well f = (
  λ e.
      let t₁ = on_sound (no_span f.rank f.period) CurvePeriod _ e in
      let t₂ = on_sound (not (eqb (length f.listed) (count f))) CurveLength _ t₁.1 in
      well f t₁.0 (eqb-true _ _ (not-false _ t₂.0)) t₂.1,
  λ w. rw (well_span f w, eq-eqb (length f.listed) (count f) w.listed_whole) (well_limits f w),
)

pub curve_well_formed : (content : List ℕ) → curve_fault content ≡ Ok tt → WellFormed (curve_in content)
unfolding curve_fault
curve_well_formed content e =
    let t₁ = on_sound (ltb (length content) curve_head) CurveLength _ e in
    let t₂ = on_sound (no_span (rank_in content) (period_in content)) CurvePeriod _ t₁.1 in
    let t₃ = on_sound (not (eqb (length content) (curve_head + 4 * count_in content))) CurveLength _ t₂.1 in
    well (curve_in content) t₂.0 (length-list_of (value_in content) (count_in content)) t₃.1

-- ---- claims

pub record WellStated (curves : ℕ) (c : Statement) : Type 0 where
  pub kind : Kind
  pub known : kind_by c.kind ≡ some kind
  pub left_named : c.left < curves
  pub right_named : c.right < curves
  pub last_named : last_id kind c < curves
  pub x_near : far_x kind c ≡ false

pub well_stated : (curves : ℕ) (c : Statement) → (statement_fault curves c ≡ Ok tt) ↔ WellStated curves c
unfolding statement_fault kind_fault none_named
well_stated curves c = (
  by_kind (kind_by c.kind) refl,
  λ w. rw (w.known, statement_fault, lt-leb _ _ w.left_named, lt-leb _ _ w.right_named, lt-leb _ _ w.last_named, w.x_near),
)
  where
    by_kind : (κ : Option Kind) → kind_by c.kind ≡ κ → elim κ as (λ _. Checked) [ none ↦ Err WrongClaim | some κ ↦ kind_fault κ curves c ] ≡ Ok tt → WellStated curves c
    by_kind none is e = let z : ◌≡◌ {A = ℕ} 0 1 = cc in absurd (omega (arith, z))
    by_kind (some κ) is e =
        let t₁ = on_sound (none_named curves c.left c.right (last_id κ c)) NoSuchCurve _ e in
        let t₂ = on_sound (far_x κ c) TooLarge _ t₁.1 in
        let two = or_false (leb curves c.left || leb curves c.right) (leb curves (last_id κ c)) t₁.0 in
        let first = or_false (leb curves c.left) (leb curves c.right) two.0 in
        record {
          kind = κ;
          known = is;
          left_named = leb-false _ _ first.0;
          right_named = leb-false _ _ first.1;
          last_named = leb-false _ _ two.1;
          x_near = t₂.0;
        }

-- ---- a claim's content

pub claim_sound : (curves : ℕ) (content : List ℕ) → claim_fault curves content ≡ Ok tt
    → (length content ≡ claim_length (claim_in content).kind) × WellStated curves (claim_in content)
unfolding claim_fault
claim_sound curves content e =
    let whole = on_sound (not (eqb (length content) (claim_length (claim_in content).kind))) WrongClaim _ e in
    (eqb-true _ _ (not-false _ whole.0), (well_stated curves (claim_in content)).0 whole.1)

pub record Stands (curves : ℕ) (content : List ℕ) : Type 0 where
  pub stated : Stated
  pub so : claim_field curves content ≡ Ok stated
  pub left_named : stated.left < curves
  pub right_named : stated.right < curves
  pub claimed_named : stated.claimed < curves
  pub x_fits : x_of stated.claim ≤ max_x

pub claim_stands : (curves : ℕ) (content : List ℕ) → claim_fault curves content ≡ Ok tt → Stands curves content
unfolding claim_field statement_field statement_fault far_x
claim_stands curves content e =
    let c : Statement = claim_in content in
    let told = claim_sound curves content e in
    let w = told.1 in
    let fault : kind_fault w.kind curves c ≡ Ok tt = by_fault (kind_by c.kind) w.kind w.known ((well_stated curves c).1 w) in
    record {
      stated = stated_of w.kind c;
      so =
          claim_whole curves content told.0
          ∙ ap (λ (κ? : Option Kind). stated κ? curves c) w.known ∙ ap (λ (y : Checked). stated_or y (stated_of w.kind c)) fault;
      left_named = w.left_named;
      right_named = w.right_named;
      claimed_named = claimed_is w.kind c w.last_named (omega (arith, w.left_named));
      x_fits = x_is w.kind c w.x_near;
    }
  where
    by_fault : (κ? : Option Kind) (κ : Kind) → κ? ≡ some κ
        → elim κ? as (λ _. Checked) [ none ↦ Err WrongClaim | some κ ↦ kind_fault κ curves (claim_in content) ] ≡ Ok tt → kind_fault κ curves (claim_in content) ≡ Ok tt
    by_fault κ? κ is e = rw is at e

    claimed_is : (κ : Kind) (c : Statement) → last_id κ c < curves → 0 < curves → claimed_of κ c < curves
    claimed_is (result o) c last some-curve = last
    claimed_is (bound δ t) c last some-curve = some-curve

    x_is : (κ : Kind) (c : Statement) → far_x κ c ≡ false → x_of (claim_with κ c.third) ≤ max_x
    x_is (result sum) c near = omega arith
    x_is (result minimum) c near = omega arith
    x_is (result convolution) c near = omega arith
    x_is (bound delay at_most) c near = ltb-false _ _ near
    x_is (bound delay exactly) c near = ltb-false _ _ near
    x_is (bound backlog at_most) c near = ltb-false _ _ near
    x_is (bound backlog exactly) c near = ltb-false _ _ near
