use Prim.Native.Nat.{ℕ, ◌-◌, ◌≤◌, min}
use mathlib.Core.Path.{◌≡◌, sym, ap, ◌∙◌, subst}
use native.Mathlib.Omega.{arith}
use Rattle.minplus.specs.Curve.{WellFormed}
use Rattle.curve.specs.Steps.{Steps, step_count, reached, closes, value_by, sized_well, well_sized, well_closes}
use Rattle.curve.specs.Stepped.{by-listed}
use Rattle.curve.specs.Walks.{most}
use Rattle.curve.specs.Held.{curve_of, steps_in}
use Rattle.limits.specs.Told.{Told, no, told-map, told_self}
use Rattle.limits.proofs.well_formed.Goals as goal

-- the value that is asked for, of a curve as it is lent, is the last listed one
greatest_is : (s t : Steps) (v : ℕ) → 1 ≤ s.period → t ≡ s → v ≡ min (value_by t (step_count s - 1)) most → v ≡ min (reached s (step_count s - 1)) most
greatest_is s t v positive same is =
    is ∙ ap (λ (u : Steps). min (value_by u (step_count s - 1)) most) same ∙ ap (λ (x : ℕ). min x most) (by-listed s (step_count s - 1) (omega arith))

pub returns-then-form-eq0 : goal.returns-then-form-eq0
returns-then-form-eq0 c = no (λ w. omega (arith, w.period_positive))

pub returns-then-count : goal.returns-then-count
returns-then-count c = no (λ w. omega (arith, w.count_fits))

pub returns-then-form-gt-MAX_UNITS : goal.returns-then-form-gt-MAX_UNITS
returns-then-form-gt-MAX_UNITS c = no (λ w. omega (arith, w.increment_fits))

pub returns-then-greatest : goal.returns-then-greatest
returns-then-greatest c =
    let s : Steps = steps_in c.args.f.now in
    let greatest = greatest_is s _ _ (omega arith) c.held-held.ensures.steps c.value_at-greatest.ensures in
    no (λ w. absurd (omega (arith, (well_sized {s = s} w).last_fits, greatest, c.if-greatest.true)))

pub returns : goal.returns
returns c =
    let s : Steps = steps_in c.args.f.now in
    let greatest = greatest_is s _ _ (omega arith) c.held-held.ensures.steps c.value_at-greatest.ensures in
    subst (Told (WellFormed (curve_of c.args.f.now))) (sym (c.closes.ensures ∙ ap closes c.held-held.ensures.steps))
    (told-map
    (λ closed. sized_well {s = s} (record {
      period_positive = omega arith;
      count_fits = omega arith;
      increment_fits = omega arith;
      last_fits = omega (arith, greatest, c.if-greatest.false);
      closed = closed;
    }))
    (λ w. well_closes s w)
    (told_self (closes s)))
