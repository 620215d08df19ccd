use Prim.Native.Nat.{ℕ, suc, ◌+◌, ◌-◌, min}
use mathlib.Core.Path.{◌≡◌, refl, sym, ap, ap₂, ◌∙◌}
use native.Mathlib.Omega.{arith}
use native.Mathlib.Numerals.{add-one}
use lib.ListN.{length}
use Rattle.curve.specs.Filled.{over, over_none, over-more}
use Rattle.curve.specs.Steps.{Steps, largest, place_at, rise_in, stepped}
use Rattle.curve.specs.Stepped.{stepped-next, place_most, after_in, after_last_lem}
use Rattle.curve.specs.Table.{cell, table_over}
use Rattle.curve.proofs.Held.fill.Invariants.{summed}
use Rattle.curve.proofs.Held.fill.Goals as goal
use Rattle.curve.proofs.Held.fill.Goals.{else-count-place, then-count-place}

pub loop-n-init : goal.loop-n-init
unfolding place_at stepped
loop-n-init c = ((omega arith, omega arith), (refl, omega arith, omega arith), sym (over_none _ _))

pub overflow_add-place : goal.overflow_add-place
overflow_add-place c =
    let t = c.loop-n in
    let a = c.args in
    let T : ℕ = a.self.form.rank.0 in
    let d : ℕ = a.self.form.period.0 in
    omega (arith, t.invariant.1.0, place_most T (T + d - T) t.n, t.invariant.0.1)

pub loop-n-preserved : goal.loop-n-preserved
unfolding place_at
loop-n-preserved c =
    let t = c.loop-n in
    let a = c.args in
    let T : ℕ = a.self.form.rank.0 in
    let d : ℕ = T + a.self.form.period.0 - T in
    let s : Steps = summed T d a.self.form.first a.self.rises.now in
    let at : t.place ≡ place_at T d t.n = t.invariant.1.0 in
    let next : c.if-count-place.place ≡ place_at T d (suc t.n) =
    (elim c.if-count-place.branch [ then-count-place w ↦ w.place-is ∙ sym (after_last_lem T d (place_at T d t.n) (omega (arith, w.if-count-place.true, at))) | else-count-place w ↦ w.place-is ∙ add-one t.place ∙ ap suc at ∙ sym (after_in T d (place_at T d t.n) (omega (arith, w.if-count-place.false, at))) ]) in
    let rise : c.number_at.result ≡ rise_in s (place_at T d t.n) = c.number_at.ensures ∙ ap (rise_in s) at in
    let value : t.value + c.number_at.result ≡ stepped s (suc t.n) = omega (arith, t.invariant.1.1, rise, stepped-next s t.n) in
    let stored : c.narrow.result ≡ cell (stepped s) t.n = c.narrow.ensures ∙ ap (λ (v : ℕ). min v largest) t.invariant.1.1 in (
      t.invariant.0,
      (rw (add-one t.n) next, rw (add-one t.n) value, omega arith),
      rw (stored, t.invariant.2) (over-more (cell (stepped s)) t.n a.out.now (omega arith)),
    )

pub returns : goal.returns
unfolding table_over stepped
returns c =
    let t = c.loop-n in
    let a = c.args in
    let T : ℕ = a.self.form.rank.0 in
    let e : T + a.self.form.period.0 - T ≡ a.self.form.period.0 = omega arith in
    let out = a.out.now in
    let all : t.n ≡ min (length out) 4097 = omega arith in
    t.invariant.2
    ∙ ap₂ (λ (d k : ℕ). over (cell (stepped (summed T d a.self.form.first a.self.rises.now))) k out) e all
