use Prim.Native.Nat.{ℕ, ◌+◌}
use mathlib.Core.Path.{◌≡◌, refl, sym, ap, ap₂, ◌∙◌}
use native.Mathlib.Omega.{arith}
use lib.Dec.{ltb}
use borrow.Author.Count.{below_more, below_none}
use borrow.Author.Tests.{lt-ltb, le-ltb}
use Rattle.minplus.specs.Curve.{value_at_most}
use Rattle.curve.specs.declared.walks.Walk.{Walk}
use Rattle.curve.specs.Steps.{Steps, curve_from}
use Rattle.curve.specs.Held.{steps_of}
use Rattle.curve.specs.Walks.{walk_at, walk_able, walk_begins, walk_next, walk_starts}
use Rattle.search.specs.Found.{found_at, found_nowhere}
use Rattle.search.proofs.bounds.first_above.Goals as goal

-- what is compared at a turn
tested : (F G : Steps) (s later : ℕ) {v w : Walk} → v ≡ walk_at F s → w ≡ walk_at G (s + later) → (more : ℕ)
    → ltb (w.value.0 + more) v.value.0 ≡ ltb ((walk_at G (s + later)).value.0 + more) (walk_at F s).value.0
tested F G s later left right more = ap₂ (λ (x y : Walk). ltb (y.value.0 + more) x.value.0) left right

pub loop-s-init : goal.loop-s-init
loop-s-init c =
    let pre = c.requires in
    let later : ℕ = c.args.later.0 in (
      (
        c.start-arrived.ensures ∙ walk_starts (steps_of c.args.f.held) c.args.f.lent.well,
        c.at-served.ensures ∙ walk_begins (steps_of c.args.g.held) c.args.g.lent.well later (omega (arith, pre.later_fits)) ∙ ap (walk_at (steps_of c.args.g.held)) (omega arith),
      ),
      (refl, below_none _),
    )

pub overflow_add-allowed : goal.overflow_add-allowed
overflow_add-allowed c =
    let pre = c.requires in
    let l = c.loop-s in
    omega (
      arith,
      ap (λ (w : Walk). w.value.0) l.invariant.0.1,
      value_at_most (curve_from (steps_of c.args.g.held)) c.args.g.lent.well (l.s + c.args.later.0),
      pre.within,
      pre.later_fits,
      pre.more_fits,
    )

pub next-arrived-requires : goal.next-arrived-requires
next-arrived-requires c =
    let pre = c.requires in
    rw c.loop-s.invariant.0.0 (walk_able c.args.f.lent c.loop-s.s (omega (arith, pre.within)))

pub next-served-requires : goal.next-served-requires
next-served-requires c =
    let pre = c.requires in
    rw c.loop-s.invariant.0.1 (walk_able c.args.g.lent (c.loop-s.s + c.args.later.0) (omega (arith, pre.within, pre.later_fits)))

pub loop-s-preserved : goal.loop-s-preserved
loop-s-preserved c =
    let pre = c.requires in
    let l = c.loop-s in
    let later : ℕ = c.args.later.0 in
    let on : l.s + later + 1 ≡ l.s + 1 + later = omega arith in (
      (
        walk_next c.args.f.lent l.invariant.0.0 c.next-arrived.ensures (omega (arith, pre.within)),
        walk_next c.args.g.lent l.invariant.0.1 c.next-served.ensures (omega (arith, pre.within, pre.later_fits)) ∙ ap (walk_at (steps_of c.args.g.held)) on,
      ),
      (refl, below_more _ _ l.invariant.1.1 (sym (tested _ _ _ _ l.invariant.0.0 l.invariant.0.1 c.args.more.0) ∙ le-ltb _ _ c.if-allowed-value.false)),
    )

pub returns-then-allowed-value : goal.returns-then-allowed-value
returns-then-allowed-value c =
    let l = c.loop-s in
    found_at _ _ _ _ l.s
    (ap (λ (w : Walk). w.value.0) l.invariant.0.0)
    (ap (λ (w : Walk). w.value.0 + c.args.more.0) l.invariant.0.1)
    l.invariant.1.1
    (sym (tested _ _ _ _ l.invariant.0.0 l.invariant.0.1 c.args.more.0) ∙ lt-ltb _ _ c.if-allowed-value.true)
    (omega arith)

pub returns : goal.returns
returns c =
    let l = c.loop-s in
    let last : l.s ≡ c.args.tried = omega arith in
    rw (l.invariant.1.0 ∙ ap (λ (n : ℕ). record { 0 = n }) last) (found_nowhere _ _ _ _ l.s (omega arith) l.invariant.1.1)
