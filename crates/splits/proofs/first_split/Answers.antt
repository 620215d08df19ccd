-- `near_turn` and `last_turn` say what stands in the arrays once a least sum is stored, `late_turn` what is due and
-- what stands there once a tick is carried. Where the ways through a tick meet, `Turn` has all of it.
use Prim.Native.Nat.{ℕ, ◌+◌, ◌-◌, ◌≤◌, ◌<◌, min, max}
use mathlib.Core.Path.{◌≡◌, refl, sym, ap, ◌∙◌}
use mathlib.Core.Bool.{Bool}
use native.Mathlib.Omega.{arith}
use Rattle.std.specs.Prelude.{None}
use lib.Dec.{leb}
use lib.ListN.{get_or}
use borrow.Author.Count.{below_more, below_none}
use borrow.Author.Tests.{eq-eqb, ne_eqb}
use Rattle.minplus.specs.Curve.{Curve, value}
use Rattle.minplus.specs.Conv.{conv}
use Rattle.minplus.specs.Claim.{due}
use Rattle.minplus.specs.Verdict.{breaks, left_at, right_at}
use Rattle.curve.specs.Steps.{curve_from}
use Rattle.curve.specs.Held.{steps_of}
use Rattle.curve.specs.declared.walks.Walk.{Walk}
use Rattle.curve.specs.Walks.{walk_able, walk_next, walk_starts}
use Rattle.search.specs.declared.Compared.{Compared}
use Rattle.search.specs.Found.{found_at, found_nowhere}
use Rattle.splits.specs.declared.Work.{Work}
use Rattle.splits.specs.Parts.{carried_in, carried_put, last_put, near_put}
use Rattle.splits.specs.Periods.{added_fits, Placed, Turned, turned_back, turned_next, turned_early, placed_back, placed_next}
use Rattle.splits.specs.Reach.{due_early, due_late, late_first, late_inside, late_of, near_of, reach_inside, reach_of}
use Rattle.splits.specs.Splits.{settled_of, Foldable, Folds, Holds, LeastUpTo, folds_none, split_fits, split_least, all_tried, near_stored, near_settled, last_stored, last_settled, near_is, near_fits, carried_is, carries, kept_next, kept_before, from_first, from_next}
use Rattle.splits.proofs.first_split.Goals as goal
use Rattle.splits.proofs.first_split.Goals.{then-reached-start, else-reached-start, then-reached-count, else-reached-count, then-n-settled+else-loop-v-test, else-n-settled, then-late-n+then-turn-span, then-n-settled-2+else-loop-v-then-n-settled-2-test, else-n-settled-2, then-late-n+else-turn-span, else-late-n, then-at-settled, else-at-settled}

-- no split is past the reach: where each inner loop ends
ends_near : (end start n : ℕ) → end ≡ min start (n + 1) → max (0 + 1) end ≡ min (0 + (start - 1) + 1) (n + 1)
ends_near end start n is = omega (arith, is)

ends_last : (end start span n : ℕ) → start ≤ n → 1 ≤ span → end ≡ min (start + span) (n + 1) → max (start + 1) end ≡ min (start + (span - 1) + 1) (n + 1)
ends_last end start span n late some is = omega (arith, is, late, some)

near_turn : {itself : Bool} {f g : Curve} {base work : Work} {tried n end v near : ℕ} → Foldable itself f g base tried
    → Holds itself f g base work (min n (settled_of f g)) (min n (settled_of f g)) n → n < settled_of f g → end ≡ min g.rank (reach_of itself n + 1)
    → LeastUpTo (λ i. get_or work.left i 0) (λ i. get_or work.right i 0) 0 n v near × (v ≤ max 1 end) → end ≤ v
    → Holds itself f g base (near_put work n near) (min (n + 1) (settled_of f g)) (min n (settled_of f g)) n
near_turn {itself} {f} {g} {n = n} ok kept early ends inv past =
    near_stored ok early kept
    (split_least ok kept (g.rank - 1) (reach_of itself n) inv.0 (omega (arith, ok.right_period)) early
    (all_tried _ _ _ _ _ (omega arith) (ends_near _ _ _ ends) inv.0.begun past inv.1))

last_turn : {itself : Bool} {f g : Curve} {base work : Work} {tried n end v last : ℕ} → Foldable itself f g base tried → late_of itself g.rank ≤ n
    → Holds itself f g base work (min (n + 1) (settled_of f g)) (min n (settled_of f g)) n → n < settled_of f g → end ≡ min (g.rank + g.period) (reach_of itself n + 1)
    → LeastUpTo (λ i. get_or work.left i 0) (λ i. get_or work.right i 0) g.rank n v last × (v ≤ max (g.rank + 1) end) → end ≤ v
    → Holds itself f g base (last_put work n last) (min (n + 1) (settled_of f g)) (min (n + 1) (settled_of f g)) n
last_turn {itself} {f} {g} {n = n} ok late kept early ends inv past =
    let within : g.rank ≤ reach_of itself n = (late_first itself g.rank n).0 late in
    last_stored ok early kept
    (split_least ok kept (g.period - 1) (reach_of itself n) inv.0 (omega (arith, ok.right_period)) early
    (all_tried _ _ _ _ _ within (ends_last _ _ _ _ within ok.right_period ends) inv.0.begun past inv.1))

late_turn : {itself : Bool} {f g : Curve} {base work work' : Work} {tried n at added turn near least : ℕ} {again : Bool} → Foldable itself f g base tried → late_of itself g.rank ≤ n
    → Holds itself f g base work (min (n + 1) (settled_of f g)) (min (n + 1) (settled_of f g)) n
    → Placed (settled_of f g) f.period f.increment n at added → Turned (late_of itself g.rank) g.period n turn → again ≡ leb (late_of itself g.rank + g.period) n
    → near ≡ near_of itself f g n → least ≡ carried_in work at added turn g.increment again → work' ≡ carried_put work turn (carried_in work at added turn g.increment again)
    → Holds itself f g base work' (min (n + 1) (settled_of f g)) (min (n + 1) (settled_of f g)) (n + 1) × (min near least ≡ conv (value f) (value g) n)
late_turn {f = f} {g} {n = n} ok late kept placed turned again near-due is after = (
  rw after (kept_next ok late kept placed turned _ again refl),
  rw (near-due, is ∙ carried_is ok late kept placed turned _ again) (due_late ok.one_curve ok.right_period n late),
)

-- what a tick leaves: what stands in the arrays, what is due, and where the round of what is carried stands
abbrev Turn : (itself : Bool) (f g : Curve) (base work : Work) (n due turn : ℕ) → Type 0
Turn itself f g base work n due turn =
    Holds itself f g base work (min (n + 1) (settled_of f g)) (min (n + 1) (settled_of f g)) (n + 1)
    × ((due ≡ conv (value f) (value g) n) × Turned (late_of itself g.rank) g.period (n + 1) turn)

pub ticks-init : goal.ticks-init
ticks-init c =
    (refl, (folds_none c.requires (c.start-walk.ensures ∙ walk_starts (steps_of c.args.h.held) c.args.h.lent.well), below_none _))

pub loop-v-init : goal.loop-v-init
loop-v-init c = (from_first _ _ _ _ _ _ _ 0 (omega arith) (omega arith) (omega arith) refl, omega arith)

pub loop-v-preserved : goal.loop-v-preserved
loop-v-preserved c = (from_next c.loop-v.invariant.0 c.min-near.ensures, omega arith)

pub overflow_add-due : goal.overflow_add-due
overflow_add-due c =
    let a = c.args in
    let f : Curve = curve_from (steps_of a.f.held) in
    let g : Curve = curve_from (steps_of a.g.held) in
    let ok : Foldable a.itself f g a.work.now a.tried = c.requires in
    let folds : Folds a.itself f g (steps_of a.h.held) a.work.now c.ticks.work c.ticks.walk c.ticks.n c.ticks.at c.ticks.added c.ticks.turn = c.ticks.invariant.1.0 in
    let n : ℕ = c.ticks.n in
    let near-kept : Holds a.itself f g a.work.now c.if-n-settled.work (min (n + 1) (settled_of f g)) (min n (settled_of f g)) n =
    elim c.if-n-settled.branch [
      | then-n-settled+else-loop-v-test v ↦ rw v.work-is (near_turn ok folds.kept v.if-n-settled.true (elim v.if-reached-start.branch [ then-reached-start u ↦ omega (arith, c.reach-reached.ensures) | else-reached-start u ↦ omega (arith, c.reach-reached.ensures) ]) v.loop-v.invariant v.loop-v-test.false)
      | else-n-settled v ↦ rw v.work-is (near_settled ok (omega (arith, v.if-n-settled.false)) folds.kept)
    ] in
    let near-due : get_or c.if-n-settled.work.near c.ticks.at 0 + c.ticks.added ≡ near_of a.itself f g n = near_is ok folds.placed near-kept in
    omega (arith, near-due, near_fits ok n (omega arith))

pub overflow_add-last : goal.overflow_add-last
overflow_add-last c =
    let a = c.args in
    let f : Curve = curve_from (steps_of a.f.held) in
    let g : Curve = curve_from (steps_of a.g.held) in
    let ok : Foldable a.itself f g a.work.now a.tried = c.requires in
    let folds : Folds a.itself f g (steps_of a.h.held) a.work.now c.ticks.work c.ticks.walk c.ticks.n c.ticks.at c.ticks.added c.ticks.turn = c.ticks.invariant.1.0 in
    let n : ℕ = c.ticks.n in
    let near-kept : Holds a.itself f g a.work.now c.if-n-settled.work (min (n + 1) (settled_of f g)) (min n (settled_of f g)) n =
    elim c.if-n-settled.branch [
      | then-n-settled+else-loop-v-test v ↦ rw v.work-is (near_turn ok folds.kept v.if-n-settled.true (elim v.if-reached-start.branch [ then-reached-start u ↦ omega (arith, c.reach-reached.ensures) | else-reached-start u ↦ omega (arith, c.reach-reached.ensures) ]) v.loop-v.invariant v.loop-v-test.false)
      | else-n-settled v ↦ rw v.work-is (near_settled ok (omega (arith, v.if-n-settled.false)) folds.kept)
    ] in
    let late : g.rank ≤ n = late_inside a.itself g.rank n (omega (arith, c.late_from-late.ensures, c.if-late-n.true)) in
    omega (arith, split_fits ok near-kept (n - g.rank) g.rank (omega arith) (omega (arith, ok.right_period)) (omega (arith, late)))

pub loop-v-then-n-settled-2-init : goal.loop-v-then-n-settled-2-init
loop-v-then-n-settled-2-init c = (from_first _ _ _ _ _ _ _ _ (omega arith) (omega arith) (omega arith) refl, omega arith)

pub overflow_add-work-in-loop-v-then-n-settled-2 : goal.overflow_add-work-in-loop-v-then-n-settled-2
overflow_add-work-in-loop-v-then-n-settled-2 c =
    let a = c.args in
    let f : Curve = curve_from (steps_of a.f.held) in
    let g : Curve = curve_from (steps_of a.g.held) in
    let ok : Foldable a.itself f g a.work.now a.tried = c.requires in
    let folds : Folds a.itself f g (steps_of a.h.held) a.work.now c.ticks.work c.ticks.walk c.ticks.n c.ticks.at c.ticks.added c.ticks.turn = c.ticks.invariant.1.0 in
    let n : ℕ = c.ticks.n in
    let near-kept : Holds a.itself f g a.work.now c.if-n-settled.work (min (n + 1) (settled_of f g)) (min n (settled_of f g)) n =
    elim c.if-n-settled.branch [
      | then-n-settled+else-loop-v-test v ↦ rw v.work-is (near_turn ok folds.kept v.if-n-settled.true (elim v.if-reached-start.branch [ then-reached-start u ↦ omega (arith, c.reach-reached.ensures) | else-reached-start u ↦ omega (arith, c.reach-reached.ensures) ]) v.loop-v.invariant v.loop-v-test.false)
      | else-n-settled v ↦ rw v.work-is (near_settled ok (omega (arith, v.if-n-settled.false)) folds.kept)
    ] in
    let end : c.if-reached-count.end ≡ min (g.rank + g.period) (reach_of a.itself n + 1) = elim c.if-reached-count.branch [ then-reached-count u ↦ omega (arith, c.reach-reached.ensures) | else-reached-count u ↦ omega (arith, c.reach-reached.ensures) ] in
    let v : ℕ = c.loop-v-then-n-settled-2.v in
    omega (arith, split_fits ok near-kept (n - v) v (omega arith) (omega (arith, end)) (omega (arith, end, reach_inside a.itself n)))

pub loop-v-then-n-settled-2-preserved : goal.loop-v-then-n-settled-2-preserved
loop-v-then-n-settled-2-preserved c = (from_next c.loop-v-then-n-settled-2.invariant.0 c.min-last.ensures, omega arith)

pub carry-requires : goal.carry-requires
carry-requires c =
    let a = c.args in
    let f : Curve = curve_from (steps_of a.f.held) in
    let g : Curve = curve_from (steps_of a.g.held) in
    let ok : Foldable a.itself f g a.work.now a.tried = c.requires in
    let folds : Folds a.itself f g (steps_of a.h.held) a.work.now c.ticks.work c.ticks.walk c.ticks.n c.ticks.at c.ticks.added c.ticks.turn = c.ticks.invariant.1.0 in
    let n : ℕ = c.ticks.n in
    let near-kept : Holds a.itself f g a.work.now c.if-n-settled.work (min (n + 1) (settled_of f g)) (min n (settled_of f g)) n =
    elim c.if-n-settled.branch [
      | then-n-settled+else-loop-v-test v ↦ rw v.work-is (near_turn ok folds.kept v.if-n-settled.true (elim v.if-reached-start.branch [ then-reached-start u ↦ omega (arith, c.reach-reached.ensures) | else-reached-start u ↦ omega (arith, c.reach-reached.ensures) ]) v.loop-v.invariant v.loop-v-test.false)
      | else-n-settled v ↦ rw v.work-is (near_settled ok (omega (arith, v.if-n-settled.false)) folds.kept)
    ] in
    let again : leb (c.late_from-late.result + g.period) n ≡ leb (late_of a.itself g.rank + g.period) n = ap (λ (x : ℕ). leb (x + g.period) n) c.late_from-late.ensures in
    let late : late_of a.itself g.rank ≤ n = omega (arith, c.late_from-late.ensures, c.if-late-n.true) in
    let last-kept : Holds a.itself f g a.work.now c.if-n-settled-2.work (min (n + 1) (settled_of f g)) (min (n + 1) (settled_of f g)) n =
    elim c.if-n-settled-2.branch [
      | then-n-settled-2+else-loop-v-then-n-settled-2-test v ↦
          rw v.work-is (last_turn ok late near-kept v.if-n-settled-2.true (elim v.if-reached-count.branch [ then-reached-count u ↦ omega (arith, c.reach-reached.ensures) | else-reached-count u ↦ omega (arith, c.reach-reached.ensures) ]) v.loop-v-then-n-settled-2.invariant v.loop-v-then-n-settled-2-test.false)
      | else-n-settled-2 v ↦ rw v.work-is (last_settled ok (omega (arith, v.if-n-settled-2.false)) near-kept)
    ] in
    carries ok late last-kept folds.placed folds.turned _ again (omega arith)

pub next-walk-requires : goal.next-walk-requires
next-walk-requires c = rw c.ticks.invariant.1.0.walked (walk_able c.args.h.lent c.ticks.n (omega (arith, c.requires.within)))

pub overflow_add-added : goal.overflow_add-added
overflow_add-added c =
    let pre = c.requires in
    omega (arith, pre.gain_fits, pre.within, added_fits c.ticks.invariant.1.0.placed pre.left_period pre.gain_fits)

pub ticks-preserved : goal.ticks-preserved
unfolding breaks left_at right_at due
ticks-preserved c =
    let a = c.args in
    let f : Curve = curve_from (steps_of a.f.held) in
    let g : Curve = curve_from (steps_of a.g.held) in
    let ok : Foldable a.itself f g a.work.now a.tried = c.requires in
    let folds : Folds a.itself f g (steps_of a.h.held) a.work.now c.ticks.work c.ticks.walk c.ticks.n c.ticks.at c.ticks.added c.ticks.turn = c.ticks.invariant.1.0 in
    let n : ℕ = c.ticks.n in
    let near-kept : Holds a.itself f g a.work.now c.if-n-settled.work (min (n + 1) (settled_of f g)) (min n (settled_of f g)) n =
    elim c.if-n-settled.branch [
      | then-n-settled+else-loop-v-test v ↦ rw v.work-is (near_turn ok folds.kept v.if-n-settled.true (elim v.if-reached-start.branch [ then-reached-start u ↦ omega (arith, c.reach-reached.ensures) | else-reached-start u ↦ omega (arith, c.reach-reached.ensures) ]) v.loop-v.invariant v.loop-v-test.false)
      | else-n-settled v ↦ rw v.work-is (near_settled ok (omega (arith, v.if-n-settled.false)) folds.kept)
    ] in
    let near-due : get_or c.if-n-settled.work.near c.ticks.at 0 + c.ticks.added ≡ near_of a.itself f g n = near_is ok folds.placed near-kept in
    let again : leb (c.late_from-late.result + g.period) n ≡ leb (late_of a.itself g.rank + g.period) n = ap (λ (x : ℕ). leb (x + g.period) n) c.late_from-late.ensures in
    let turn : Turn a.itself f g a.work.now c.if-late-n.work n c.if-late-n.due c.if-late-n.turn =
    elim c.if-late-n.branch [
      | then-late-n+then-turn-span w ↦
          let late : late_of a.itself g.rank ≤ n = omega (arith, c.late_from-late.ensures, w.if-late-n.true) in
          let last-kept : Holds a.itself f g a.work.now w.if-n-settled-2.work (min (n + 1) (settled_of f g)) (min (n + 1) (settled_of f g)) n =
          elim w.if-n-settled-2.branch [
            | then-n-settled-2+else-loop-v-then-n-settled-2-test v ↦
                rw v.work-is (last_turn ok late near-kept v.if-n-settled-2.true (elim v.if-reached-count.branch [ then-reached-count u ↦ omega (arith, c.reach-reached.ensures) | else-reached-count u ↦ omega (arith, c.reach-reached.ensures) ]) v.loop-v-then-n-settled-2.invariant v.loop-v-then-n-settled-2-test.false)
            | else-n-settled-2 v ↦ rw v.work-is (last_settled ok (omega (arith, v.if-n-settled-2.false)) near-kept)
          ] in
          let carried = late_turn ok late last-kept folds.placed folds.turned again near-due w.carry.ensures.value w.carry.ensures.work_after in
          (rw w.work-is carried.0, (w.due-is ∙ w.min-due.ensures ∙ carried.1, rw w.turn-is (turned_back folds.turned late w.if-turn-span.true)))
      | then-late-n+else-turn-span w ↦
          let late : late_of a.itself g.rank ≤ n = omega (arith, c.late_from-late.ensures, w.if-late-n.true) in
          let last-kept : Holds a.itself f g a.work.now w.if-n-settled-2.work (min (n + 1) (settled_of f g)) (min (n + 1) (settled_of f g)) n =
          elim w.if-n-settled-2.branch [
            | then-n-settled-2+else-loop-v-then-n-settled-2-test v ↦
                rw v.work-is (last_turn ok late near-kept v.if-n-settled-2.true (elim v.if-reached-count.branch [ then-reached-count u ↦ omega (arith, c.reach-reached.ensures) | else-reached-count u ↦ omega (arith, c.reach-reached.ensures) ]) v.loop-v-then-n-settled-2.invariant v.loop-v-then-n-settled-2-test.false)
            | else-n-settled-2 v ↦ rw v.work-is (last_settled ok (omega (arith, v.if-n-settled-2.false)) near-kept)
          ] in
          let carried = late_turn ok late last-kept folds.placed folds.turned again near-due w.carry.ensures.value w.carry.ensures.work_after in
          (rw w.work-is carried.0, (w.due-is ∙ w.min-due.ensures ∙ carried.1, rw w.turn-is (turned_next folds.turned late (omega (arith, folds.turned.inside, w.if-turn-span.false)))))
      | else-late-n w ↦
          let early : n < late_of a.itself g.rank = omega (arith, c.late_from-late.ensures, w.if-late-n.false) in
          (rw w.work-is (kept_before ok early near-kept), (w.due-is ∙ near-due ∙ due_early ok.one_curve n early, rw w.turn-is (turned_early folds.turned early)))
    ] in
    let value-is = ap (λ (w : Walk). w.value.0) folds.walked in
    let equal = sym turn.1.0 ∙ c.if-due-value.false ∙ value-is in
    let placed : Placed (settled_of f g) f.period f.increment (n + 1) c.if-at-settled.at c.if-at-settled.added =
    elim c.if-at-settled.branch [
      | then-at-settled w ↦ rw (w.at-is, w.added-is) (placed_back folds.placed ok.left_period (omega (arith, ok.right_period)) w.if-at-settled.true)
      | else-at-settled w ↦ rw (w.at-is, w.added-is) (placed_next folds.placed (omega (arith, folds.placed.inside, w.if-at-settled.false)))
    ] in
    let walked = walk_next c.args.h.lent folds.walked c.next-walk.ensures (omega (arith, ok.within)) in (
      ap (λ (x : Compared). record { found = x.found; ticks = record { 0 = n + 1 } }) c.ticks.invariant.0,
      (record { kept = turn.0; placed = placed; turned = turn.1.1; walked = walked }, below_more _ _ c.ticks.invariant.1.1 (rw (eq-eqb _ _ equal))),
    )

pub returns-then-due-value : goal.returns-then-due-value
unfolding breaks left_at right_at due
returns-then-due-value c =
    let a = c.args in
    let f : Curve = curve_from (steps_of a.f.held) in
    let g : Curve = curve_from (steps_of a.g.held) in
    let ok : Foldable a.itself f g a.work.now a.tried = c.requires in
    let folds : Folds a.itself f g (steps_of a.h.held) a.work.now c.ticks.work c.ticks.walk c.ticks.n c.ticks.at c.ticks.added c.ticks.turn = c.ticks.invariant.1.0 in
    let n : ℕ = c.ticks.n in
    let near-kept : Holds a.itself f g a.work.now c.if-n-settled.work (min (n + 1) (settled_of f g)) (min n (settled_of f g)) n =
    elim c.if-n-settled.branch [
      | then-n-settled+else-loop-v-test v ↦ rw v.work-is (near_turn ok folds.kept v.if-n-settled.true (elim v.if-reached-start.branch [ then-reached-start u ↦ omega (arith, c.reach-reached.ensures) | else-reached-start u ↦ omega (arith, c.reach-reached.ensures) ]) v.loop-v.invariant v.loop-v-test.false)
      | else-n-settled v ↦ rw v.work-is (near_settled ok (omega (arith, v.if-n-settled.false)) folds.kept)
    ] in
    let near-due : get_or c.if-n-settled.work.near c.ticks.at 0 + c.ticks.added ≡ near_of a.itself f g n = near_is ok folds.placed near-kept in
    let again : leb (c.late_from-late.result + g.period) n ≡ leb (late_of a.itself g.rank + g.period) n = ap (λ (x : ℕ). leb (x + g.period) n) c.late_from-late.ensures in
    let turn : Turn a.itself f g a.work.now c.if-late-n.work n c.if-late-n.due c.if-late-n.turn =
    elim c.if-late-n.branch [
      | then-late-n+then-turn-span w ↦
          let late : late_of a.itself g.rank ≤ n = omega (arith, c.late_from-late.ensures, w.if-late-n.true) in
          let last-kept : Holds a.itself f g a.work.now w.if-n-settled-2.work (min (n + 1) (settled_of f g)) (min (n + 1) (settled_of f g)) n =
          elim w.if-n-settled-2.branch [
            | then-n-settled-2+else-loop-v-then-n-settled-2-test v ↦
                rw v.work-is (last_turn ok late near-kept v.if-n-settled-2.true (elim v.if-reached-count.branch [ then-reached-count u ↦ omega (arith, c.reach-reached.ensures) | else-reached-count u ↦ omega (arith, c.reach-reached.ensures) ]) v.loop-v-then-n-settled-2.invariant v.loop-v-then-n-settled-2-test.false)
            | else-n-settled-2 v ↦ rw v.work-is (last_settled ok (omega (arith, v.if-n-settled-2.false)) near-kept)
          ] in
          let carried = late_turn ok late last-kept folds.placed folds.turned again near-due w.carry.ensures.value w.carry.ensures.work_after in
          (rw w.work-is carried.0, (w.due-is ∙ w.min-due.ensures ∙ carried.1, rw w.turn-is (turned_back folds.turned late w.if-turn-span.true)))
      | then-late-n+else-turn-span w ↦
          let late : late_of a.itself g.rank ≤ n = omega (arith, c.late_from-late.ensures, w.if-late-n.true) in
          let last-kept : Holds a.itself f g a.work.now w.if-n-settled-2.work (min (n + 1) (settled_of f g)) (min (n + 1) (settled_of f g)) n =
          elim w.if-n-settled-2.branch [
            | then-n-settled-2+else-loop-v-then-n-settled-2-test v ↦
                rw v.work-is (last_turn ok late near-kept v.if-n-settled-2.true (elim v.if-reached-count.branch [ then-reached-count u ↦ omega (arith, c.reach-reached.ensures) | else-reached-count u ↦ omega (arith, c.reach-reached.ensures) ]) v.loop-v-then-n-settled-2.invariant v.loop-v-then-n-settled-2-test.false)
            | else-n-settled-2 v ↦ rw v.work-is (last_settled ok (omega (arith, v.if-n-settled-2.false)) near-kept)
          ] in
          let carried = late_turn ok late last-kept folds.placed folds.turned again near-due w.carry.ensures.value w.carry.ensures.work_after in
          (rw w.work-is carried.0, (w.due-is ∙ w.min-due.ensures ∙ carried.1, rw w.turn-is (turned_next folds.turned late (omega (arith, folds.turned.inside, w.if-turn-span.false)))))
      | else-late-n w ↦
          let early : n < late_of a.itself g.rank = omega (arith, c.late_from-late.ensures, w.if-late-n.false) in
          (rw w.work-is (kept_before ok early near-kept), (w.due-is ∙ near-due ∙ due_early ok.one_curve n early, rw w.turn-is (turned_early folds.turned early)))
    ] in
    let value-is = ap (λ (w : Walk). w.value.0) folds.walked in
    found_at _ _ _ _ n turn.1.0 value-is c.ticks.invariant.1.1
    (rw (ne_eqb _ _ (λ same. c.if-due-value.true (turn.1.0 ∙ same ∙ sym value-is)))) (omega arith)

pub returns-after-ticks : goal.returns-after-ticks
unfolding breaks left_at right_at due
returns-after-ticks c =
    let last : c.ticks.n ≡ c.args.tried = omega arith in
    c.ticks.invariant.0 ∙ ap (λ (n : ℕ). record { found = None; ticks = record { 0 = n } }) last ∙ found_nowhere _ _ _ _ c.ticks.n (omega arith) c.ticks.invariant.1.1
