use Prim.Native.Nat.{ℕ, ◌+◌, ◌≤◌, ◌<◌}
use mathlib.Core.Bool.{Bool}
use mathlib.Core.Path.{◌≡◌, refl, sym, ap, ap₂, ◌∙◌}
use native.Mathlib.Omega.{arith}
use borrow.Author.Count.{below_more, below_none}
use borrow.Author.Tests.{eq-eqb, ne_eqb}
use Rattle.std.proofs.Common.{rules}
use Rattle.minplus.specs.Curve.{value, value_at_most}
use Rattle.minplus.specs.Claim.{due}
use Rattle.minplus.specs.Verdict.{breaks, left_at, right_at}
use Rattle.curve.specs.declared.walks.Walk.{Walk}
use Rattle.curve.specs.Steps.{Steps, Lent, curve_from}
use Rattle.curve.specs.Held.{steps_of}
use Rattle.curve.specs.Walks.{most, walk_at, walk_able, walk_next, walk_starts}
use Rattle.search.specs.Found.{found_at, found_nowhere}
use Rattle.search.specs.Beside.{beside_at, beside_of, beside_due}
use Rattle.minplus.specs.Horizon.{max_horizon}
use Rattle.search.proofs.results.first_by.Goals as goal

-- the two values of a tick fit 64 bits, added
sum_fits : {F G : Steps} → Lent F → Lent G → (n tried : ℕ) {v w : Walk} → tried ≤ max_horizon + 1 → v ≡ walk_at F n → w ≡ walk_at G n → n < tried
    → v.value.0 + w.value.0 ≤ most
sum_fits {F} {G} f g n tried {v} {w} within left right lt =
    omega (
      arith,
      ap (λ (x : Walk). x.value.0) left,
      ap (λ (x : Walk). x.value.0) right,
      value_at_most (curve_from F) f.well n,
      value_at_most (curve_from G) g.well n,
      within,
    )

-- what is due at a turn
due_is : (F G : Steps) (n : ℕ) (minimum : Bool) {v w : Walk} {r : ℕ} → r ≡ beside_at minimum v.value.0 w.value.0 → v ≡ walk_at F n → w ≡ walk_at G n
    → r ≡ due (beside_of minimum) (value (curve_from F)) (value (curve_from G)) n
due_is F G n minimum is left right =
    is ∙ ap₂ (λ (x y : Walk). beside_at minimum x.value.0 y.value.0) left right ∙ beside_due minimum (value (curve_from F)) (value (curve_from G)) n

pub loop-n-init : goal.loop-n-init
loop-n-init g c =
    let a = c.args in (
      (
        c.start-one.ensures ∙ walk_starts (steps_of a.f.held) a.f.lent.well,
        (c.start-other.ensures ∙ walk_starts (steps_of a.g.held) a.g.lent.well, c.start-said.ensures ∙ walk_starts (steps_of a.h.held) a.h.lent.well),
      ),
      (refl, λ minimum gives. below_none _),
    )

pub beside-due-requires : goal.beside-due-requires
beside-due-requires g c =
    let l = c.loop-n in
    let fits : l.one.value.0 + l.other.value.0 ≤ most = sum_fits c.args.f.lent c.args.g.lent l.n _ c.requires.within l.invariant.0.0 l.invariant.0.1.0 (omega arith) in
    search (rules, c.requires.takes _ _ fits)

pub next-one-requires : goal.next-one-requires
next-one-requires g c = rw c.loop-n.invariant.0.0 (walk_able c.args.f.lent c.loop-n.n (omega (arith, c.requires.within)))

pub next-other-requires : goal.next-other-requires
next-other-requires g c = rw c.loop-n.invariant.0.1.0 (walk_able c.args.g.lent c.loop-n.n (omega (arith, c.requires.within)))

pub next-said-requires : goal.next-said-requires
next-said-requires g c = rw c.loop-n.invariant.0.1.1 (walk_able c.args.h.lent c.loop-n.n (omega (arith, c.requires.within)))

pub loop-n-preserved : goal.loop-n-preserved
unfolding breaks left_at right_at
loop-n-preserved g c =
    let l = c.loop-n in
    let walks = l.invariant.0 in (
      (
        walk_next c.args.f.lent walks.0 c.next-one.ensures (omega (arith, c.requires.within)),
        (walk_next c.args.g.lent walks.1.0 c.next-other.ensures (omega (arith, c.requires.within)), walk_next c.args.h.lent walks.1.1 c.next-said.ensures (omega (arith, c.requires.within))),
      ),
      (
        refl,
        λ minimum gives.
            let fits : l.one.value.0 + l.other.value.0 ≤ most = sum_fits c.args.f.lent c.args.g.lent l.n _ c.requires.within walks.0 walks.1.0 (omega arith) in
            let is = due_is _ _ _ minimum (gives _ _ _ fits c.beside-due.ensures) walks.0 walks.1.0 in
            below_more _ _ (l.invariant.1.1 minimum gives) (rw (eq-eqb _ _ (sym is ∙ c.if-due-value.false ∙ ap (λ (w : Walk). w.value.0) walks.1.1))),
      ),
    )

pub returns-then-due-value : goal.returns-then-due-value
unfolding breaks left_at right_at
returns-then-due-value g c =
    let l = c.loop-n in
    let walks = l.invariant.0 in
    λ minimum gives.
    let fits : l.one.value.0 + l.other.value.0 ≤ most = sum_fits c.args.f.lent c.args.g.lent l.n _ c.requires.within walks.0 walks.1.0 (omega arith) in
    let e = due_is _ _ _ minimum (gives _ _ _ fits c.beside-due.ensures) walks.0 walks.1.0 in
    let value-is = ap (λ (w : Walk). w.value.0) walks.1.1 in
    found_at _ _ _ _ l.n e value-is (l.invariant.1.1 minimum gives)
    (rw (ne_eqb _ _ (λ same. c.if-due-value.true (e ∙ same ∙ sym value-is)))) (omega arith)

pub returns : goal.returns
unfolding breaks left_at right_at
returns g c =
    let l = c.loop-n in
    let last : l.n ≡ c.args.tried = omega arith in
    λ minimum gives. rw (l.invariant.1.0 ∙ ap (λ (n : ℕ). record { 0 = n }) last) (found_nowhere _ _ _ _ l.n (omega arith) (l.invariant.1.1 minimum gives))
