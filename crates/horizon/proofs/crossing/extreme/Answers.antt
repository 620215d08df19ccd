use Prim.Native.Nat.{ℕ, ◌+◌, ◌-◌, ◌*◌, ◌≤◌, ◌<◌}
use mathlib.Core.Path.{◌≡◌, sym, ap, ap₂, ◌∙◌}
use native.Mathlib.Omega.{arith}
use native.Mathlib.Nat.{mul-le-mul}
use Rattle.minplus.specs.Search.{best, best-next}
use Rattle.minplus.specs.Curve.{value}
use Rattle.minplus.specs.Horizon.{extreme_of, raised_at}
use Rattle.curve.specs.declared.walks.Walk.{Walk}
use Rattle.curve.specs.Steps.{Steps, Lent, curve_from}
use Rattle.curve.specs.Held.{steps_of}
use Rattle.curve.specs.Walks.{next_walk, walk_at, walk_by, walk_able, walk_begins, walk_next}
use Rattle.horizon.specs.Reach.{Extent, Raisable, raisable}
use Rattle.horizon.proofs.crossing.extreme.Goals as goal

-- where the walk begins, and a turn of it
module _ {s : Steps} {d c start count : ℕ} (lent : Lent s) (over : Extent d c start count) where
  begins : {w : Walk} → w ≡ walk_by s start → w ≡ walk_at s (start + 0)
  begins is = let here : start ≡ start + 0 = omega arith in is ∙ walk_begins s lent.well start (omega (arith, over.room)) ∙ ap (walk_at s) here

  turns : {v w : Walk} (i : ℕ) → 1 ≤ i → i < count → v ≡ walk_at s (start + (i - 1)) → w ≡ next_walk s v → w ≡ walk_at s (start + i)
  turns i some lt here on =
      let there : start + (i - 1) + 1 ≡ start + i = omega arith in
      walk_next lent here on (omega (arith, over.room)) ∙ ap (walk_at s) there

  fits : {w : Walk} (i : ℕ) → i < count → w ≡ walk_at s (start + i) → Raisable w.value.0 d c (count - i)
  fits i lt is = raisable lent over (start + i) (omega arith) (ap (λ (w : Walk). w.value.0) is) (omega arith)

pub raised-kept-requires : goal.raised-kept-requires
raised-kept-requires g c = let e : c.args.count - 0 ≡ c.args.count = omega arith in let pre = c.requires.1.0 in rw e at (fits c.args.f.lent pre 0 (omega (arith, pre.some)) (begins c.args.f.lent pre c.at-walk.ensures))

pub loop-i-init : goal.loop-i-init
unfolding best
loop-i-init g c =
    let all : c.args.count ≡ c.args.count - 0 = omega arith in
    let is = begins c.args.f.lent c.requires.1.0 c.at-walk.ensures in record {
      walk = is;
      kept = c.raised-kept.ensures.value ∙ ap₂ (λ (w : Walk) (n : ℕ). c.args.rate.period * w.value.0 + c.args.rate.increment * n) is all;
      fits = c.raised-kept.ensures.upper_bound;
    }

pub next-walk-requires : goal.next-walk-requires
next-walk-requires g c =
    let a = c.args in
    rw c.loop-i.invariant.walk (walk_able c.args.f.lent (a.start.0 + (c.loop-i.i - 1)) (omega (arith, c.requires.1.0.room)))

pub raised-requires : goal.raised-requires
raised-requires g c =
    let pre = c.requires.1.0 in
    fits c.args.f.lent pre c.loop-i.i (omega arith) (turns c.args.f.lent pre c.loop-i.i (omega arith) (omega arith) c.loop-i.invariant.walk c.next-walk.ensures)

pub loop-i-preserved : goal.loop-i-preserved
loop-i-preserved g c =
    let pre = c.requires.1.0 in
    let i = c.loop-i.i in
    let same : i + 1 - 1 ≡ i = omega arith in
    let on = turns c.args.f.lent pre i (omega arith) (omega arith) c.loop-i.invariant.walk c.next-walk.ensures in
    let a = c.args in
    let h = raised_at (value (curve_from (steps_of a.f.held))) a.rate.period a.rate.increment a.start.0 a.count in
    let raised : c.raised.result ≡ h i = c.raised.ensures.value ∙ ap (λ (w : Walk). a.rate.period * w.value.0 + a.rate.increment * (a.count - i)) on in
    let chosen : c.choose-kept.result ≡ g.choice c.loop-i.kept c.raised.result = c.requires.1.1.1.0 _ _ _ c.choose-kept.ensures in
    rw same (record {
      walk = on;
      kept = chosen ∙ ap₂ g.choice c.loop-i.invariant.kept raised ∙ sym (best-next g.choice h i (omega arith));
      fits = rw chosen (c.requires.1.1.1.1 _ _ c.loop-i.invariant.fits c.raised.ensures.upper_bound);
    })

pub returns-clause-result_value : goal.returns-clause-result_value
unfolding extreme_of
returns-clause-result_value g c =
    let end : c.loop-i.i - 1 ≡ c.args.count - 1 = omega (arith, c.loop-i.auto.i-end c.requires.1.0.some) in
    let a = c.args in
    ap (λ (p : ℕ). record { plus = p; minus = a.rate.increment * (a.start.0 + a.count) })
    (c.loop-i.invariant.kept ∙ ap (best g.choice (raised_at (value (curve_from (steps_of a.f.held))) a.rate.period a.rate.increment a.start.0 a.count)) end)

pub returns-clause-small : goal.returns-clause-small
returns-clause-small g c =
    let pre = c.requires.1.0 in
    record { plus_fits = c.loop-i.invariant.fits; minus_fits = omega (arith, mul-le-mul pre.slope_fits pre.room) }
