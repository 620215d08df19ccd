-- The search of kind 3: what a tick makes of the splits that are tried.
--
--     settled_of f g          from this tick on no split is tried
--     Foldable                the values of f stand there up to that tick, and g's listed ones; over every split of a
--                             tried tick the sum fits 32 bits; and a curve with itself is one
--     Holds                   what stands in the other arrays
--     LeastUpTo               a loop over splits that begins with v = low: from_first, from_next, from_all; all_tried:
--                             where it ends
--     Folds                   where the search stands before a tick: folds_none
--     split_fits, split_least     a sum over a split, and what a loop over splits ends with
--     near_stored, near_settled, last_stored, last_settled, kept_before, kept_next     what stands in the numbers after
--                             each step of a tick
--     near_is, last_is, carried_is, carries     what is read of it, and that it fits (near_fits, last_fits)
use Prim.Native.Nat.{ℕ, zero, suc, ◌+◌, ◌-◌, ◌*◌, ◌≤◌, ◌<◌, min, max}
use Rattle.std.specs.Prelude.{◌≡◌, Bool, List, get_or, leb}
use Rattle.std.proofs.Math.Path.{sym, ap₂}
use Rattle.std.proofs.Common.{ap, subst, ◌∙◌, arith, le_refl, leb-true, leb-false}
use Rattle.std.proofs.Math.Bool.{true, false}
use Rattle.minplus.specs.Search.{best, best-next, least}
use Rattle.minplus.specs.Folded.{least_from, carried_first, carried-next, carried-most, from_most, from_same}
use Rattle.minplus.specs.Curve.{Curve, value, value_gains, max_units}
use Rattle.minplus.specs.Horizon.{max_horizon}
use Rattle.curve.specs.declared.walks.Walk.{Walk}
use Rattle.curve.specs.Steps.{Steps}
use Rattle.curve.specs.Walks.{walk_at}
use Rattle.splits.specs.declared.Work.{Work}
use Rattle.splits.specs.Parts.{Carries, Kept, Whole, carried_in, carried_put, last_put, near_put, kept_carried, kept_early, kept_last, kept_near, kept_none, kept_skip}
use Rattle.splits.specs.Reach.{OneCurve, carried_of, last_gains, last_of, late_inside, late_soon, late_of, near_gains, near_of, reach_of}
use Rattle.splits.specs.Periods.{Placed, Turned, placed_late, placed_none, placed_soon, placed_value, turned_none}

-- from this tick on no split is tried: T+d + T'+d' - 1
abbrev pub settled_of : Curve → Curve → ℕ
settled_of f g = f.rank + f.period + (g.rank + g.period) - 1

-- the least sums of so many ticks, and what is carried to the tick n
abbrev pub Holds : Bool → Curve → Curve → (base work : Work) (near last n : ℕ) → Type 0
Holds itself f g base work near last n = Kept (near_of itself f g) (last_of itself f g) (carried_of itself f g) (late_of itself g.rank) g.period base work near last n

pub record Foldable (itself : Bool) (f g : Curve) (work : Work) (tried : ℕ) : Type 0 where
  pub one_curve : itself ≡ true → OneCurve f g
  pub left_period : 1 ≤ f.period
  pub right_period : 1 ≤ g.period
  pub left-count : f.rank + f.period ≤ 256
  pub right_count : g.rank + g.period ≤ 256
  pub gain_fits : f.increment ≤ max_units
  pub whole : Whole work
  pub left-listed : (n : ℕ) → n < settled_of f g → get_or work.left n 0 ≡ value f n
  pub right_listed : (v : ℕ) → v < g.rank + g.period → get_or work.right v 0 ≡ value g v
  pub within : tried ≤ max_horizon + 1
  pub sums : (u v : ℕ) → u + v < tried → value f u + value g v < 4_294_967_296

-- ---- a loop over splits

-- m is the least over the splits from low on and before v. By most, it fits wherever the first sum does
pub record LeastUpTo (f g : ℕ → ℕ) (low n v m : ℕ) : Type 0 where
  pub begun : low + 1 ≤ v
  pub most : m ≤ f (n - low) + g low
  pub same : m ≡ least (λ i. f (n - (low + i)) + g (low + i)) (v - low - 1)

pub from_first : (f g : ℕ → ℕ) (low n v m u w : ℕ) → v ≡ low + 1 → u ≡ n - low → w ≡ low → m ≡ f u + g w → LeastUpTo f g low n v m
unfolding best
from_first f g low n v m u w e rest at is =
    let none : v - low - 1 ≡ 0 = omega arith in
    let first : low + 0 ≡ low = omega arith in
    let begun : m ≡ f (n - low) + g low = is ∙ ap₂ (λ (x y : ℕ). f x + g y) rest at in
    record { begun = omega arith; most = omega (arith, begun); same = rw none (begun ∙ ap (λ (x : ℕ). f (n - x) + g x) (sym first)) }

pub from_next : {f g : ℕ → ℕ} {low n v m m' : ℕ} → LeastUpTo f g low n v m → m' ≡ min m (f (n - v) + g v) → LeastUpTo f g low n (v + 1) m'
from_next {f} {g} {low} {n} {v} {m} b is =
    let h : ℕ → ℕ = λ i. f (n - (low + i)) + g (low + i) in
    let here : v + 1 - low - 1 ≡ v - low = omega (arith, b.begun) in
    let place : low + (v - low) ≡ v = omega (arith, b.begun) in
    record {
      begun = omega (arith, b.begun);
      most = omega (arith, b.most);
      same =
          rw here
          (is ∙ ap₂ min b.same (ap (λ (x : ℕ). f (n - x) + g x) (sym place)) ∙ sym (best-next min h (v - low) (omega (arith, b.begun))));
    }

pub from_all : {f g : ℕ → ℕ} {low n v m : ℕ} (k r : ℕ) → LeastUpTo f g low n v m → v - low - 1 ≡ min (r - low) k → m ≡ least_from f g low k r n
unfolding least_from
from_all {f} {g} {low} {n} k r b all = b.same ∙ ap (least (λ i. f (n - (low + i)) + g (low + i))) all

-- a loop that stops before `end` has tried all of low to low + k that are within r
pub all_tried : (low k end r v : ℕ) → low ≤ r → max (low + 1) end ≡ min (low + k + 1) (r + 1) → low + 1 ≤ v → end ≤ v → v ≤ max (low + 1) end
    → v - low - 1 ≡ min (r - low) k
all_tried low k end r v le ends begun past within =
    let last : v ≡ min (low + k + 1) (r + 1) = omega (arith, ends, begun, past, within) in
    omega (arith, le, last)

-- ---- one tick

-- where the search stands before tick n
pub record Folds (itself : Bool) (f g : Curve) (h : Steps) (base work : Work) (walk : Walk) (n at added turn : ℕ) : Type 0 where
  pub kept : Holds itself f g base work (min n (settled_of f g)) (min n (settled_of f g)) n
  pub placed : Placed (settled_of f g) f.period f.increment n at added
  pub turned : Turned (late_of itself g.rank) g.period n turn
  pub walked : walk ≡ walk_at h n

module _ {itself : Bool} {f g : Curve} {base : Work} {tried : ℕ} (ok : Foldable itself f g base tried) where
  pub folds_none : {h : Steps} {walk : Walk} → walk ≡ walk_at h 0 → Folds itself f g h base base walk 0 0 0 0
  folds_none begun = record {
    kept =
        let none : 0 ≡ min 0 (settled_of f g) = omega arith in
        subst (λ (k : ℕ). Holds itself f g base base k k 0) none
        (kept_none _ _ _ (late_of itself g.rank) g.period base ok.whole);
    placed = placed_none (settled_of f g) f.period f.increment (omega (arith, ok.left_period, ok.right_period));
    turned = turned_none (late_of itself g.rank) g.period ok.right_period;
    walked = begun;
  }

  -- the two tables
  module _ {work : Work} {near last n : ℕ} (kept : Holds itself f g base work near last n) where
    left_is : (m : ℕ) → m < settled_of f g → get_or work.left m 0 ≡ value f m
    left_is m lt = ap (λ (l : List ℕ). get_or l m 0) kept.left_same ∙ ok.left-listed m lt

    right_is : (v : ℕ) → v < g.rank + g.period → get_or work.right v 0 ≡ value g v
    right_is v lt = ap (λ (l : List ℕ). get_or l v 0) kept.right_same ∙ ok.right_listed v lt

    pub split_fits : (m v : ℕ) → m < settled_of f g → v < g.rank + g.period → m + v < tried → get_or work.left m 0 + get_or work.right v 0 < 4_294_967_296
    split_fits m v lt listed inside = omega (arith, left_is m lt, right_is v listed, ok.sums m v inside)

    -- what a loop over splits ends with
    pub split_least : {low m v : ℕ} (k r : ℕ) → LeastUpTo (λ i. get_or work.left i 0) (λ i. get_or work.right i 0) low n v m
        → low + k < g.rank + g.period → n < settled_of f g → v - low - 1 ≡ min (r - low) k → m ≡ least_from (value f) (value g) low k r n
    split_least {low} k r b listed early all =
        from_all k r b all
        ∙ from_same _ _ (value f) (value g) low k r n (λ m le. left_is m (omega (arith, le, early))) (λ v le. right_is v (omega (arith, le, listed)))

  -- as much of each table stands there as ticks are past, up to the settled one
  module _ {work : Work} {n : ℕ} where
    pub near_stored : {last x : ℕ} → n < settled_of f g → Holds itself f g base work (min n (settled_of f g)) last n
        → x ≡ near_of itself f g n
        → Holds itself f g base (near_put work n x) (min (n + 1) (settled_of f g)) last n
    near_stored {last} {x} early kept is =
        let here : min n (settled_of f g) ≡ n = omega (arith, early) in
        let next : n + 1 ≡ min (n + 1) (settled_of f g) = omega (arith, early) in
        subst (λ (k : ℕ). Holds itself f g base (near_put work n x) k last n) next
        (kept_near (subst (λ (k : ℕ). Holds itself f g base work k last n) here kept)
        (omega (arith, early, ok.left-count, ok.right_count)) is)

    pub near_settled : {last : ℕ} → settled_of f g ≤ n → Holds itself f g base work (min n (settled_of f g)) last n
        → Holds itself f g base work (min (n + 1) (settled_of f g)) last n
    near_settled {last} past kept =
        let still : min n (settled_of f g) ≡ min (n + 1) (settled_of f g) = omega (arith, past) in
        subst (λ (k : ℕ). Holds itself f g base work k last n) still kept

    pub last_stored : {x : ℕ} → n < settled_of f g
        → Holds itself f g base work (min (n + 1) (settled_of f g)) (min n (settled_of f g)) n
        → x ≡ last_of itself f g n
        → Holds itself f g base (last_put work n x) (min (n + 1) (settled_of f g)) (min (n + 1) (settled_of f g)) n
    last_stored {x} early kept is =
        let near : ℕ = min (n + 1) (settled_of f g) in
        let here : min n (settled_of f g) ≡ n = omega (arith, early) in
        let next : n + 1 ≡ min (n + 1) (settled_of f g) = omega (arith, early) in
        subst (λ (k : ℕ). Holds itself f g base (last_put work n x) near k n) next
        (kept_last (subst (λ (k : ℕ). Holds itself f g base work near k n) here kept)
        (omega (arith, early, ok.left-count, ok.right_count)) is)

    pub last_settled : {near : ℕ} → settled_of f g ≤ n → Holds itself f g base work near (min n (settled_of f g)) n
        → Holds itself f g base work near (min (n + 1) (settled_of f g)) n
    last_settled {near} past kept =
        let still : min n (settled_of f g) ≡ min (n + 1) (settled_of f g) = omega (arith, past) in
        subst (λ (k : ℕ). Holds itself f g base work near k n) still kept

    -- a tick without splits from g's rank on has no last, and nothing is carried to it
    pub kept_before : {near : ℕ} → n < late_of itself g.rank → Holds itself f g base work near (min n (settled_of f g)) n
        → Holds itself f g base work near (min (n + 1) (settled_of f g)) (n + 1)
    kept_before {near} early kept =
        let here : min n (settled_of f g) + 1 ≡ min (n + 1) (settled_of f g) = omega (arith, early, late_soon ok.one_curve ok.right_period, ok.left_period) in
        subst (λ (k : ℕ). Holds itself f g base work near k (n + 1)) here
        (kept_early (kept_skip kept (omega (arith, early))) early)

  -- what is read of a tick's splits
  module _ {work : Work} {n at added : ℕ} (placed : Placed (settled_of f g) f.period f.increment n at added) where
    pub near_is : {last : ℕ} → Holds itself f g base work (min (n + 1) (settled_of f g)) last n
        → get_or work.near at 0 + added ≡ near_of itself f g n
    near_is kept =
        ap (λ (x : ℕ). x + added) (kept.near_kept at (omega (arith, placed.inside, placed_soon placed)))
        ∙ sym (placed_value placed (near_gains ok.one_curve ok.left_period) (omega (arith, ok.right_period)))

    pub last_is : {near : ℕ} → Holds itself f g base work near (min (n + 1) (settled_of f g)) n
        → late_of itself g.rank ≤ n → get_or work.last at 0 + added ≡ last_of itself f g n
    last_is kept late =
        ap (λ (x : ℕ). x + added)
        (kept.last_kept at (placed_late placed (late_of itself g.rank) late (omega (arith, late_soon ok.one_curve ok.right_period, ok.right_period))) (omega (arith, placed.inside, placed_soon placed)))
        ∙ sym (placed_value placed (last_gains ok.one_curve ok.left_period) (omega (arith, ok.right_period)))

  pub near_fits : (n : ℕ) → n < tried → near_of itself f g n < 4_294_967_296
  near_fits n lt = let all : n - 0 ≡ n = omega arith in omega (arith, from_most (value f) (value g) 0 (g.rank - 1) (reach_of itself n) n, ap (value f) all, ok.sums n 0 (omega (arith, lt)))

  last_fits : (n : ℕ) → late_of itself g.rank ≤ n → n < tried → last_of itself f g n < 4_294_967_296
  last_fits n late lt = omega (arith, from_most (value f) (value g) g.rank (g.period - 1) (reach_of itself n) n, ok.sums (n - g.rank) g.rank (omega (arith, late_inside itself g.rank n late, lt)))

  -- a tick that has splits from g's rank on
  module _ {work : Work} {near n at added turn : ℕ} (late : late_of itself g.rank ≤ n)
      (kept : Holds itself f g base work near (min (n + 1) (settled_of f g)) n)
      (placed : Placed (settled_of f g) f.period f.increment n at added) (turned : Turned (late_of itself g.rank) g.period n turn) where
    -- what was a period before stands where this tick's will
    before_is : late_of itself g.rank + g.period ≤ n → get_or work.carried turn 0 ≡ carried_of itself f g (n - g.period)
    before_is full = let r = turned.rounds late in go r.0 r.1
      where
        go : (J : ℕ) → n ≡ late_of itself g.rank + J * g.period + turn → get_or work.carried turn 0 ≡ carried_of itself f g (n - g.period)
        go zero here = absurd (omega (arith, here, full, turned.inside))
        go (suc j) here =
            let back : late_of itself g.rank + j * g.period + turn ≡ n - g.period = omega (arith, here) in
            kept.carried_kept j turn turned.inside (omega (arith, here, ok.right_period)) (omega (arith, here))
            ∙ ap (carried_of itself f g) back

    pub carried_is : (again : Bool) → again ≡ leb (late_of itself g.rank + g.period) n
        → carried_in work at added turn g.increment again ≡ carried_of itself f g n
    unfolding carried_in
    carried_is true e =
        ap₂ (λ (x y : ℕ). min x (y + g.increment)) (last_is placed kept late) (before_is (leb-true _ _ (sym e)))
        ∙ sym (carried-next (last_of itself f g) (late_of itself g.rank) g.period g.increment n ok.right_period (leb-true _ _ (sym e)))
    carried_is false e =
        last_is placed kept late
        ∙ sym (carried_first (last_of itself f g) (late_of itself g.rank) g.period g.increment n (leb-false _ _ (sym e)))

    pub carries : (again : Bool) → again ≡ leb (late_of itself g.rank + g.period) n → n < tried → Carries work at added turn g.increment again
    carries again e lt = record {
      at_inside = omega (arith, placed.inside, ok.left-count, ok.right_count);
      turn_inside = omega (arith, turned.inside, ok.right_count);
      last_fits = omega (arith, last_is placed kept late, last_fits n late lt);
      earlier_fits = λ is.
          let full : late_of itself g.rank + g.period ≤ n = leb-true _ _ (sym e ∙ is) in
          let back : ℕ = n - g.period in
          omega (
            arith,
            before_is full,
            carried-most (last_of itself f g) (late_of itself g.rank) g.period g.increment back,
            from_most (value f) (value g) g.rank (g.period - 1) (reach_of itself back) back,
            (value_gains g ok.right_period).gain g.rank (le_refl g.rank),
            ok.sums (back - g.rank) (g.rank + g.period) (omega (arith, full, lt, late_inside itself g.rank back (omega (arith, full)))),
          );
    }

    pub kept_next : {x : ℕ} (again : Bool) → again ≡ leb (late_of itself g.rank + g.period) n → x ≡ carried_in work at added turn g.increment again
        → Holds itself f g base (carried_put work turn x) near (min (n + 1) (settled_of f g)) (n + 1)
    kept_next again e is =
        let r = turned.rounds late in
        kept_carried kept r.0 turn (omega (arith, ok.right_count)) turned.inside r.1 (is ∙ carried_is again e)
