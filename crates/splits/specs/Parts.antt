-- What the search of kind 3 works in, and what stands there at a tick.
--
--     no_work                 as it is made: 0 in every place
--     Whole                   each array has its places
--     near_put, last_put, carried_put     one number stored
--     listed_over             so many of a function's values at the front of a list (part_length): listed-length,
--                             listed_inside
--     Carries, carried_in     one number that is carried, from the others, and what it asks
--     Kept N L C t e          what stands in the arrays at a tick: values of N, and from the tick t on of L and, for
--                             one round of e ticks, of C: kept_none, kept_near, kept_last, kept_skip, kept_early,
--                             kept_carried: as it begins, and after each store or where there is none
use Prim.Native.Nat.{ℕ, suc, ◌+◌, ◌*◌, ◌≤◌, ◌<◌, min}
use Rattle.std.specs.Prelude.{◌≡◌, refl, Bool, true, false, ◌⊎◌, replicate, set, take}
use Rattle.std.proofs.Common.{sym, ◌∙◌, inl, inr, ⊎_elim, mul-le-mul_right, length-set, get_or-set_same, get_or-set_other, length-take-le, below_more}
use Rattle.std.proofs.Math.Path.{ap}
use mathlib.Core.List.{List, ◌++◌}
use native.Mathlib.Omega.{arith}
use Rattle.std.proofs.Math.Decide.{dec_le}
use Rattle.std.proofs.Math.ListN.{length, get_or, drop, length-append, length-drop, get_or-append}
use Rattle.curve.specs.Table.{table_over, table_length}
use Rattle.splits.specs.declared.Work.{Work}

unfoldable pub no_work : Work
no_work = record { left = replicate 512 0; right = replicate 256 0; near = replicate 512 0; last = replicate 512 0; carried = replicate 256 0 }

pub record Whole (w : Work) : Type 0 where
  pub left_long : length w.left ≡ 512
  pub right_long : length w.right ≡ 256
  pub near_long : length w.near ≡ 512
  pub last_long : length w.last ≡ 512
  pub carried_long : length w.carried ≡ 256

abbrev pub near_put : Work → ℕ → ℕ → Work
near_put w k x = record { left = w.left; right = w.right; near = set w.near k x; last = w.last; carried = w.carried }

abbrev pub last_put : Work → ℕ → ℕ → Work
last_put w k x = record { left = w.left; right = w.right; near = w.near; last = set w.last k x; carried = w.carried }

abbrev pub carried_put : Work → ℕ → ℕ → Work
carried_put w k x = record { left = w.left; right = w.right; near = w.near; last = w.last; carried = set w.carried k x }

-- so many of a function's values at the front of a list
unfoldable pub listed_over : (ℕ → ℕ) → ℕ → List ℕ → List ℕ
unfolding table_over
listed_over F count s = table_over F (take count s) ++ drop count s

-- what the numbers make of a tick that has splits from g's rank on
unfoldable pub carried_in : Work → ℕ → ℕ → ℕ → ℕ → Bool → ℕ
carried_in work at added turn gain again =
    let last : ℕ = get_or work.last at 0 + added in
    elim again as (λ _. ℕ) [ true ↦ min last (get_or work.carried turn 0 + gain) | false ↦ last ]

pub record Carries (work : Work) (at added turn gain : ℕ) (again : Bool) : Type 0 where
  pub at_inside : at < 512
  pub turn_inside : turn < 256
  pub last_fits : get_or work.last at 0 + added < 4_294_967_296
  pub earlier_fits : again ≡ true → get_or work.carried turn 0 + gain < 4_294_967_296

-- ---- values at the front of a list

module _ (F : ℕ → ℕ) (count : ℕ) (s : List ℕ) (fits : count ≤ length s) where
  pub part_length : length (take count s) ≡ count
  part_length = length-take-le count s fits

  pub listed-length : length (listed_over F count s) ≡ length s
  unfolding listed_over
  listed-length =
      omega (
        arith,
        fits,
        length-append (table_over F (take count s)) (drop count s),
        table_length F (take count s),
        part_length,
        length-drop count s,
      )

  pub listed_inside : (n : ℕ) → n < count → get_or (listed_over F count s) n 0 ≡ get_or (table_over F (take count s)) n 0
  unfolding listed_over
  listed_inside n lt = get_or-append (table_over F (take count s)) (drop count s) 0 n (omega (arith, table_length F (take count s), part_length, lt))

-- ---- what stands in the arrays

pub record Kept (N L C : ℕ → ℕ) (t e : ℕ) (base work : Work) (near last n : ℕ) : Type 0 where
  pub left_same : work.left ≡ base.left
  pub right_same : work.right ≡ base.right
  pub whole : Whole work
  pub near_kept : (k : ℕ) → k < near → get_or work.near k 0 ≡ N k
  pub last_kept : (k : ℕ) → t ≤ k → k < last → get_or work.last k 0 ≡ L k
  pub carried_kept : (j p : ℕ) → p < e → t + j * e + p < n → n ≤ t + j * e + p + e → get_or work.carried p 0 ≡ C (t + j * e + p)

pub kept_none : (N L C : ℕ → ℕ) (t e : ℕ) (base : Work) → Whole base → Kept N L C t e base base 0 0 0
kept_none N L C t e base whole = record {
  left_same = refl;
  right_same = refl;
  whole = whole;
  near_kept = λ k lt. absurd (omega (arith, lt));
  last_kept = λ k le lt. absurd (omega (arith, lt));
  carried_kept = λ j p inside lt le. absurd (omega (arith, lt));
}

-- two ticks in one place of g's period and less than a period apart are one tick
same_round : (j J e : ℕ) → j * e ≤ J * e → J * e < j * e + e → j ≡ J
same_round j J e le lt = elim (dec_le (suc j) J) [
  | yes less ↦ absurd (omega (arith, lt, mul-le-mul_right e less))
  | no not-less ↦ elim (dec_le (suc J) j) [
    | yes more ↦ absurd (omega (arith, le, lt, mul-le-mul_right e more))
    | no not_more ↦ omega (arith, not-less, not_more)
  ]
]

-- and one tick has one place there
same_place : (j J p q e : ℕ) → p < e → q < e → j * e + p ≡ J * e + q → p ≡ q
same_place j J p q e inside inside' same = elim (dec_le (suc j) J) [
  | yes less ↦ absurd (omega (arith, same, inside, mul-le-mul_right e less))
  | no not-less ↦ elim (dec_le (suc J) j) [
    | yes more ↦ absurd (omega (arith, same, inside', mul-le-mul_right e more))
    | no not_more ↦ let one : j ≡ J = omega (arith, not-less, not_more) in omega (arith, same, ap (λ (x : ℕ). x * e) one)
  ]
]

same_or : (p q : ℕ) → (p ≡ q) ⊎ (¬ (p ≡ q))
same_or p q = elim (dec_le p q) [
  | yes le ↦ elim (dec_le q p) [ yes ge ↦ inl (omega (arith, le, ge)) | no lt ↦ inr (λ e. omega (arith, e, lt)) ]
  | no gt ↦ inr (λ e. omega (arith, e, gt))
]

module _ {N L C : ℕ → ℕ} {t e : ℕ} {base work : Work} {near last n : ℕ} (kept : Kept N L C t e base work near last n) where
  pub kept_near : {x : ℕ} → near < 512 → x ≡ N near → Kept N L C t e base (near_put work near x) (near + 1) last n
  kept_near {x} lt is = record {
    left_same = kept.left_same;
    right_same = kept.right_same;
    whole = record {
      left_long = kept.whole.left_long;
      right_long = kept.whole.right_long;
      near_long = length-set work.near near x ∙ kept.whole.near_long;
      last_long = kept.whole.last_long;
      carried_long = kept.whole.carried_long;
    };
    near_kept =
        below_more (λ k. get_or (set work.near near x) k 0 ≡ N k) near
        (λ k less. get_or-set_other work.near near k x 0 (λ same. omega (arith, same, less)) ∙ kept.near_kept k less)
        (get_or-set_same work.near near x 0 (omega (arith, lt, kept.whole.near_long)) ∙ is);
    last_kept = kept.last_kept;
    carried_kept = kept.carried_kept;
  }

  pub kept_last : {x : ℕ} → last < 512 → x ≡ L last → Kept N L C t e base (last_put work last x) near (last + 1) n
  kept_last {x} lt is = record {
    left_same = kept.left_same;
    right_same = kept.right_same;
    whole = record {
      left_long = kept.whole.left_long;
      right_long = kept.whole.right_long;
      near_long = kept.whole.near_long;
      last_long = length-set work.last last x ∙ kept.whole.last_long;
      carried_long = kept.whole.carried_long;
    };
    near_kept = kept.near_kept;
    last_kept = λ k le less.
        below_more (λ k. t ≤ k → get_or (set work.last last x) k 0 ≡ L k) last
        (λ k less le. get_or-set_other work.last last k x 0 (λ same. omega (arith, same, less)) ∙ kept.last_kept k le less)
        (λ le. get_or-set_same work.last last x 0 (omega (arith, lt, kept.whole.last_long)) ∙ is) k less le;
    carried_kept = kept.carried_kept;
  }

  -- a tick before t has no last
  pub kept_skip : last < t → Kept N L C t e base work near (last + 1) n
  kept_skip early = record {
    left_same = kept.left_same;
    right_same = kept.right_same;
    whole = kept.whole;
    near_kept = kept.near_kept;
    last_kept = λ k le less. absurd (omega (arith, early, le, less));
    carried_kept = kept.carried_kept;
  }

  pub kept_early : n < t → Kept N L C t e base work near last (n + 1)
  kept_early early = record {
    left_same = kept.left_same;
    right_same = kept.right_same;
    whole = kept.whole;
    near_kept = kept.near_kept;
    last_kept = kept.last_kept;
    carried_kept = λ j p inside less le. absurd (omega (arith, early, less));
  }

  pub kept_carried : {x : ℕ} (J q : ℕ) → e ≤ 256 → q < e → n ≡ t + J * e + q → x ≡ C n → Kept N L C t e base (carried_put work q x) near last (n + 1)
  kept_carried {x} J q narrow inside here is = record {
    left_same = kept.left_same;
    right_same = kept.right_same;
    whole = record {
      left_long = kept.whole.left_long;
      right_long = kept.whole.right_long;
      near_long = kept.whole.near_long;
      last_long = kept.whole.last_long;
      carried_long = length-set work.carried q x ∙ kept.whole.carried_long;
    };
    near_kept = kept.near_kept;
    last_kept = kept.last_kept;
    carried_kept = λ j p within less le.
        ⊎_elim
        (λ same.
        let less' : t + j * e + q < n + 1 = omega (arith, less, same) in
        let le' : n + 1 ≤ t + j * e + q + e = omega (arith, le, same) in
        let round : j ≡ J = same_round j J e (omega (arith, less', here)) (omega (arith, le', here)) in
        let tick : t + j * e + q ≡ n = omega (arith, here, ap (λ (y : ℕ). y * e) round) in
        ap (λ (y : ℕ). get_or (set work.carried q x) y 0) same
        ∙ get_or-set_same work.carried q x 0 (omega (arith, narrow, inside, kept.whole.carried_long))
        ∙ is ∙ ap C (sym tick) ∙ ap (λ (y : ℕ). C (t + j * e + y)) (sym same))
        (λ other.
        let not-here : ¬ (t + j * e + p ≡ n) = λ same. other (same_place j J p q e within inside (omega (arith, same, here))) in
        get_or-set_other work.carried q p x 0 (λ same. other (omega (arith, same)))
        ∙ kept.carried_kept j p within (omega (arith, less, not-here)) (omega (arith, le)))
        (same_or p q);
  }
