use Prim.Native.Nat.{ℕ}
use mathlib.Core.Path.{◌≡◌, sym, ap, ◌∙◌}
use mathlib.Core.Option.{Option}
use native.Mathlib.Omega.{arith}
use Rattle.std.proofs.lemmas.Result.{err_from_is_err_and}
use Rattle.minplus.specs.Claim.{Kind, result, bound, sum, minimum, convolution, delay, backlog, at_most, exactly, kind_number, kind_none}
use Rattle.std.specs.Prelude.{Result}
use Rattle.std.specs.Result.{result_map_both}
use Rattle.curve.specs.declared.Claim.{Claim}
use Rattle.curve.specs.declared.ClaimError.{ClaimError}
use Rattle.curve.specs.declared.Claim.TheVariants.{AtMost, Exactly}
use Rattle.curve.specs.declared.Deviation.TheVariants.{Delay, Backlog}
use Rattle.curve.specs.Kinds.{named_by, named_as, limited_by, within, limited-within}
use Rattle.curve.proofs.Claim.new.Goals as goal

-- an X that is within its limit, and one that is too large
limited_is : (F : ℕ → Claim) (x : ℕ) (r : Result ℕ ClaimError) → r ≡ within x → result_map_both F (λ e. e) r ≡ limited_by x (F x)
limited_is F x r is = ap (result_map_both F (λ e. e)) is ∙ limited-within F x

pub returns-in-1 : goal.returns-in-1
unfolding named_by
returns-in-1 c = rw c.in-1.is

pub returns-in-2 : goal.returns-in-2
unfolding named_by
returns-in-2 c = rw c.in-2.is

pub returns-in-3 : goal.returns-in-3
unfolding named_by
returns-in-3 c = rw c.in-3.is

pub returns-in_default : goal.returns-in_default
unfolding named_by kind_number
returns-in_default c =
    ap (λ (κ : Option Kind). named_as κ c.args.x) (sym (kind_none c.args.kind other))
  where
    other : (κ : Kind) → ¬ (c.args.kind ≡ kind_number κ)
    other (result sum) = λ e. omega (arith, e)
    other (result minimum) = λ e. omega (arith, e)
    other (result convolution) = λ e. omega (arith, e)
    other (bound delay at_most) = λ e. omega (arith, e)
    other (bound delay exactly) = λ e. omega (arith, e)
    other (bound backlog at_most) = λ e. omega (arith, e)
    other (bound backlog exactly) = λ e. omega (arith, e)

pub returns-in_ok-within-in-4 : goal.returns-in_ok-within-in-4
unfolding named_by
returns-in_ok-within-in-4 c = rw c.in-4.is (limited_is (λ (y : ℕ). AtMost (Delay (record { 0 = y }))) c.args.x _ c.in_ok-within-in-4.ensures)

pub returns-in_err-within-in-4 : goal.returns-in_err-within-in-4
unfolding named_by
returns-in_err-within-in-4 c =
    let p = err_from_is_err_and c.from_residual.result c.from_residual.ensures.1 in
    rw (p.1, p.2, c.in-4.is) (limited_is (λ (y : ℕ). AtMost (Delay (record { 0 = y }))) c.args.x _ c.in_err-within-in-4.ensures)

pub returns-in_ok-within-in-5 : goal.returns-in_ok-within-in-5
unfolding named_by
returns-in_ok-within-in-5 c = rw c.in-5.is (limited_is (λ (y : ℕ). Exactly (Delay (record { 0 = y }))) c.args.x _ c.in_ok-within-in-5.ensures)

pub returns-in_err-within-in-5 : goal.returns-in_err-within-in-5
unfolding named_by
returns-in_err-within-in-5 c =
    let p = err_from_is_err_and c.from_residual-in_err-within-in-5.result c.from_residual-in_err-within-in-5.ensures.1 in
    rw (p.1, p.2, c.in-5.is) (limited_is (λ (y : ℕ). Exactly (Delay (record { 0 = y }))) c.args.x _ c.in_err-within-in-5.ensures)

pub returns-in_ok-within-in-6 : goal.returns-in_ok-within-in-6
unfolding named_by
returns-in_ok-within-in-6 c = rw c.in-6.is (limited_is (λ (y : ℕ). AtMost (Backlog (record { 0 = y }))) c.args.x _ c.in_ok-within-in-6.ensures)

pub returns-in_err-within-in-6 : goal.returns-in_err-within-in-6
unfolding named_by
returns-in_err-within-in-6 c =
    let p = err_from_is_err_and c.from_residual-in_err-within-in-6.result c.from_residual-in_err-within-in-6.ensures.1 in
    rw (p.1, p.2, c.in-6.is) (limited_is (λ (y : ℕ). AtMost (Backlog (record { 0 = y }))) c.args.x _ c.in_err-within-in-6.ensures)

pub returns-in_ok-within-in-7 : goal.returns-in_ok-within-in-7
unfolding named_by
returns-in_ok-within-in-7 c = rw c.in-7.is (limited_is (λ (y : ℕ). Exactly (Backlog (record { 0 = y }))) c.args.x _ c.in_ok-within-in-7.ensures)

pub returns-in_err-within-in-7 : goal.returns-in_err-within-in-7
unfolding named_by
returns-in_err-within-in-7 c =
    let p = err_from_is_err_and c.from_residual-in_err-within-in-7.result c.from_residual-in_err-within-in-7.ensures.1 in
    rw (p.1, p.2, c.in-7.is) (limited_is (λ (y : ℕ). Exactly (Backlog (record { 0 = y }))) c.args.x _ c.in_err-within-in-7.ensures)
