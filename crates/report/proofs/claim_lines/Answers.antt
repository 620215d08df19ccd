use mathlib.Core.Path.{◌≡◌}
use native.Mathlib.Omega.{arith}
use native.Mathlib.Numerals.{add-one}
use Rattle.numbers.specs.Written.{wrote_nothing, wrote_on, wrote_length}
use Rattle.report.specs.Lines.{claim_lines}
use Rattle.report.proofs.claim_lines.Goals as goal

pub loop-k-init : goal.loop-k-init
unfolding claim_lines
loop-k-init c = (omega arith, (omega arith, wrote_nothing _ 0 (omega arith)))

pub claim_line-at-requires : goal.claim_line-at-requires
claim_line-at-requires c = record { max_line_in_bounds = omega (arith, wrote_length c.loop-k.invariant.1.1); k_bound = omega arith }

pub loop-k-preserved : goal.loop-k-preserved
unfolding claim_lines
loop-k-preserved c =
    let at-k = c.loop-k in
    (omega arith, (omega arith, rw (add-one at-k.k) (wrote_on at-k.invariant.1.1 c.claim_line-at.ensures.wrote)))

pub shape_of-out : goal.shape_of-out
shape_of-out c = wrote_length c.loop-k.invariant.1.1

pub returns : goal.returns
returns c =
    let all : c.loop-k.k ≡ c.args.claims = omega arith in
    rw (← all) (record { wrote = c.loop-k.invariant.1.1; upper_bound = c.loop-k.invariant.1.0 })
