use Prim.Native.Nat.{ℕ, ◌+◌, max}
use mathlib.Core.Path.{sym, ap, ap₂, ◌∙◌}
use native.Mathlib.Omega.{arith}
use Rattle.minplus.specs.Curve.{Curve}
use Rattle.minplus.specs.Divisor.{lcm}
use Rattle.minplus.specs.Horizon as H
use Rattle.curve.specs.Steps.{curve_from}
use Rattle.curve.specs.Held.{rates_of, steps_of}
use Rattle.curve.specs.Claimed.{operation_of}
use Rattle.horizon.specs.Capped.{capped, horizon_from, horizon_above, horizon-capped}
use Rattle.horizon.specs.Reach.{even_rank, result_capped, result_far}
use Rattle.horizon.proofs.result_horizon.Goals as goal

pub returns-then-n : goal.returns-then-n
returns-then-n c =
    let left : Curve = curve_from (steps_of c.args.f.held) in
    let right : Curve = curve_from (steps_of c.args.g.held) in
    sym ((horizon_above _).1 (result_far (operation_of c.args.operation) left right (rates_of c.args.h) (omega (arith, c.n_by_rates-n.ensures, c.if-n.true))))

pub returns : goal.returns
unfolding H.common_period
returns c =
    let left : Curve = curve_from (steps_of c.args.f.held) in
    let right : Curve = curve_from (steps_of c.args.g.held) in
    let op = operation_of c.args.operation in
    let D = c.common_period-period.ensures in
    let even = c.even_rank.ensures ∙ ap (even_rank op c.args.f.held.form.rank.0 c.args.g.held.form.rank.0) D in
    let rank = c.max-rank.ensures ∙ ap₂ max even c.n_by_rates-n.ensures in
    let last = c.max.ensures ∙ ap (λ (r : ℕ). max r c.args.h.rank.0) rank in
    let period = c.full_period.ensures ∙ ap (λ (d : ℕ). capped (lcm d c.args.h.period.0)) D in
    c.horizon_from.ensures ∙ ap horizon_from (ap₂ ◌+◌ last period) ∙ horizon-capped _ _ (result_capped op left right (rates_of c.args.h))
