use mathlib.Core.Path.{◌≡◌, sym, ap, ◌∙◌}
use native.Mathlib.Omega.{arith}
use Rattle.minplus.specs.Horizon.{horizon}
use Rattle.curve.specs.Steps.{curve_from}
use Rattle.curve.specs.Held.{steps_of}
use Rattle.curve.specs.Claimed.{claim_over}
use Rattle.horizon.specs.Capped.{horizon_from, horizon_above, horizon_at}
use Rattle.horizon.specs.Reach.{horizon_numbers}
use Rattle.verdict.specs.Given.{record_far}
use Rattle.verdict.proofs.verdict_over.Goals as goal

pub returns-in_default : goal.returns-in_default
returns-in_default c =
    let horizon-is : let a = c.args in
    c.horizon_over.result ≡ horizon_from (horizon (claim_over a.claim (curve_from (steps_of a.f.held)) (curve_from (steps_of a.g.held)) (curve_from (steps_of a.h)))) = let a = c.args in
    c.horizon_over.ensures ∙ ap horizon_from (horizon_numbers a.claim _ _ a.h.form a.h.rises.now) in
    c.untried.ensures ∙ record_far _ ((horizon_above _).0 (sym horizon-is ∙ c.in_default.is))

pub in_order-requires : goal.in_order-requires
in_order-requires c =
    let horizon-is : let a = c.args in
    c.horizon_over.result ≡ horizon_from (horizon (claim_over a.claim (curve_from (steps_of a.f.held)) (curve_from (steps_of a.g.held)) (curve_from (steps_of a.h)))) = let a = c.args in
    c.horizon_over.ensures ∙ ap horizon_from (horizon_numbers a.claim _ _ a.h.form a.h.rises.now) in
    let near = (horizon_at _ _).0 (sym horizon-is ∙ c.in-Some.is) in
    record { judgeable = record { third = c.requires.third; is_horizon = sym near.0; within = omega (arith, near.0, near.1) }; one_curve = c.requires.one_curve }
