use mathlib.Core.Path.{◌≡◌, sym, ap, ap₂, ◌∙◌}
use native.Mathlib.Omega.{arith}
use Rattle.std.specs.Prelude.{Ok}
use Rattle.minplus.specs.Curve.{Curve}
use Rattle.minplus.specs.Horizon.{horizon}
use Rattle.minplus.specs.Claim.{well_formed_claim_lem}
use Rattle.curve.specs.Steps.{curve_from}
use Rattle.curve.specs.Held.{curve_of, rates_of}
use Rattle.curve.specs.Claimed.{claim_over, two_well}
use Rattle.curve.specs.Lending.{copy_lent}
use Rattle.horizon.specs.Capped.{horizon_from}
use Rattle.horizon.specs.Reach.{horizon_none, horizon_some, horizon_numbers}
use Rattle.horizon.proofs.horizon_of.Goals as goal

pub returns-then-not-well_formed_claim : goal.returns-then-not-well_formed_claim
returns-then-not-well_formed_claim c = sym (horizon_none _ (sym c.well_formed_claim.ensures ∙ c.if-not-well_formed_claim.true))

pub invariant_of-f : goal.invariant_of-f
invariant_of-f c =
    let a = c.args in
    let well = (well_formed_claim_lem _).0 (sym c.well_formed_claim.ensures ∙ c.if-not-well_formed_claim.false) in
    record { lent = copy_lent c.held.ensures.steps c.held.ensures.room (two_well a.claim a.f.now a.g.now a.h.now well).0 }

pub invariant_of-g : goal.invariant_of-g
invariant_of-g c =
    let a = c.args in
    let well = (well_formed_claim_lem _).0 (sym c.well_formed_claim.ensures ∙ c.if-not-well_formed_claim.false) in
    record { lent = copy_lent c.held-2.ensures.steps c.held-2.ensures.room (two_well a.claim a.f.now a.g.now a.h.now well).1 }

pub returns : goal.returns
returns c =
    let a = c.args in
    ap Ok
    (c.horizon_over.ensures
    ∙ ap horizon_from (ap₂ (λ (f g : Curve). horizon (claim_over a.claim f g (rates_of a.h.now.form))) (ap curve_from c.held.ensures.steps) (ap curve_from c.held-2.ensures.steps))
    ∙ ap horizon_from (horizon_numbers a.claim (curve_of a.f.now) (curve_of a.g.now) a.h.now.form a.h.now.rises))
    ∙ sym (horizon_some _ (sym c.well_formed_claim.ensures ∙ c.if-not-well_formed_claim.false))
