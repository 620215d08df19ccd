use mathlib.Core.Path.{◌≡◌, sym, ap, ◌∙◌}
use mathlib.Core.Option.{some}
use mathlib.Core.Bool.{false≢true}
use lib.ListN.{length}
use Rattle.minplus.specs.Claim.{well_formed_claim_lem}
use Rattle.minplus.specs.Verdict.{record_on}
use Rattle.curve.specs.Steps.{Steps, curve_from}
use Rattle.curve.specs.Held.{steps_of}
use Rattle.curve.specs.Claimed.{claim_lent, claim_of, claim_over, two_well}
use Rattle.curve.specs.Lending.{copy_lent, third_lent}
use Rattle.verdict.specs.Given.{judgement_none, judgement_some}
use Rattle.verdict.proofs.verdict_on.Goals as goal

pub returns-then-not-well_formed_claim : goal.returns-then-not-well_formed_claim
returns-then-not-well_formed_claim c = judgement_none _ (sym c.well_formed_claim.ensures ∙ c.if-not-well_formed_claim.true)

-- the array that is lent is that of the working copy
whole : {s t : Steps} → s ≡ t → length s.rises ≡ 256 → length t.rises ≡ 256
whole same room = sym (ap (λ (s : Steps). length s.rises) same) ∙ room

pub invariant_of-f : goal.invariant_of-f
invariant_of-f c =
    let a = c.args in
    let well = (well_formed_claim_lem _).0 (sym c.well_formed_claim.ensures ∙ c.if-not-well_formed_claim.false) in
    record { lent = copy_lent c.held.ensures.steps c.held.ensures.room (two_well a.claim a.f.now a.g.now a.h.now well).0 }

pub invariant_of-g : goal.invariant_of-g
invariant_of-g c =
    let a = c.args in
    let well = (well_formed_claim_lem _).0 (sym c.well_formed_claim.ensures ∙ c.if-not-well_formed_claim.false) in
    record { lent = copy_lent c.held-2.ensures.steps c.held-2.ensures.room (two_well a.claim a.f.now a.g.now a.h.now well).1 }

pub verdict_over-requires : goal.verdict_over-requires
verdict_over-requires c =
    let a = c.args in
    let f = c.held.ensures in
    let g = c.held-2.ensures in
    let h = c.held-3.ensures in
    let well = (well_formed_claim_lem _).0 (sym c.well_formed_claim.ensures ∙ c.if-not-well_formed_claim.false) in
    let lent = claim_lent a.claim a.f.now a.g.now a.h.now (whole f.steps f.room) (whole g.steps g.room) (whole h.steps h.room) well in
    record { third = rw h.steps (third_lent a.claim _ _ _ lent); one_curve = λ said. absurd (false≢true said) }

pub returns : goal.returns
returns c =
    let a = c.args in
    let is : claim_over a.claim (curve_from (steps_of c.held.result)) (curve_from (steps_of c.held-2.result)) (curve_from (steps_of c.held-3.result)) ≡ claim_of a.claim a.f.now a.g.now a.h.now =
    λ i. claim_over a.claim (curve_from (c.held.ensures.steps i)) (curve_from (c.held-2.ensures.steps i)) (curve_from (c.held-3.ensures.steps i)) in
    ap some (c.verdict_over.ensures ∙ ap record_on is) ∙ judgement_some _ (sym c.well_formed_claim.ensures ∙ c.if-not-well_formed_claim.false)
