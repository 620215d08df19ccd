use mathlib.Core.Path.{refl}
use mathlib.Core.Logic.{inl, inr}
use Rattle.minplus.specs.Claim.{well_formed_claim_lem}
use Rattle.curve.specs.Claimed.{two_well}
use Rattle.limits.specs.Told.{no, told_yes, told_no, told-map, told_test}
use Rattle.limits.proofs.well_formed_claim.Goals as goal
use Rattle.limits.proofs.well_formed_claim.Goals.{then-not-well_formed-via-then-not-well_formed, then-not-well_formed-via-else-not-well_formed+then-not-well_formed-2}

pub returns-then-not-well_formed : goal.returns-then-not-well_formed
returns-then-not-well_formed c =
    let a = c.args in
    told_test _ (well_formed_claim_lem _) (no (λ w.
    let two = two_well a.claim a.f.now a.g.now a.h.now w in
    elim c.then-not-well_formed.branch [
      | then-not-well_formed-via-then-not-well_formed v ↦ told_no c.well_formed-2.ensures v.if-not-well_formed.true two.0
      | then-not-well_formed-via-else-not-well_formed+then-not-well_formed-2 v ↦ told_no v.well_formed-else-not-well_formed.ensures v.if-not-well_formed-2.true two.1
    ]))

pub returns-in-Equals : goal.returns-in-Equals
returns-in-Equals c =
    let left = told_yes c.if-not-well_formed.ensures refl in
    let right = told_yes c.if-not-well_formed-2.ensures refl in
    rw c.in-Equals.is (told_test _ (well_formed_claim_lem _) (told-map (λ w. (left, right, w)) (λ w. w.2) c.well_formed-in-Equals.ensures))

pub returns-in-AtMost : goal.returns-in-AtMost
returns-in-AtMost c =
    let left = told_yes c.if-not-well_formed.ensures refl in
    let right = told_yes c.if-not-well_formed-2.ensures refl in
    elim c.in-AtMost.is [
      | inl e ↦ rw e (told_test _ (well_formed_claim_lem _) (told-map (λ le. (left, right, le)) (λ w. w.2) c.within.ensures))
      | inr e ↦ rw e (told_test _ (well_formed_claim_lem _) (told-map (λ le. (left, right, le)) (λ w. w.2) c.within.ensures))
    ]
