use mathlib.Core.Path.{sym, ap, ◌∙◌}
use Prim.Native.Nat.{ℕ}
use borrow.Author.Tests.{eqb-true}
use Rattle.minplus.specs.Verdict.{record_on}
use Rattle.curve.specs.Steps.{curve_from}
use Rattle.curve.specs.Claimed.{claim_over, two_lent}
use Rattle.curve.specs.Lending.{third_lent}
use Rattle.curve.specs.Held.{steps_in}
use Rattle.judge.specs.Kept.{curve_kept, kept_refused, kept_stated, lent_claim}
use Rattle.judge.proofs.claims.decided_at.Goals as goal

pub returns-in_default : goal.returns-in_default
returns-in_default c = rw (← c.in_default.ensures) (c.untried.ensures ∙ kept_refused c.args.curves.now c.in_default.field-0)

-- what is lent of the claim, over the curves that were borrowed
pub invariant_of-left : goal.invariant_of-left
invariant_of-left c =
    let st = c.in-Ok.stated in
    let lent = lent_claim st.claim c.held-f.ensures.steps c.held-g.ensures.steps c.held-h.ensures.steps (c.requires.lent st (sym c.in-Ok.ensures)) in
    record { lent = (two_lent st.claim _ _ _ lent).0 }

pub invariant_of-right : goal.invariant_of-right
invariant_of-right c =
    let st = c.in-Ok.stated in
    let lent = lent_claim st.claim c.held-f.ensures.steps c.held-g.ensures.steps c.held-h.ensures.steps (c.requires.lent st (sym c.in-Ok.ensures)) in
    record { lent = (two_lent st.claim _ _ _ lent).1 }

pub verdict_over-requires : goal.verdict_over-requires
verdict_over-requires c =
    let st = c.in-Ok.stated in
    let f = c.held-f.ensures.steps in
    let g = c.held-g.ensures.steps in
    record {
      third = third_lent st.claim _ _ _ (lent_claim st.claim f g c.held-h.ensures.steps (c.requires.lent st (sym c.in-Ok.ensures)));
      one_curve = λ same. f ∙ ap (λ (k : ℕ). steps_in (curve_kept c.args.curves.now k)) (eqb-true _ _ same) ∙ sym g;
    }

pub returns : goal.returns
returns c =
    let st = c.in-Ok.stated in
    let f = c.held-f.ensures.steps in
    let g = c.held-g.ensures.steps in
    let h = c.held-h.ensures.steps in
    rw (← c.in-Ok.ensures) (c.verdict_over.ensures ∙ (λ i. record_on (claim_over st.claim (curve_from (f i)) (curve_from (g i)) (curve_from (h i)))) ∙ kept_stated c.args.curves.now st)
