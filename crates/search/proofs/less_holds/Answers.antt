use Prim.Native.Nat.{ℕ}
use mathlib.Core.Path.{ap₂, sym, ◌∙◌}
use native.Mathlib.Omega.{arith}
use Rattle.minplus.specs.Claim.{Deviation, at_most, bounds}
use Rattle.curve.specs.Steps.{curve_from}
use Rattle.curve.specs.Held.{steps_of}
use Rattle.search.specs.Break.{first_of_tried, is_nowhere, less_none, less_nothing, less_nowhere, less_some}
use Rattle.search.proofs.less_holds.Goals as goal

pub holds-requires : goal.holds-requires
holds-requires c =
    let pre = c.requires in
    let less = less_some c.args.deviation (sym c.less_of.ensures ∙ c.in-Some.is) in
    (omega (arith, less.2, pre.x_fits), pre.within)

pub returns-in-Some : goal.returns-in-Some
returns-in-Some c =
    let a = c.args in
    let less = less_some a.deviation (sym c.less_of.ensures ∙ c.in-Some.is) in
    c.holds.ensures
    ∙ ap₂ (λ (δ : Deviation) (X : ℕ). is_nowhere (first_of_tried (bounds δ at_most (curve_from (steps_of a.f.held)) (curve_from (steps_of a.g.held)) X) a.horizon).found) less.1 less.2
    ∙ less_nowhere _ _ _ _ less.0 _ c.requires.is_horizon

pub returns-in-None : goal.returns-in-None
returns-in-None c = less_none _ _ _ _ (less_nothing c.args.deviation (sym c.less_of.ensures ∙ c.in-None.is))
