use Prim.Native.Nat.{ℕ}
use mathlib.Core.Path.{ap₂, ◌∙◌}
use Rattle.minplus.specs.Curve.{Curve}
use Rattle.curve.specs.Steps.{curve_from}
use Rattle.curve.specs.Held.{steps_of}
use Rattle.search.specs.Break.{above_first, bound_comparable, first_above}
use Rattle.search.proofs.bounds.first_over.Goals as goal

pub first_above-requires : goal.first_above-requires
first_above-requires c =
    let a = c.args in
    let pre = c.requires in
    rw (c.later_by-later.ensures, c.more_by-more.ensures) (bound_comparable a.deviation pre.0 pre.1)

pub returns : goal.returns
returns c =
    let a = c.args in
    let F : Curve = curve_from (steps_of a.f.held) in
    let G : Curve = curve_from (steps_of a.g.held) in
    c.first_above.ensures ∙ ap₂ (λ (l m : ℕ). first_above F G l m a.tried) c.later_by-later.ensures c.more_by-more.ensures
    ∙ above_first a.deviation F G a.tried
