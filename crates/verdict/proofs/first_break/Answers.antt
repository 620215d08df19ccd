use mathlib.Core.Path.{◌∙◌}
use mathlib.Core.Logic.{inl, inr}
use Rattle.curve.specs.declared.Operation.TheVariants.{Sum, Minimum, Convolution}
use Rattle.search.specs.Break.{tried_bound, tried_exactly, tried_result}
use Rattle.verdict.proofs.first_break.Goals as goal

pub returns-in-Sum : goal.returns-in-Sum
returns-in-Sum c =
    let claim = c.in-Equals.is in
    let kind = c.in-Sum.is in
    rw (claim, kind) (c.first_unlike.ensures ∙ tried_result Sum (rw (claim, kind) at c.requires.judgeable))

pub returns-in-Minimum : goal.returns-in-Minimum
returns-in-Minimum c =
    let claim = c.in-Equals.is in
    let kind = c.in-Minimum.is in
    rw (claim, kind) (c.first_unlike-in-Minimum.ensures ∙ tried_result Minimum (rw (claim, kind) at c.requires.judgeable))

pub returns-in-Convolution : goal.returns-in-Convolution
returns-in-Convolution c =
    let claim = c.in-Equals.is in
    let kind = c.in-Convolution.is in
    rw (claim, kind) (c.first_apart.ensures ∙ tried_result Convolution (rw (claim, kind) at c.requires.judgeable))

pub returns-in-AtMost : goal.returns-in-AtMost
returns-in-AtMost c = elim c.in-AtMost.is [
  | inl claim ↦ rw claim (c.first_over.ensures ∙ tried_bound _ (rw claim at c.requires.judgeable))
  | inr claim ↦ rw claim (c.first_over.ensures ∙ tried_exactly _ (rw claim at c.requires.judgeable))
]
