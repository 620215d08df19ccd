use mathlib.Core.Bool.{true, false}
use Rattle.std.proofs.Common.{rules}
use Rattle.search.proofs.results.first_unlike.Goals as goal

pub returns-then-minimum : goal.returns-then-minimum
returns-then-minimum c = rw c.if-minimum.true (c.first_by.ensures true (λ a b r fits e. e))

pub returns-else-minimum : goal.returns-else-minimum
returns-else-minimum c = rw c.if-minimum.false (c.first_by-else-minimum.ensures false (λ a b r fits e. search rules))
