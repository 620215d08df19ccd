use mathlib.Core.Path.{sym, ◌∙◌}
use native.Mathlib.Omega.{arith}
use Rattle.minplus.specs.Divisor.{gcd_zero, gcd-step}
use Rattle.horizon.proofs.divisor.+common_divisor.Goals as goal

pub returns-then-b-eq0 : goal.returns-then-b-eq0
returns-then-b-eq0 t c = rw c.if-b-eq0.true (sym (gcd_zero c.args.a))

pub returns-else-b-eq0 : goal.returns-else-b-eq0
returns-else-b-eq0 t c = c.common_divisor.ensures ∙ sym (gcd-step c.args.a c.args.b (omega arith))
