use Rattle.std.specs.Prelude.{◌+◌, length}
use Rattle.std.proofs.Common.{sym, ◌∙◌, arith, eq-eqb, ne_eqb}
use Rattle.content.specs.Sound.{span_fits}
use Rattle.content.specs.Refusals.{listed_fault}
use Rattle.content.proofs.curves.listed_fault.Goals as goal

pub returns-then-no_span : goal.returns-then-no_span
unfolding listed_fault
returns-then-no_span c = rw (← c.no_span.ensures, c.if-no_span.true)

pub overflow_add-rank : goal.overflow_add-rank
overflow_add-rank c = omega (arith, (span_fits c.args.curve.rank c.args.curve.period (sym c.no_span.ensures ∙ c.if-no_span.false)).1)

pub returns-then-values-rank : goal.returns-then-values-rank
unfolding listed_fault
returns-then-values-rank c =
    let f = c.args.curve in
    rw (← c.no_span.ensures, c.if-no_span.false, ne_eqb (length f.values.now) (f.rank + f.period) c.if-values-rank.true)

pub overflow_cast-rank : goal.overflow_cast-rank
overflow_cast-rank c = omega (arith, (span_fits c.args.curve.rank c.args.curve.period (sym c.no_span.ensures ∙ c.if-no_span.false)).1)

pub overflow_cast-period : goal.overflow_cast-period
overflow_cast-period c = omega (arith, (span_fits c.args.curve.rank c.args.curve.period (sym c.no_span.ensures ∙ c.if-no_span.false)).1)

pub returns : goal.returns
unfolding listed_fault
returns c =
    let f = c.args.curve in
    rw (← c.no_span.ensures, c.if-no_span.false, eq-eqb (length f.values.now) (f.rank + f.period) c.if-values-rank.false) c.limit_fault.ensures
