use mathlib.Core.List.{[], ◌∷◌}
use native.Mathlib.Omega.{arith}
use lib.ListN.{length-append}
use Rattle.report.specs.Text.{decimal}
use Rattle.numbers.specs.Written.{wrote_on}
use Rattle.report.specs.Lines.{total_line, total_short}
use Rattle.report.proofs.total_line.Goals as goal

pub returns : goal.returns
unfolding total_line
returns c = record {
  wrote = wrote_on (wrote_on (wrote_on c.put_part-after_claims.ensures c.put_part-after_accepted.ensures) c.put_part-after_refuted.ensures) c.put_last_part.ensures;
  upper_bound = omega (arith, total_short c.requires.totals_fit, length-append (decimal c.args.totals.unjudged) (10 ∷ []));
}
