use mathlib.Core.List.{[], ◌∷◌}
use native.Mathlib.Omega.{arith}
use lib.ListN.{length-append}
use Rattle.report.specs.Text.{decimal}
use Rattle.numbers.specs.Written.{wrote_on}
use Rattle.report.specs.Lines.{refuted_at, refuted_short}
use Rattle.report.proofs.refuted_at.Goals as goal

pub returns : goal.returns
unfolding refuted_at
returns c = record {
  wrote = wrote_on (wrote_on c.put_part-after_tick.ensures c.put_part-after_left.ensures) c.put_last_part.ensures;
  upper_bound =
      omega (
        arith,
        refuted_short c.args.tick c.args.left c.args.right (omega arith) (omega arith) (omega arith),
        length-append (decimal c.args.right) (10 ∷ []),
      );
}
