use native.Mathlib.Omega.{arith}
use Rattle.report.specs.Text.{decimal_short}
use Rattle.numbers.specs.Written.{wrote_on}
use Rattle.report.specs.Lines.{refused_line}
use Rattle.report.proofs.refused_line.Goals as goal

pub put_part-after_refusal-requires : goal.put_part-after_refusal-requires
put_part-after_refusal-requires c =
    let a = c.args in
    omega (arith, decimal_short 2 a.refusal (omega arith))

pub put_last_part-requires : goal.put_last_part-requires
put_last_part-requires c =
    let a = c.args in
    omega (arith, decimal_short 2 a.refusal (omega arith), decimal_short 4 a.place (omega arith))

pub returns : goal.returns
unfolding refused_line
returns c = wrote_on c.put_part-after_refusal.ensures c.put_last_part.ensures
