use native.Mathlib.Omega.{arith}
use Rattle.report.specs.Text.{decimal_short}
use Rattle.numbers.specs.Written.{wrote_on}
use Rattle.report.specs.Lines.{claim_line}
use Rattle.report.proofs.claim_line.Goals as goal

pub put_part-next-requires : goal.put_part-next-requires
put_part-next-requires c = omega (arith, decimal_short 4 c.args.k (omega arith))

pub verdict_words-requires : goal.verdict_words-requires
verdict_words-requires c = record { max_words_in_bounds = omega (arith, decimal_short 4 c.args.k (omega arith)); k_bound = omega arith }

pub returns : goal.returns
unfolding claim_line
returns c = record { wrote = wrote_on c.put_part-next.ensures c.verdict_words.ensures.wrote; upper_bound = omega (arith, decimal_short 4 c.args.k (omega arith)) }
