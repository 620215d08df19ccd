use native.Mathlib.Omega.{arith}
use lib.ListN.{length-append}
use Rattle.report.specs.Text.{decimal}
use Rattle.numbers.specs.Written.{wrote_on}
use Rattle.report.proofs.text.put_last_part.Goals as goal

pub put_byte-requires : goal.put_byte-requires
put_byte-requires c =
    let a = c.args in
    omega (arith, length-append a.words.now (decimal a.n))

pub returns : goal.returns
returns c = wrote_on c.put_part-end.ensures c.put_byte.ensures
