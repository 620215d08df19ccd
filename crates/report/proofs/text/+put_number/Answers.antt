use Rattle.std.proofs.Common.{◌≤◌, arith}
use Rattle.numbers.specs.Written.{wrote_on, wrote_length}
use Rattle.report.specs.Text.{decimal_digit, decimal-more, decimal_some, length_more, tenth_less}
use Rattle.report.proofs.text.+put_number.Goals as goal

pub put_byte-requires : goal.put_byte-requires
put_byte-requires t c = omega (arith, decimal_some c.args.n)

pub returns-then-n-lt10 : goal.returns-then-n-lt10
returns-then-n-lt10 t c = rw (decimal_digit c.args.n (omega arith)) c.put_byte.ensures

pub put_number-last-requires : goal.put_number-last-requires
put_number-last-requires t c =
    let n = c.args.n in
    let high : 10 ≤ n = omega arith in
    (omega (arith, tenth_less n high), omega (arith, length_more n high))

pub put_byte-requires-2 : goal.put_byte-requires-2
put_byte-requires-2 t c =
    let n = c.args.n in
    let high : 10 ≤ n = omega arith in
    let w = c.put_number-last.ensures in
    omega (arith, length_more n high, w.past, wrote_length w)

pub returns : goal.returns
returns t c =
    rw (decimal-more c.args.n (omega arith)) (wrote_on c.put_number-last.ensures c.put_byte-2.ensures)
