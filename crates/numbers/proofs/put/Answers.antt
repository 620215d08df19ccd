use Rattle.std.specs.Prelude.{◌≡◌}
use Rattle.std.proofs.Common.{sym, ◌∙◌, arith}
use Rattle.numbers.specs.Put.{put, bytes_of, put_fits, put_short, put-nothing, length-bytes}
use Rattle.numbers.proofs.HighFirst.{put-bytes}
use Rattle.numbers.proofs.put.Goals as goal
use Rattle.numbers.proofs.put.Goals.{then-length-width-via-then-length-width, then-length-width-via-else-length-width+then-length-width-2}

pub returns-then-length-width : goal.returns-then-length-width
returns-then-length-width c =
    let size = length-bytes c.args.width c.args.n in
    elim c.then-length-width.branch [
      | then-length-width-via-then-length-width w ↦ sym (put_short _ _ _ (omega (arith, size)))
      | then-length-width-via-else-length-width+then-length-width-2 w ↦ sym (put_short _ _ _ (omega (arith, size)))
    ]

pub loop-k-preserved : goal.loop-k-preserved
loop-k-preserved c = let l = c.loop-k in put-bytes l.out c.args.at l.k l.rest (omega arith) (omega arith) ∙ l.invariant

pub returns : goal.returns
unfolding bytes_of
returns c =
    let l = c.loop-k in
    let args = c.args in
    let size = length-bytes args.width args.n in
    let last : l.k ≡ 0 = omega arith in
    let ended : put l.out args.at (bytes_of l.k l.rest) ≡ l.out = rw last (put-nothing l.out args.at) in
    sym ended ∙ l.invariant ∙ sym (put_fits _ _ _ (omega (arith, size)))
