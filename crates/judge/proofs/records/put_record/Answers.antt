use mathlib.Core.Path.{ap, ◌∙◌}
use Prim.Native.Nat.{ℕ}
use Rattle.verdict.specs.Given.{numbers_of}
use Rattle.numbers.specs.Put.{put_whole, bytes_of}
use Rattle.judge.specs.Records.{put_record}
use Rattle.judge.proofs.records.put_record.Goals as goal

-- what is written is the code's number
pub returns : goal.returns
returns c =
    let a = c.args in
    put_record a.out.now a.at (numbers_of a.told) c.requires
    (c.put.ensures ∙ ap (λ (n : ℕ). put_whole a.out.now a.at (bytes_of 1 n)) c.number.ensures)
    c.put-2.ensures c.put-3.ensures c.put-4.ensures c.put-5.ensures
