use native.Mathlib.Omega.{arith}
use mathlib.Core.Path.{sym, ap, ◌∙◌}
use Prim.Native.Nat.{◌*◌}
use lib.Seq.{length-take-le}
use Rattle.minplus.specs.Verdict.{Record}
use Rattle.numbers.specs.Put.{put}
use Rattle.verdict.specs.Given.{decided_of}
use Rattle.judge.specs.Answer.{record_size}
use Rattle.judge.specs.Records.{record_bytes}
use Rattle.judge.specs.Totals.{code_with}
use Rattle.judge.specs.Held.{curves_few, claims_few, claim_ready, countable, record_room, ran_none, ran_more, ran_all}
use Rattle.judge.proofs.records.run.Goals as goal

pub slice_bounds-kept-end : goal.slice_bounds-kept-end
slice_bounds-kept-end c = omega (arith, curves_few c.requires)

pub slice_bounds-curves-end : goal.slice_bounds-curves-end
slice_bounds-curves-end c = sym (length-take-le c.args.sound.now.curves _ (omega (arith, curves_few c.requires)))

pub loop-k-init : goal.loop-k-init
loop-k-init c =
    ran_none c.requires (c.keep_all.auto.curves ∙ length-take-le c.args.sound.now.curves _ (omega (arith, curves_few c.requires))) c.keep_all.ensures

pub bounds-sound-k : goal.bounds-sound-k
bounds-sound-k c = omega (arith, claims_few c.requires)

pub decided_at-decided-requires : goal.decided_at-decided-requires
decided_at-decided-requires c = claim_ready c.loop-k.invariant c.loop-k-test.true

pub put_record-requires : goal.put_record-requires
put_record-requires c = record_room c.loop-k.invariant c.loop-k-test.true

pub count-requires : goal.count-requires
count-requires c = countable c.loop-k.invariant

pub loop-k-preserved : goal.loop-k-preserved
loop-k-preserved c =
    let decided : Record = decided_of c.decided_at-decided.result in
    ran_more c.loop-k.invariant c.loop-k-test.true decided c.decided_at-decided.ensures
    (c.put_record.ensures ∙ ap (λ (r : Record). put c.loop-k.verdicts (record_size * c.loop-k.k) (record_bytes r)) c.from.ensures)
    (rw code_with c.count.ensures)

pub returns : goal.returns
returns c =
    let all = ran_all c.loop-k.invariant (omega arith) in
    record { value = all.0; verdicts_after = all.1 }
