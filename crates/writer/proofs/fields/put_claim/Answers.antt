use native.Mathlib.Omega.{arith}
use Rattle.content.specs.Layout.{third_small}
use Rattle.writer.specs.Held.{claim_size, claim-put}
use Rattle.writer.proofs.fields.put_claim.Goals as goal

pub overflow_add-width : goal.overflow_add-width
overflow_add-width c = omega (arith, c.third_width-width.ensures, third_small c.args.claim.kind)

pub put_head-requires : goal.put_head-requires
put_head-requires c = omega (arith, c.requires, claim_size c.args.claim)

pub returns : goal.returns
returns c =
    let wide = c.third_width-width.ensures in
    claim-put c.args.out.now c.args.place c.args.claim c.requires (rw wide at c.put_head.ensures) c.put.ensures c.put-2.ensures c.put-3.ensures
    (rw wide at c.put-4.ensures)
