use native.Mathlib.Omega.{arith}
use Rattle.writer.specs.Held.{end_size, end-put}
use Rattle.writer.proofs.fields.put_end.Goals as goal

pub put_head-requires : goal.put_head-requires
put_head-requires c = omega (arith, c.requires, end_size)

pub returns : goal.returns
returns c = end-put c.args.out.now c.args.place c.requires c.put_head.ensures
