use native.Mathlib.Omega.{arith}
use Rattle.writer.specs.Held.{filling_none, filling_more, filling_all}
use Rattle.writer.proofs.fields.put_values.Goals as goal

pub loop-n-init : goal.loop-n-init
loop-n-init c = filling_none c.args.out.now c.args.at c.args.values.now c.requires

pub loop-n-preserved : goal.loop-n-preserved
loop-n-preserved c = filling_more c.loop-n.invariant (omega arith) c.put.ensures

pub returns : goal.returns
returns c = filling_all c.loop-n.invariant (omega arith)
