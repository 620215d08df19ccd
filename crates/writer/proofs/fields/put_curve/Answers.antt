use native.Mathlib.Omega.{arith}
use Rattle.content.specs.Layout.{listed_of}
use Rattle.writer.specs.Held.{curve_size, curve_room, curve_put}
use Rattle.writer.proofs.fields.put_curve.Goals as goal

pub put_head-requires : goal.put_head-requires
put_head-requires c = omega (arith, c.requires, curve_size (listed_of c.args.curve))

pub put_values-requires : goal.put_values-requires
put_values-requires c = curve_room c.args.out.now c.args.place (listed_of c.args.curve) c.requires c.put_head.ensures c.put.ensures c.put-2.ensures c.put-3.ensures

pub returns : goal.returns
returns c = curve_put c.args.out.now c.args.place (listed_of c.args.curve) c.requires c.put_head.ensures c.put.ensures c.put-2.ensures c.put-3.ensures c.put_values.ensures
