use native.Mathlib.Omega.{arith}
use Rattle.writer.specs.Held.{version_size, version_put}
use Rattle.writer.proofs.fields.put_version.Goals as goal

pub put_head-requires : goal.put_head-requires
put_head-requires c = omega (arith, c.requires, version_size c.args.version)

pub returns : goal.returns
returns c = version_put c.args.out.now c.args.place c.args.version c.requires c.put_head.ensures c.put.ensures
