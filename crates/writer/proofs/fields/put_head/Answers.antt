use Rattle.writer.specs.Held.{head_put}
use Rattle.writer.proofs.fields.put_head.Goals as goal

pub returns : goal.returns
returns c = head_put c.args.out.now c.args.place c.args.tag c.args.content c.requires (rw c.number.ensures at c.put.ensures) c.put-2.ensures
