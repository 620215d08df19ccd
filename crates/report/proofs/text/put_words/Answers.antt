use native.Mathlib.Omega.{arith}
use Rattle.report.specs.Written.{wrote_words}
use Rattle.report.proofs.text.put_words.Goals as goal

pub returns : goal.returns
returns c = rw c.copy_from_slice.ensures.after (wrote_words c.args.out.now c.args.at c.args.words.now _ (omega arith) c.requires)
