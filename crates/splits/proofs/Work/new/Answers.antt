use mathlib.Core.Path.{refl}
use Rattle.splits.specs.Parts.{no_work}
use Rattle.splits.proofs.Work.new.Goals as goal

pub returns : goal.returns
unfolding no_work
returns c = refl
