use mathlib.Core.Path.{ap}
use native.Mathlib.Omega.{arith}
use borrow.Author.Tests.{le-leb, lt-leb}
use Rattle.std.specs.Prelude.{Ok}
use Rattle.minplus.specs.Claim.{max_x}
use Rattle.curve.specs.Kinds.{within}
use Rattle.curve.proofs.within.Goals as goal

pub returns-in-Ok : goal.returns-in-Ok
unfolding within
returns-in-Ok c =
    let same = c.in-Ok.ensures.1 in
    rw (le-leb c.args.x max_x (omega arith), within) (ap Ok same)

pub returns-in_default : goal.returns-in_default
unfolding within
returns-in_default c = let same = c.in-Ok.ensures.1 in rw (lt-leb c.args.x max_x (omega arith), within)

pub returns-in_default-2 : goal.returns-in_default-2
unfolding within
returns-in_default-2 c = rw (lt-leb c.args.x max_x (omega (arith, c.in_default.ensures)), within)
