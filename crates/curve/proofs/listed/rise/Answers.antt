use mathlib.Core.Path.{sym}
use native.Mathlib.Omega.{arith}
use Rattle.curve.specs.Rises.{rise_falls, rise_holds}
use Rattle.curve.proofs.listed.rise.Goals as goal

pub returns-in-Some : goal.returns-in-Some
returns-in-Some c =
    let up = c.in-Some.ensures in
    omega (arith, up, rise_holds c.args.before c.args.after up.0)

pub returns-in-None : goal.returns-in-None
returns-in-None c = sym (rise_falls c.args.before c.args.after (omega (arith, c.in-None.ensures)))
