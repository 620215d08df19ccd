-- What is asked of curves that are lent with a claim, where the left and the right one are lent as such.
--
--     curve_lent     the curve that a lent one stands for
--     ThirdLent      what LentClaim asks beside the two (third_lent): of kinds 1 to 3 the claimed curve is lent too; of
--                    kinds 4 to 7 X is within its limit, and the third counts for nothing
--     copy_lent      a well-formed working copy that is lent
use Rattle.std.specs.Prelude.{◌≡◌, ◌≤◌, length}
use Rattle.std.proofs.Common.{arith}
use Rattle.minplus.specs.Claim as C
use Rattle.minplus.specs.Curve as M
use Rattle.curve.specs.declared.lent.Lent as the
use Rattle.curve.specs.declared.Curve.{Curve}
use Rattle.curve.specs.declared.Claim.{Claim}
use Rattle.curve.specs.declared.Claim.TheVariants.{Equals, AtMost, Exactly}
use Rattle.curve.specs.Steps.{Steps, Lent, curve_from}
use Rattle.curve.specs.Held.{curve_of, steps_in, steps_of}
use Rattle.curve.specs.Claimed.{LentClaim, amount_of}

abbrev pub curve_lent : the.Lent → M.Curve
curve_lent f = curve_from (steps_of f.held)

abbrev pub ThirdLent : Claim → Steps → Type 0
ThirdLent (Equals o) h = Lent h
ThirdLent (AtMost x) h = amount_of x ≤ C.max_x
ThirdLent (Exactly x) h = amount_of x ≤ C.max_x

pub third_lent : (c : Claim) (f g h : Steps) → LentClaim c f g h → ThirdLent c h
third_lent (Equals o) f g h l = l.2
third_lent (AtMost x) f g h l = l.2
third_lent (Exactly x) f g h l = l.2

pub copy_lent : {s : Steps} {f : Curve} → s ≡ steps_in f → length s.rises ≡ M.max_listed → M.WellFormed (curve_of f) → Lent s
copy_lent {s} same whole w =
    let well : M.WellFormed (curve_from s) = rw same w in record { room = omega (arith, whole, well.count_fits); well = well }
