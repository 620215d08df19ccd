-- The claim that the code's values stand for.
--
--     operation_of              kinds 1 to 3
--     deviation_of, amount_of   kinds 4 to 7, and their X
--     claim_over                the claim, from the enum and curves
--     claim_of                  the same, of curves in their working copies
--     bound_over                a claim of kinds 4 to 7 alone
--     LentClaim                 forms that are lent with a claim, and an X within its limit: the left and the right one
--                               are lent (two_lent). So are those of a well-formed claim of working copies (claim_lent)
--     two_well                  of a well-formed claim the left and the right curve are well formed
use Rattle.std.specs.Prelude.{ℕ, ◌≤◌, ◌≡◌, length}
use Rattle.std.proofs.Common.{arith}
use Rattle.minplus.specs.Claim as C
use Rattle.minplus.specs.Curve as M
use Rattle.curve.specs.declared.Curve.{Curve}
use Rattle.curve.specs.declared.Operation.{Operation}
use Rattle.curve.specs.declared.Operation.TheVariants.{Sum, Minimum, Convolution}
use Rattle.curve.specs.declared.Deviation.{Deviation}
use Rattle.curve.specs.declared.Deviation.TheVariants.{Delay, Backlog}
use Rattle.curve.specs.declared.Claim.{Claim}
use Rattle.curve.specs.declared.Claim.TheVariants.{Equals, AtMost, Exactly}
use Rattle.curve.specs.Steps.{Steps, Lent}
use Rattle.curve.specs.Held.{curve_of, steps_in}

abbrev pub operation_of : Operation → C.Operation
operation_of Sum = C.sum
operation_of Minimum = C.minimum
operation_of Convolution = C.convolution

-- X
abbrev pub amount_of : Deviation → ℕ
amount_of (Delay x) = x.0
amount_of (Backlog x) = x.0

abbrev pub deviation_of : Deviation → C.Deviation
deviation_of (Delay x) = C.delay
deviation_of (Backlog x) = C.backlog

-- kinds 4 to 7 have no claimed curve
abbrev pub claim_over : Claim → M.Curve → M.Curve → M.Curve → C.Claim
claim_over (Equals o) f g h = C.equals (operation_of o) f g h
claim_over (AtMost x) f g h = C.bounds (deviation_of x) C.at_most f g (amount_of x)
claim_over (Exactly x) f g h = C.bounds (deviation_of x) C.exactly f g (amount_of x)

abbrev pub claim_of : Claim → Curve → Curve → Curve → C.Claim
claim_of c f g h = claim_over c (curve_of f) (curve_of g) (curve_of h)

-- kinds 4 to 7 alone
abbrev pub bound_over : Deviation → C.Tightness → M.Curve → M.Curve → C.Claim
bound_over x t f g = C.bounds (deviation_of x) t f g (amount_of x)

-- what is asked of forms that are lent with a claim: of kinds 4 to 7 the third counts for nothing
abbrev pub LentClaim : Claim → Steps → Steps → Steps → Type 0
LentClaim (Equals o) f g h = Lent f × Lent g × Lent h
LentClaim (AtMost x) f g h = Lent f × Lent g × (amount_of x ≤ C.max_x)
LentClaim (Exactly x) f g h = Lent f × Lent g × (amount_of x ≤ C.max_x)

-- ---- laws

pub two_lent : (c : Claim) (f g h : Steps) → LentClaim c f g h → Lent f × Lent g
two_lent (Equals o) f g h l = (l.0, l.1)
two_lent (AtMost x) f g h l = (l.0, l.1)
two_lent (Exactly x) f g h l = (l.0, l.1)

-- the arrays of working copies have room for any curve
pub claim_lent : (c : Claim) (f g h : Curve) → length f.rises ≡ M.max_listed → length g.rises ≡ M.max_listed → length h.rises ≡ M.max_listed
    → C.WellFormedClaim (claim_of c f g h) → LentClaim c (steps_in f) (steps_in g) (steps_in h)
claim_lent c f g h whole whole' whole'' = go c
  where
    lent : (k : Curve) → length k.rises ≡ M.max_listed → M.WellFormed (curve_of k) → Lent (steps_in k)
    lent k whole w = record { room = omega (arith, whole, w.count_fits); well = w }

    go : (c : Claim) → C.WellFormedClaim (claim_of c f g h) → LentClaim c (steps_in f) (steps_in g) (steps_in h)
    go (Equals o) w = (lent f whole w.0, lent g whole' w.1, lent h whole'' w.2)
    go (AtMost x) w = (lent f whole w.0, lent g whole' w.1, w.2)
    go (Exactly x) w = (lent f whole w.0, lent g whole' w.1, w.2)

pub two_well : (c : Claim) (f g h : Curve) → C.WellFormedClaim (claim_of c f g h) → M.WellFormed (curve_of f) × M.WellFormed (curve_of g)
two_well (Equals o) f g h w = (w.0, w.1)
two_well (AtMost x) f g h w = (w.0, w.1)
two_well (Exactly x) f g h w = (w.0, w.1)
