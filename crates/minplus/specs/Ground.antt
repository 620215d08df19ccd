-- Document 01, 'Ground to check against': W1 to W12 from the rules, as one table with one computed test. Below them
-- stand the edges that its 'Errors that look right' names, and some more; each comment says which wrong reading the row
-- rules out. No theorem is used here: a formula that every theorem would allow to be another (a larger horizon is just
-- as sound) is pinned by these rows alone, and tests/definitions tries such formulas.
--
--     table, ground     what is asked and the due answer; the test: every answer is the due one
--     A, B, conv_ab     the curves of W4 and W8
--     ten, vendor       what request A2 is about: a flat arrival, and a service that falls
use Rattle.std.specs.Prelude.{ℕ, ◌+◌, replicate, Bool, false, true, List, [], ◌∷◌, map, ◌≡◌, refl}
use Rattle.minplus.specs.Claim.{Claim, at_most, backlog, bounds, convolution, delay, equals, exactly, kind_number, kind_of, minimum, sum, well_formed_claim}
use Rattle.minplus.specs.Curve.{Curve, value, well_formed}
use Rattle.minplus.specs.Horizon.{horizon}
use Rattle.minplus.specs.Verdict.{Verdict, accepted, not_judged, not_least, record_on, refuted_at, refuted_by_rate, tried, verdict}

data Question : Type 0 where
  value_of : Curve → ℕ → Question
  horizon_of : Claim → Question
  tried_of : Claim → Question
  verdict_of : Claim → Question
  recorded : Claim → Question
  kind_of_claim : Claim → Question
  formed : Curve → Question
  formed_claim : Claim → Question

data Answer : Type 0 where
  number : ℕ → Answer
  judged : Verdict → Answer
  fields : (code tick left right tried : ℕ) → Answer
  truth : Bool → Answer

answer : Question → Answer
unfolding value horizon tried verdict record_on kind_number kind_of well_formed well_formed_claim
answer (value_of f n) = number (value f n)
answer (horizon_of c) = number (horizon c)
answer (tried_of c) = number (tried c)
answer (verdict_of c) = judged (verdict c)
answer (recorded c) = let r = record_on c in fields r.code r.tick r.left r.right r.tried
answer (kind_of_claim c) = number (kind_number (kind_of c))
answer (formed f) = truth (well_formed f)
answer (formed_claim c) = truth (well_formed_claim c)

record Row : Type 0 where
  asked : Question
  answered : Answer

infix 70 ◌is◌
◌is◌ : Question → Answer → Row
q is a = record { asked = q; answered = a }

curve : ℕ → ℕ → ℕ → List ℕ → Curve
curve T d c values = record { rank = T; period = d; increment = c; listed = values }

-- T + d times the same value, with increment 0
flat : ℕ → ℕ → ℕ → Curve
unfolding curve
flat T d x = curve T d 0 (replicate (T + d) x)

unfoldable pub A : Curve
unfolding curve
A = curve 1 1 1 (0 ∷ 4 ∷ [])

unfoldable pub B : Curve
unfolding curve
B = curve 2 1 2 (0 ∷ 0 ∷ 0 ∷ [])

S : Curve
unfolding curve
S = curve 0 3 2 (2 ∷ 2 ∷ 2 ∷ [])

-- the claimed curves of W3 and W4
min_ab : Curve
unfolding curve
min_ab = curve 7 1 1 (0 ∷ 0 ∷ 0 ∷ 2 ∷ 4 ∷ 6 ∷ 8 ∷ 10 ∷ [])

unfoldable pub conv_ab : Curve
unfolding curve
conv_ab = curve 5 1 1 (0 ∷ 0 ∷ 0 ∷ 2 ∷ 4 ∷ 6 ∷ [])

-- one unit a tick
line : Curve
unfolding curve
line = curve 0 1 1 (0 ∷ [])

-- ranks 2 and 3, and rates 1 and 2
late : Curve
unfolding curve
late = curve 2 1 1 (0 ∷ 0 ∷ 0 ∷ [])

steep : Curve
unfolding curve
steep = curve 3 1 2 (10 ∷ 10 ∷ 10 ∷ 10 ∷ [])

-- ranks 1 and 2, periods 4 and 6, all 0; with the rank and period of the first, one unit a tick
four : Curve
unfolding flat
four = flat 1 4 0

six : Curve
unfolding flat
six = flat 2 6 0

rising : Curve
unfolding curve
rising = curve 1 4 4 (0 ∷ 1 ∷ 2 ∷ 3 ∷ 4 ∷ [])

-- the vendor's curve of document 02, A2: 0, 10, 1, 11 and so on. Its listed values rise, and it falls at the seam of
-- its period
unfoldable pub vendor : Curve
unfolding curve
vendor = curve 0 2 1 (0 ∷ 10 ∷ [])

unfoldable pub ten : Curve
unfolding flat
ten = flat 0 1 10

table : List Row
unfolding ◌is◌ flat A B S min_ab conv_ab line late steep four six rising vendor ten
table =
    -- W1
    value_of A 5 is number 8
    ∷ value_of B 5 is number 6
    -- W2
    ∷ verdict_of (equals sum A B (curve 2 1 3 (0 ∷ 4 ∷ 5 ∷ []))) is judged accepted
    -- W3
    ∷ verdict_of (equals minimum A B min_ab) is judged accepted
    ∷ horizon_of (equals minimum A B min_ab) is number 8
    -- W4
    ∷ verdict_of (equals convolution A B conv_ab) is judged accepted
    ∷ horizon_of (equals convolution A B conv_ab) is number 6
    -- W5
    ∷ verdict_of (equals convolution A B (curve 5 1 2 (0 ∷ 0 ∷ 0 ∷ 2 ∷ 4 ∷ 6 ∷ []))) is judged (refuted_at 6 7 8)
    -- W6
    ∷ verdict_of (equals convolution S S (curve 2 3 2 (4 ∷ 4 ∷ 4 ∷ 4 ∷ 4 ∷ []))) is judged accepted
    ∷ horizon_of (equals convolution S S (curve 2 3 2 (4 ∷ 4 ∷ 4 ∷ 4 ∷ 4 ∷ []))) is number 6
    -- W7
    ∷ verdict_of (equals convolution S S (curve 0 3 2 (4 ∷ 4 ∷ 4 ∷ []))) is judged (refuted_at 3 4 6)
    -- W8
    ∷ verdict_of (bounds delay exactly A B 3) is judged accepted
    -- W9
    ∷ verdict_of (bounds delay at_most A B 2) is judged (refuted_at 1 4 2)
    -- W10
    ∷ verdict_of (bounds delay exactly A B 4) is judged not_least
    -- W11
    ∷ verdict_of (bounds backlog at_most A B 4) is judged (refuted_at 2 5 4)
    ∷ verdict_of (bounds backlog exactly A B 5) is judged accepted
    -- W12
    ∷ verdict_of (bounds delay at_most B A 0) is judged refuted_by_rate
    -- the numbers of the kinds
    ∷ kind_of_claim (equals sum A B S) is number 1
    ∷ kind_of_claim (equals minimum A B S) is number 2
    ∷ kind_of_claim (equals convolution A B S) is number 3
    ∷ kind_of_claim (bounds delay at_most A B 0) is number 4
    ∷ kind_of_claim (bounds delay exactly A B 0) is number 5
    ∷ kind_of_claim (bounds backlog at_most A B 0) is number 6
    ∷ kind_of_claim (bounds backlog exactly A B 0) is number 7
    -- one record for each code, with the ticks tried: of code 1 the horizon plus 1 in kinds 1 to 3 (3, 8 and 6),
    ∷ recorded (equals sum A B (curve 2 1 3 (0 ∷ 4 ∷ 5 ∷ []))) is fields 1 0 0 0 4
    ∷ recorded (equals minimum A B min_ab) is fields 1 0 0 0 9
    ∷ recorded (equals convolution A B conv_ab) is fields 1 0 0 0 7
    -- the horizon, 3, in kinds 4 to 7, where the test of X-1 is not counted,
    ∷ recorded (bounds delay at_most A B 3) is fields 1 0 0 0 3
    ∷ recorded (bounds delay exactly A B 3) is fields 1 0 0 0 3
    ∷ recorded (bounds backlog at_most A B 5) is fields 1 0 0 0 3
    ∷ recorded (bounds backlog exactly A B 5) is fields 1 0 0 0 3
    -- and at the limit one more than it
    ∷ recorded (equals sum (flat 0 61 0) (flat 0 67 0) (flat 9 1 0)) is fields 1 0 0 0 4_097
    -- of code 2 the named tick plus 1: at tick 0, between, and at the last, which is the horizon in kinds 1 to 3
    ∷ recorded (equals sum A B (flat 0 1 1)) is fields 2 0 0 1 1
    ∷ recorded (bounds backlog at_most (curve 0 1 2 (5 ∷ [])) line 4) is fields 2 0 5 4 1
    ∷ recorded (equals minimum A B (flat 0 1 0)) is fields 2 3 2 0 4
    ∷ recorded (bounds delay at_most A B 2) is fields 2 1 4 2 2
    ∷ recorded (equals convolution A B (curve 5 1 2 (0 ∷ 0 ∷ 0 ∷ 2 ∷ 4 ∷ 6 ∷ []))) is fields 2 6 7 8 7
    ∷ recorded (bounds backlog exactly A B 4) is fields 2 2 5 4 3
    -- of codes 3 and 4 the horizon, and of code 5 none
    ∷ recorded (bounds delay at_most B A 0) is fields 3 0 0 0 3
    ∷ recorded (bounds backlog exactly B A 7) is fields 3 0 0 0 3
    ∷ recorded (bounds delay exactly A B 4) is fields 4 0 0 0 3
    ∷ recorded (bounds backlog exactly A B 6) is fields 4 0 0 0 3
    ∷ recorded (equals sum (flat 0 61 0) (flat 0 67 0) (flat 10 1 0)) is fields 5 0 0 0 0
    -- N by itself, under no greater rank of h; not rounded up it would be 2 in the last of these
    ∷ horizon_of (equals minimum A B (flat 0 1 0)) is number 8
    ∷ horizon_of (equals convolution A B (flat 0 1 0)) is number 6
    ∷ horizon_of (equals minimum (flat 0 1 5) (curve 0 1 2 (0 ∷ [])) (flat 0 1 0)) is number 4
    -- N at T = 0 with different rates, either curve the slower one: the empty minimum read as 0 would give 6
    ∷ horizon_of (equals convolution (flat 0 1 5) line (flat 0 1 5)) is number 2
    ∷ horizon_of (equals convolution line (flat 0 1 5) (flat 0 1 5)) is number 2
    -- the last split, u = n, gives the due value here; without it tick 1 would be refuted
    ∷ verdict_of (equals convolution (flat 0 1 5) line (flat 0 1 5)) is judged accepted
    -- with T+T'+D for the rank, ticks 0 to 3 alone would be compared, and agree
    ∷ verdict_of (equals convolution (curve 1 1 0 (0 ∷ 100 ∷ [])) line line) is judged (refuted_at 101 100 101)
    -- where rates differ and N is small, the ranks alone decide: max(T,T') for a minimum, T+T'+D for a convolution,
    -- whichever is the slower one
    ∷ horizon_of (equals minimum late steep (flat 0 1 0)) is number 4
    ∷ horizon_of (equals minimum steep late (flat 0 1 0)) is number 4
    ∷ horizon_of (equals convolution late steep (flat 0 1 0)) is number 7
    ∷ horizon_of (equals convolution steep late (flat 0 1 0)) is number 7
    -- rates 1/2 and 2/3, both 0 in whole numbers
    ∷ horizon_of (equals minimum (curve 0 2 1 (0 ∷ 0 ∷ [])) (curve 0 3 2 (0 ∷ 0 ∷ 0 ∷ [])) (flat 0 1 0)) is number 14
    -- rates 2/3 and 1, which c*d and c'*d' would exchange
    ∷ horizon_of (equals minimum S line (flat 0 1 0)) is number 9
    -- a sum has no N
    ∷ horizon_of (equals sum A B (flat 0 1 0)) is number 3
    -- and N where the slower curve stands on the right
    ∷ horizon_of (equals minimum B A (flat 0 1 0)) is number 8
    -- R, P and what is tried, part by part. Of the periods 4 and 6 D is 12, not their product, and P is 60 with h's 10;
    -- ticks 0 to K+P are tried, the last one included
    ∷ tried_of (equals sum four six (flat 0 10 0)) is number 63
    ∷ tried_of (equals minimum four six (flat 0 10 0)) is number 63
    ∷ tried_of (equals convolution four six (flat 0 10 0)) is number 76
    -- the left curve's rank is the greater one
    ∷ horizon_of (equals sum six four (flat 0 10 0)) is number 62
    ∷ horizon_of (equals minimum six four (flat 0 10 0)) is number 62
    -- the same where rates differ and N is at most 1: R has D there too
    ∷ horizon_of (equals minimum rising six (flat 0 10 0)) is number 62
    ∷ horizon_of (equals convolution rising six (flat 0 10 0)) is number 75
    -- K is h's rank where that is the greater one, and R is not added to it
    ∷ horizon_of (equals sum four six (flat 20 10 0)) is number 80
    ∷ horizon_of (equals minimum four six (flat 20 10 0)) is number 80
    ∷ horizon_of (equals convolution four six (flat 20 10 0)) is number 80
    -- kinds 4 to 7 have max(T,T')+D, whichever rank is the greater one and whatever X is
    ∷ horizon_of (bounds delay at_most four six 1_000) is number 14
    ∷ horizon_of (bounds delay exactly four six 1_000) is number 14
    ∷ horizon_of (bounds backlog at_most four six 1_000) is number 14
    ∷ horizon_of (bounds backlog exactly four six 1_000) is number 14
    ∷ horizon_of (bounds delay exactly six four 0) is number 14
    ∷ horizon_of (bounds backlog at_most six four 0) is number 14
    ∷ horizon_of (bounds backlog exactly six four 0) is number 14
    -- the last tick below it is tried, and the tick at it is not: code 2 in the first two of these, then code 3
    ∷ verdict_of (bounds delay at_most (curve 1 1 0 (0 ∷ 1 ∷ [])) (flat 0 1 0) 0) is judged (refuted_at 1 1 0)
    ∷ verdict_of (bounds delay exactly (curve 1 1 0 (0 ∷ 1 ∷ [])) (flat 0 1 0) 0) is judged (refuted_at 1 1 0)
    ∷ verdict_of (bounds delay at_most (curve 0 1 2 (0 ∷ [])) line 0) is judged refuted_by_rate
    ∷ verdict_of (bounds delay exactly (curve 0 1 2 (0 ∷ [])) line 0) is judged refuted_by_rate
    ∷ verdict_of (bounds backlog at_most (curve 0 1 2 (0 ∷ [])) line 0) is judged refuted_by_rate
    ∷ verdict_of (bounds backlog exactly (curve 0 1 2 (0 ∷ [])) line 0) is judged refuted_by_rate
    -- P has h's period too; kinds 4 to 7 have no h
    ∷ horizon_of (equals sum S S (flat 0 2 0)) is number 6
    ∷ horizon_of (bounds delay at_most B S 7) is number 5
    -- a horizon of 4,096 is judged, one of 4,097 is not, though its tick 0 differs
    ∷ verdict_of (equals sum (flat 0 61 0) (flat 0 67 0) (flat 9 1 1)) is judged (refuted_at 0 0 1)
    ∷ verdict_of (equals sum (flat 0 61 0) (flat 0 67 0) (flat 10 1 1)) is judged not_judged
    -- the order of the codes: 2 before 3, and 3 before 4
    ∷ verdict_of (bounds backlog at_most (curve 0 1 2 (5 ∷ [])) line 4) is judged (refuted_at 0 5 4)
    ∷ verdict_of (bounds delay exactly B A 5) is judged refuted_by_rate
    -- equal rates are not refuted by rate; X = 0 has no X-1, also where f is below g throughout
    ∷ verdict_of (bounds delay at_most A A 0) is judged accepted
    ∷ verdict_of (bounds backlog at_most A A 0) is judged accepted
    ∷ verdict_of (bounds delay exactly A A 0) is judged accepted
    ∷ verdict_of (bounds backlog exactly (flat 0 1 0) A 0) is judged accepted
    -- X-1 is asked for X = 1 too, and it is X-1; of kinds 4 and 6 it is not asked
    ∷ verdict_of (bounds delay exactly (flat 0 1 0) (flat 0 1 0) 1) is judged not_least
    ∷ verdict_of (bounds backlog exactly (flat 0 1 0) (flat 0 1 0) 1) is judged not_least
    ∷ verdict_of (bounds backlog exactly A B 6) is judged not_least
    ∷ verdict_of (bounds delay at_most A B 4) is judged accepted
    ∷ verdict_of (bounds backlog at_most A B 6) is judged accepted
    -- the first of two ticks is named, with its values, and for kinds 5 and 7 those of X itself
    ∷ verdict_of (bounds delay exactly A B 2) is judged (refuted_at 1 4 2)
    ∷ verdict_of (bounds backlog at_most A B 3) is judged (refuted_at 1 4 3)
    ∷ verdict_of (bounds backlog exactly A B 3) is judged (refuted_at 1 4 3)
    -- an h above the due value and one below it
    ∷ verdict_of (equals minimum A B line) is judged (refuted_at 1 0 1)
    ∷ verdict_of (equals sum A B (flat 0 1 0)) is judged (refuted_at 1 4 0)
    ∷ verdict_of (equals minimum A B (flat 0 1 0)) is judged (refuted_at 3 2 0)
    ∷ verdict_of (equals convolution A B (flat 0 1 0)) is judged (refuted_at 3 2 0)
    -- a service that gains nothing: what is above it waits without end, and no X is a bound; what is at it waits for
    -- its rank alone
    ∷ verdict_of (bounds delay at_most ten (flat 2 1 9) 1_000_000_000) is judged (refuted_at 0 10 9)
    ∷ verdict_of (bounds delay exactly ten (curve 2 1 0 (0 ∷ 9 ∷ 10 ∷ [])) 2) is judged accepted
    -- the vendor's curve falls, so the table's exact delay on it is none that anybody would measure: 19, where no tick
    -- waits longer than 1 (vendor_waits, proofs/MetBy.antt). No book can hold it
    ∷ value_of vendor 2 is number 1
    ∷ verdict_of (bounds delay exactly ten vendor 19) is judged accepted
    ∷ formed vendor is truth false
    -- a horizon of some sixteen million: no tick is tried
    ∷ verdict_of (equals convolution (flat 0 256 0) (flat 0 255 0) (flat 0 253 0)) is judged not_judged
    -- D and P are counted to their end here, though code stops at 4,097; and N, which needs 37 bits
    ∷ horizon_of (equals convolution (flat 0 256 0) (flat 0 255 0) (flat 0 253 0)) is number 16_581_120
    ∷ horizon_of (bounds delay at_most (flat 0 256 0) (flat 0 255 0) 0) is number 65_280
    ∷ horizon_of (equals minimum (curve 0 256 999_937 (replicate 256 1_000_000)) (curve 0 255 996_031 (replicate 255 0)) (flat 0 1 0)) is number 130_045_985_024
    -- the limits of a curve, each at its edge and one beyond; the first and the last pair of listed values are looked
    -- at too, and then the seam
    ∷ formed (flat 0 256 1_000_000) is truth true
    ∷ formed (flat 1 256 0) is truth false
    ∷ formed (flat 1 0 0) is truth false
    ∷ formed (flat 0 1 1_000_001) is truth false
    ∷ formed (curve 0 1 1_000_000 (0 ∷ [])) is truth true
    ∷ formed (curve 0 1 1_000_001 (0 ∷ [])) is truth false
    ∷ formed (curve 0 1 0 (0 ∷ 0 ∷ [])) is truth false
    ∷ formed (curve 0 2 0 (0 ∷ [])) is truth false
    ∷ formed (curve 1 2 0 (5 ∷ 4 ∷ 4 ∷ [])) is truth false
    ∷ formed (curve 1 2 0 (0 ∷ 5 ∷ 4 ∷ [])) is truth false
    ∷ formed (curve 1 2 3 (0 ∷ 2 ∷ 5 ∷ [])) is truth true
    ∷ formed (curve 1 2 2 (0 ∷ 2 ∷ 5 ∷ [])) is truth false
    -- and of X
    ∷ formed_claim (bounds delay at_most A B 1_000_000_000) is truth true
    ∷ formed_claim (bounds delay at_most A B 1_000_000_001) is truth false
    ∷ []

ground : map (λ r. answer r.asked) table ≡ map (λ r. r.answered) table
unfolding answer table
ground = refl
