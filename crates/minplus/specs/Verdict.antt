-- The verdict on a claim, computed by document 01's finite rule, and the numbers of its record.
--
-- Document 01, 'Verdicts', and document 02, A3. Nothing here speaks of ticks beyond the horizon: proofs/Exact.antt
-- shows what a verdict says of them.
--
--     Verdict              the five verdicts
--     left_at, right_at    the two values that the record of a refuted tick holds
--     breaks, tried        whether a tick breaks the rule; how many ticks, from 0 on, are tried; first_break: the first
--                          of them that does
--     by_rate, less_holds  the tests of codes 3 and 4
--     codes_in_order, verdict     the codes in their order
--     record_of            the Record of a verdict on a claim: code, tick, left and right value (record_with), and how
--                          many ticks were tried for it (ticks_tried); record_on: of the verdict that is due
use Rattle.std.specs.Prelude.{ℕ, suc, ◌+◌, ◌-◌, Bool, true, false, not, ltb, eqb}
use Rattle.std.proofs.Math.Option.{Option, none, some}
use Rattle.minplus.specs.Search.{first_below}
use Rattle.minplus.specs.Curve.{value}
use Rattle.minplus.specs.Claim.{Claim, equals, bounds, at_most, exactly, due, allowed}
use Rattle.minplus.specs.Horizon.{slower, horizon, max_horizon}

pub data Verdict : Type 0 where
  accepted : Verdict
  refuted_at : (tick left right : ℕ) → Verdict
  refuted_by_rate : Verdict
  not_least : Verdict
  not_judged : Verdict

-- "in kinds 1 to 3, left is the due value and right is h; in 4 and 5, f(s) and g(s+X); in 6 and 7, f(s) and g(s)+X"
unfoldable pub left_at : Claim → ℕ → ℕ
unfolding due value
left_at (equals op f g h) n = due op (value f) (value g) n
left_at (bounds δ t f g X) s = value f s

unfoldable pub right_at : Claim → ℕ → ℕ
unfolding allowed value
right_at (equals op f g h) n = value h n
right_at (bounds δ t f g X) s = allowed δ (value g) X s

-- kinds 1 to 3: the values differ; kinds 4 to 7: f(s) is above the right value
unfoldable pub breaks : Claim → ℕ → Bool
unfolding left_at right_at
breaks (equals op f g h) n = not (eqb (left_at (equals op f g h) n) (right_at (equals op f g h) n))
breaks (bounds δ t f g X) s = ltb (right_at (bounds δ t f g X) s) (left_at (bounds δ t f g X) s)

-- "ticks 0 to K+P are compared, the last one included"; "The ticks below it are tried"
unfoldable pub tried : Claim → ℕ
unfolding horizon
tried (equals op f g h) = suc (horizon (equals op f g h))
tried (bounds δ t f g X) = horizon (bounds δ t f g X)

unfoldable pub first_break : Claim → Option ℕ
unfolding first_below breaks tried
first_break c = first_below (breaks c) (tried c)

-- "kinds 4 to 7, c*d' > c'*d"
unfoldable pub by_rate : Claim → Bool
by_rate (equals op f g h) = false
by_rate (bounds δ t f g X) = slower g f

-- "kinds 5 and 7, X > 0 and X-1 is also a bound": no tick breaks it. Code 3 comes first, so the rates need no second
-- look
unfoldable pub less_holds : Claim → Bool
unfolding first_break
less_holds (equals op f g h) = false
less_holds (bounds δ at_most f g X) = false
less_holds (bounds δ exactly f g X) =
    elim (ltb 0 X) [ true ↦ elim (first_break (bounds δ exactly f g (X - 1))) [ none ↦ true | some _ ↦ false ] | false ↦ false ]

-- "Tried in this order, a later one only if the earlier doesn't apply": too far, the first break, by rate, less holds
-- too
unfoldable pub codes_in_order : Claim → Bool → Option ℕ → Bool → Bool → Verdict
unfolding left_at right_at
codes_in_order c true o rate less = not_judged
codes_in_order c false (some n) rate less = refuted_at n (left_at c n) (right_at c n)
codes_in_order c false none true less = refuted_by_rate
codes_in_order c false none false true = not_least
codes_in_order c false none false false = accepted

-- each `let` is computed only where a code before it has not decided
unfoldable pub verdict : Claim → Verdict
unfolding codes_in_order horizon first_break by_rate less_holds
verdict c =
    let at = first_break c in
    let less = less_holds c in
    codes_in_order c (ltb max_horizon (horizon c)) at (by_rate c) less

-- "code, tick (4 bytes), left value (8), right value (8)", and "two bytes at the end with the number of ticks tried":
-- its five numbers
pub record Record : Type 0 where
  pub code : ℕ
  pub tick : ℕ
  pub left : ℕ
  pub right : ℕ
  pub tried : ℕ

-- "For other codes the twenty bytes are 0.": those of the tick and of the two values
unfoldable pub record_with : Verdict → (count : ℕ) → Record
record_with accepted count = record { code = 1; tick = 0; left = 0; right = 0; tried = count }
record_with (refuted_at tick left right) count = record { code = 2; tick = tick; left = left; right = right; tried = count }
record_with refuted_by_rate count = record { code = 3; tick = 0; left = 0; right = 0; tried = count }
record_with not_least count = record { code = 4; tick = 0; left = 0; right = 0; tried = count }
record_with not_judged count = record { code = 5; tick = 0; left = 0; right = 0; tried = count }

-- "It is the named tick plus 1 for code 2, and 0 for code 5. Else it is the horizon for kinds 4 to 7 and the horizon
-- plus 1 for kinds 1 to 3. The second test in kinds 5 and 7 isn't counted."
unfoldable pub ticks_tried : Claim → Verdict → ℕ
unfolding tried
ticks_tried c accepted = tried c
ticks_tried c (refuted_at tick left right) = tick + 1
ticks_tried c refuted_by_rate = tried c
ticks_tried c not_least = tried c
ticks_tried c not_judged = 0

unfoldable pub record_of : Claim → Verdict → Record
unfolding record_with ticks_tried
record_of c v = record_with v (ticks_tried c v)

unfoldable pub record_on : Claim → Record
unfolding record_of verdict
record_on c = record_of c (verdict c)
