-- What a verdict says of its claim at every tick, without end. verdict_exact (proofs/Exact.antt) shows that the
-- computed verdict is the one verdict that says what is so.
--
--     Rule c n      the claim's rule at one tick: the Claims table without its "at every tick"
--     Proper c      no curve of c has period 0: all that the theorems ask, and a well-formed claim is such
--                   (well_formed_proper)
--     Tight c       kinds 5 and 7: X = 0, or X-1 fails at some tick
--     Loose c       kinds 5 and 7: X > 0, and X-1 holds at every tick
--     Outpaced c    kinds 4 to 7: f is faster than g; rate_exactly (proofs/Exact.antt): exactly this is what code 3
--                   tests
--     Meaning c v   the table of verdicts, over all ticks
use Rattle.std.specs.Prelude.{ℕ, ◌-◌, ◌≤◌, ◌<◌, ◌≡◌, ◌⊎◌}
use Rattle.minplus.specs.Claim.{Claim, WellFormedClaim, allowed, at_most, bounds, due, equals, exactly}
use Rattle.minplus.specs.Curve.{value}
use Rattle.minplus.specs.Horizon.{Slower, horizon, max_horizon}
use Rattle.minplus.specs.Verdict.{Verdict, accepted, left_at, not_judged, not_least, refuted_at, refuted_by_rate, right_at, tried}

abbrev pub Rule : Claim → ℕ → Type 0
Rule (equals op f g h) n = value h n ≡ due op (value f) (value g) n
Rule (bounds δ t f g X) s = value f s ≤ allowed δ (value g) X s

abbrev pub Proper : Claim → Type 0
Proper (equals op f g h) = (1 ≤ f.period) × (1 ≤ g.period) × (1 ≤ h.period)
Proper (bounds δ t f g X) = (1 ≤ f.period) × (1 ≤ g.period)

pub well_formed_proper : (c : Claim) → WellFormedClaim c → Proper c
well_formed_proper (equals op f g h) w = (w.0.period_positive, w.1.period_positive, w.2.period_positive)
well_formed_proper (bounds δ t f g X) w = (w.0.period_positive, w.1.period_positive)

abbrev pub Tight : Claim → Type 0
Tight (equals op f g h) = Unit {0}
Tight (bounds δ at_most f g X) = Unit {0}
Tight (bounds δ exactly f g X) = (X ≡ 0) ⊎ ((s : ℕ) × (¬ (Rule (bounds δ exactly f g (X - 1)) s)))

abbrev pub Loose : Claim → Type 0
Loose (equals op f g h) = ⊥
Loose (bounds δ at_most f g X) = ⊥
Loose (bounds δ exactly f g X) = (0 < X) × ((s : ℕ) → Rule (bounds δ exactly f g (X - 1)) s)

-- "kinds 4 to 7, c*d' > c'*d"
abbrev pub Outpaced : Claim → Type 0
Outpaced (equals op f g h) = ⊥
Outpaced (bounds δ t f g X) = Slower g f

abbrev pub Meaning : Claim → Verdict → Type 0
-- 1: the rule holds at every tick, and X is the least where that is claimed
Meaning c accepted = (horizon c ≤ max_horizon) × ((n : ℕ) → Rule c n) × Tight c
-- 2: the tick is the first that breaks the rule, it is a tried one, and both values are its values
Meaning c (refuted_at tick left right) =
    (horizon c ≤ max_horizon) × (tick < tried c) × ((m : ℕ) → m < tick → Rule c m) × (¬ (Rule c tick)) × (left ≡ left_at c tick) × (right ≡ right_at c tick)
-- 3: no tried tick breaks the rule, and some later one does
Meaning c refuted_by_rate = (horizon c ≤ max_horizon) × ((n : ℕ) → n < tried c → Rule c n) × ((n : ℕ) × (¬ (Rule c n)))
-- 4: the rule holds at every tick, and so it does for X-1
Meaning c not_least = (horizon c ≤ max_horizon) × ((n : ℕ) → Rule c n) × Loose c
-- 5
Meaning c not_judged = max_horizon < horizon c
