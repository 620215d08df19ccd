-- The theorems' hypotheses can be met: by the curves of W3, W4 and W8. And one of them is needed: a service that falls
-- has another exact delay than the longest of its least waits.
--
--     well_formed_A, well_formed_B, well_formed_AB     they are well formed
--     convolution_AB, exact_delay_AB   so W4 and W8, which are accepted, hold at every tick, without end
--     outpaced_AB                      and W12, which is refuted by rate, has the faster curve on its left
--     crossed_AB                       Slower, which the laws of N ask, can be met as well
--     folded_AB                        from tick 2 on the convolution of W4 needs three splits: v = 0 and 1, and v = 2,
--                                      carried on
--     folded_BB                        B with itself has the split v = 2 from tick 4 on, as no split past the half is
--                                      needed
--     rising_B, waits_AB               B never falls, so the 3 of W8 is the longest wait; bounded_AB: and there had to
--                                      be one
--     vendor_claimed, vendor_waits     the vendor's curve, which falls: the table's exact delay of flat 10 on it is 19,
--                                      and the longest wait is 1
use Rattle.std.specs.Prelude.{ℕ, ◌+◌, ◌-◌, ◌*◌, ◌/◌, ◌%◌, ◌≤◌, ◌<◌, min, ◌≡◌, refl}
use Rattle.std.proofs.Common.{lit<, lit≤, ap, ◌∙◌, mod-lt, arith}
use Rattle.std.proofs.Math.Logic.Iff.{rfl}
use Rattle.std.proofs.Math.Nat.{mod-add-div'}
use Rattle.minplus.specs.Claim.{Bound, Claim, Claimed, HorizontalDeviation, LeastWait, at_most, bounds, convolution, delay, due, equals, exactly}
use Rattle.minplus.specs.Conv.{conv}
use Rattle.minplus.specs.Curve.{WellFormed, value, value_gains, well_formed_lem, well_formed}
use Rattle.minplus.proofs.Curve.{value_repeats}
use Rattle.minplus.proofs.Delay.{bounded_exactly, delay_means, gains_serve, least_wait}
use Rattle.minplus.proofs.Exact.{accepted_exactly, rate_exactly}
use Rattle.minplus.specs.Folded.{carried, first_half, least_from}
use Rattle.minplus.proofs.Folded.{conv_folded, reached_all, reached_half}
use Rattle.minplus.specs.Gains.{every_period}
use Rattle.minplus.specs.Ground.{A, B, conv_ab, ten, vendor}
use Rattle.minplus.specs.Horizon.{minimum_n}
use Rattle.minplus.specs.Meaning.{Outpaced, well_formed_proper}
use Rattle.minplus.proofs.Ranks.{crossed}
use Rattle.minplus.specs.Rising.{NeverFalls}
use Rattle.minplus.proofs.Rising.{rising_exactly}
use Rattle.minplus.specs.Verdict.{verdict}

well_formed_A : WellFormed A
unfolding well_formed A
well_formed_A = (well_formed_lem A).0 refl

well_formed_B : WellFormed B
unfolding well_formed B
well_formed_B = (well_formed_lem B).0 refl

well_formed_AB : WellFormed conv_ab
unfolding well_formed conv_ab
well_formed_AB = (well_formed_lem conv_ab).0 refl

pub convolution_AB : (n : ℕ) → value conv_ab n ≡ conv (value A) (value B) n
unfolding verdict A B conv_ab due
convolution_AB =
    let c : Claim = equals convolution A B conv_ab in
    ((accepted_exactly c (well_formed_proper c (well_formed_A, well_formed_B, well_formed_AB))).0 refl).1

pub exact_delay_AB : Claimed (bounds delay exactly A B 3)
unfolding verdict A B
exact_delay_AB =
    let c : Claim = bounds delay exactly A B 3 in
    ((accepted_exactly c (well_formed_proper c (well_formed_A, well_formed_B, lit≤ tt))).0 refl).1

-- W12, and its test c*d' > c'*d
pub outpaced_AB : Outpaced (bounds delay at_most B A 0)
unfolding verdict A B
outpaced_AB =
    let c : Claim = bounds delay at_most B A 0 in
    ((rate_exactly c (well_formed_proper c (well_formed_B, well_formed_A, lit≤ tt))).0 refl).2

-- where rates differ: the N of W3 is 7, and from there on A is below B
pub crossed_AB : (n : ℕ) → 7 ≤ n → value A n ≤ value B n
unfolding minimum_n A B
crossed_AB n le = crossed A B well_formed_A.period_positive well_formed_B.period_positive (lit< tt) n le (omega arith) (omega arith)

-- B has rank 2, period 1 and increment 2
pub folded_AB : (n : ℕ) → 2 ≤ n
    → conv (value A) (value B) n ≡ min (least_from (value A) (value B) 0 1 n n) (carried (λ m. least_from (value A) (value B) 2 0 m m) 2 1 2 n)
unfolding B
folded_AB = conv_folded (value_gains B well_formed_B.period_positive) well_formed_B.period_positive (reached_all (value A) (value B)) (λ m. rfl)

pub folded_BB : (n : ℕ) → 4 ≤ n
    → conv (value B) (value B) n ≡ min (least_from (value B) (value B) 0 1 (n / 2) n) (carried (λ m. least_from (value B) (value B) 2 0 (m / 2) m) 4 1 2 n)
unfolding B
folded_BB = conv_folded (value_gains B well_formed_B.period_positive) well_formed_B.period_positive (reached_half (value B)) (first_half 2)

rising_B : NeverFalls (value B)
rising_B = (rising_exactly B well_formed_B.period_positive).0 well_formed_B.rises

-- W8 in the words of source document 003
pub waits_AB : HorizontalDeviation (value A) (value B) 3
waits_AB = (delay_means A B well_formed_A.period_positive well_formed_B.period_positive well_formed_B.rises exactly 3).0 exact_delay_AB

pub bounded_AB : (X : ℕ) × Bound delay (value A) (value B) X
unfolding A B
bounded_AB =
    let rises = well_formed_B.rises in
    (bounded_exactly A B well_formed_A.period_positive well_formed_B.period_positive rises).1 (
      lit≤ tt,
      gains_serve A B well_formed_A.period_positive well_formed_B.period_positive rises (lit≤ tt),
    )

pub vendor_claimed : Claimed (bounds delay exactly ten vendor 19)
unfolding verdict ten vendor
vendor_claimed = ((accepted_exactly (bounds delay exactly ten vendor 19) (lit≤ tt, lit≤ tt)).0 refl).1

-- 10 is served at every odd tick
pub vendor_waits : HorizontalDeviation (value ten) (value vendor) 1
unfolding value ten vendor
vendor_waits = (
  λ s. by_parity s (s % 2) (s / 2) (mod-lt s (lit< tt)) (mod-add-div' s 2),
  (0, record { serves = lit≤ tt; no_sooner = λ v lt. let e : v ≡ 0 = omega (arith, lt) in rw e (lit< tt) }),
)
  where
    all_ten : (s : ℕ) → value ten s ≡ 10
    all_ten s = every_period (λ n. value ten n ≡ 10) 0 1 (lit< tt) (λ n lt. let e : n ≡ 0 = omega (arith, lt) in rw e) (λ n le e. (value_gains ten (lit≤ tt)).gain n (omega arith) ∙ omega (arith, e)) s

    odd : (k : ℕ) → value vendor (1 + k * 2) ≡ 10 + k * 1
    odd k = value_repeats vendor (lit≤ tt) 1 k (omega arith)

    by_parity : (s r k : ℕ) → r < 2 → r + k * 2 ≡ s → (w : ℕ) × LeastWait (value ten) (value vendor) s w × (w ≤ 1)
    by_parity s r k lt e =
        let at : s + (1 - r) ≡ 1 + k * 2 = omega (arith, lt, e) in
        let wait = least_wait (value ten) (value vendor) s (1 - r) (omega (arith, all_ten s, ap (value vendor) at, odd k)) in
        (wait.0, wait.1, omega (arith, wait.2))
