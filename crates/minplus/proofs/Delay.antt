-- Kinds 4 and 5 mean what source document 003 defines in its equation 7, on ticks. Document 02, A2: "the accepted exact
-- delay is the largest, over all s, of the least wait that serves f(s)".
--
-- Only the right curve has to rise for it, and periods are above 0; the left curve may be any.
--
--     delay_means            Delayed (specs/Delay.antt) is what document 01's table says of them, for every X
--     delay_accepted         so code 1 exactly when the horizon is at most 4,096 and it is so
--     delay_not_least        and code 4 exactly when it is at most 4,096 and the deviation is less than X (delay_loose)
--     least_wait, least_wait_one     a tick that some wait serves has a least one, and only one; deviation_one: so two
--                            horizontal deviations are one
--     no_wait                X = 0: the deviation exactly when f is at or below g throughout
--     unserved               a tick that no wait serves: no X is a bound, and none is the deviation; flat_unserved: so
--                            it is where g gains nothing and f(s) is above g(T')
--     bounded_exactly        some X is a bound exactly when f is not faster than g and some wait serves each tick;
--                            deviation_exactly: exactly then there is a horizontal deviation
--     gains_serve            a g that gains serves each tick
use Prim.Native.Nat.{ℕ, suc, ◌+◌, ◌-◌, ◌*◌, ◌≤◌, ◌<◌, max}
use Rattle.std.specs.Prelude.{◌≡◌, Bool, ◌↔◌, ◌⊎◌, leb}
use Rattle.std.proofs.Common.{inl, inr, le_refl, le-ltb, leb-false, leb-true, ltb-false}
use Rattle.std.proofs.Math.Option.{Option, none, some}
use native.Mathlib.Omega.{arith}
use Rattle.std.proofs.Math.Nat.{not-le_of_lt}
use Rattle.minplus.specs.Search.{IsFirst, first_below_lem, first_below, greatest, greatest_upper, nowhere, somewhere}
use Rattle.minplus.specs.Curve.{Curve, Rising, value}
use Rattle.minplus.specs.Claim.{Bound, Claim, Claimed, HorizontalDeviation, LeastWait, Tightness, WaitsAtMost, allowed, at_most, bounds, delay, exactly}
use Rattle.minplus.specs.Horizon.{common_period, horizon, max_horizon}
use Rattle.minplus.specs.Meaning.{Loose, Rule}
use Rattle.minplus.specs.Verdict.{accepted, by_rate, not_least, tried, verdict}
use Rattle.minplus.specs.Rising.{NeverFalls}
use Rattle.minplus.proofs.Rising.{flat_from, gains_past, rising_exactly}
use Rattle.minplus.proofs.Exact.{accepted_exactly, claimed, least_bound, rate_kept, tried_enough, verdict_exact}
use Rattle.minplus.specs.Delay.{Delayed}

-- ---- any functions

module _ (f g : ℕ → ℕ) where
  pub least_wait : (s X : ℕ) → f s ≤ g (s + X) → (w : ℕ) × LeastWait f g s w × (w ≤ X)
  least_wait s X served = go (first_below enough (suc X)) (first_below_lem enough (suc X))
    where
      enough : ℕ → Bool
      enough w = leb (f s) (g (s + w))

      go : (o : Option ℕ) → IsFirst enough (suc X) o → (w : ℕ) × LeastWait f g s w × (w ≤ X)
      go none (nowhere all) = absurd (not-le_of_lt (leb-false _ _ (all X (omega arith))) served)
      go (some _) (somewhere w lt e before) = (w, record { serves = leb-true _ _ e; no_sooner = λ v less. leb-false _ _ (before v (omega (arith, less))) }, omega (arith, lt))

  pub least_wait_one : (s w w' : ℕ) → LeastWait f g s w → LeastWait f g s w' → w ≡ w'
  least_wait_one s w w' l l' =
      let no_less : ¬ (w < w') = λ less. not-le_of_lt (l'.no_sooner w less) l.serves in
      let no_more : ¬ (w' < w) = λ less. not-le_of_lt (l.no_sooner w' less) l'.serves in
      omega (arith, no_less, no_more)

  -- each is at least the other, by the tick that waits so long
  pub deviation_one : (X X' : ℕ) → HorizontalDeviation f g X → HorizontalDeviation f g X' → X ≡ X'
  deviation_one X X' h h' = omega (arith, at_least X X' h h', at_least X' X h' h)
    where
      at_least : (X X' : ℕ) → HorizontalDeviation f g X → HorizontalDeviation f g X' → X ≤ X'
      at_least X X' (all, (s, wait)) h' =
          let other = h'.0 s in
          omega (arith, least_wait_one s X other.0 wait other.1, other.2)

  pub no_wait : HorizontalDeviation f g 0 ↔ ((s : ℕ) → f s ≤ g s)
  no_wait = (
    λ h s.
        let wait = h.0 s in
        let here : s + wait.0 ≡ s = omega (arith, wait.2) in
        rw here at wait.1.serves,
    λ below. (λ s. (0, at_once below s, le_refl 0), (0, at_once below 0)),
  )
    where
      at_once : ((s : ℕ) → f s ≤ g s) → (s : ℕ) → LeastWait f g s 0
      at_once below s =
          let here : s + 0 ≡ s = omega arith in
          record { serves = rw here (below s); no_sooner = λ v lt. absurd (omega (arith, lt)) }

  pub unserved : (s : ℕ) → ((w : ℕ) → g (s + w) < f s) → (X : ℕ) → (¬ (Bound delay f g X)) × (¬ (HorizontalDeviation f g X))
  unfolding allowed
  unserved s never X = (λ all. not-le_of_lt (never X) (all s), λ h. let wait = h.0 s in not-le_of_lt (never wait.0) wait.1.serves)

  -- a wait that serves still serves where it is longer
  pub bound_means : NeverFalls g → (X : ℕ) → Bound delay f g X ↔ WaitsAtMost f g X
  unfolding allowed
  bound_means rises X = (
    λ all s. least_wait s X (all s),
    λ waits s. let wait = waits s in omega (arith, wait.1.serves, rises (s + wait.0) (s + X) (omega (arith, wait.2))),
  )

-- ---- kinds 4 and 5

module _ (f g : Curve) (positive : 1 ≤ f.period) (positive' : 1 ≤ g.period) (rising : Rising g) where
  abbrev rises : NeverFalls (value g)
  rises = (rising_exactly g positive').0 rising

  pub delay_means : (t : Tightness) (X : ℕ) → Claimed (bounds delay t f g X) ↔ Delayed t (value f) (value g) X
  unfolding allowed
  delay_means at_most X = bound_means (value f) (value g) rises X
  delay_means exactly X =
      let both = claimed (bounds delay exactly f g X) (positive, positive') in
      let waits = bound_means (value f) (value g) rises X in (
        λ t. (waits.0 t.0, longest t.0 (both.0 t).1),
        λ h. (waits.1 h.0, λ some-wait all. let at = h.1 in not-le_of_lt (at.1.no_sooner (X - 1) (omega (arith, some-wait))) (all at.0)),
      )
    where
      -- X = 0 is the wait of every tick; else a tick that X-1 does not serve waits for X
      longest : Bound delay (value f) (value g) X → (X ≡ 0) ⊎ ((s : ℕ) × (¬ (value f s ≤ value g (s + (X - 1))))) → (s : ℕ) × LeastWait (value f) (value g) s X
      longest all (inl e) = (0, record { serves = all 0; no_sooner = λ v lt. absurd (omega (arith, lt, e)) })
      longest all (inr (s, late)) = (s, record { serves = all s; no_sooner = λ v lt. omega (arith, late, rises (s + v) (s + (X - 1)) (omega (arith, lt))) })

  pub delay_accepted : (t : Tightness) (X : ℕ)
      → (verdict (bounds delay t f g X) ≡ accepted) ↔ ((horizon (bounds delay t f g X) ≤ max_horizon) × Delayed t (value f) (value g) X)
  delay_accepted t X =
      let code = accepted_exactly (bounds delay t f g X) (positive, positive') in
      let means = delay_means t X in
      (λ v. ((code.0 v).0, means.0 (code.0 v).1), λ h. code.1 (h.0, means.1 h.1))

  -- what code 4 says of kind 5: X is a bound, and so is X-1
  pub delay_loose : (X : ℕ) → (((s : ℕ) → Rule (bounds delay exactly f g X) s) × Loose (bounds delay exactly f g X))
      ↔ ((Y : ℕ) × (Y < X) × HorizontalDeviation (value f) (value g) Y)
  unfolding allowed
  delay_loose X = (
    λ (all, loose).
        let least = least_bound delay f g positive positive' (X - 1) loose.1 in
        (least.0, omega (arith, least.1, loose.0), (delay_means exactly least.0).0 least.2),
    λ (Y, less, h). (from Y h X (omega (arith, less)), (omega (arith, less), from Y h (X - 1) (omega (arith, less)))),
  )
    where
      -- what is longer than the deviation is a bound
      from : (Y : ℕ) → HorizontalDeviation (value f) (value g) Y → (X : ℕ) → Y ≤ X → (s : ℕ) → value f s ≤ value g (s + X)
      from Y h X le s = omega (arith, (bound_means (value f) (value g) rises Y).1 h.0 s, rises (s + Y) (s + X) (omega (arith, le)))

  pub delay_not_least : (X : ℕ)
      → (verdict (bounds delay exactly f g X) ≡ not_least)
      ↔ ((horizon (bounds delay exactly f g X) ≤ max_horizon) × (Y : ℕ) × (Y < X) × HorizontalDeviation (value f) (value g) Y)
  delay_not_least X =
      let code = verdict_exact (bounds delay exactly f g X) (positive, positive') not_least in
      let loose = delay_loose X in (
        λ v. let less = loose.0 ((code.0 v).1, (code.0 v).2) in ((code.0 v).0, less.0, less.1, less.2),
        λ (near, Y, less, h). let both = loose.1 (Y, less, h) in code.1 (near, both.0, both.1),
      )

  -- g gains nothing: from its rank on it is g(T')
  pub flat_unserved : g.increment ≡ 0 → (s : ℕ) → value g g.rank < value f s
      → (X : ℕ) → (¬ (Bound delay (value f) (value g) X)) × (¬ (HorizontalDeviation (value f) (value g) X))
  flat_unserved flat s above = unserved (value f) (value g) s (λ w. omega (arith, above, flat_from g positive' rising flat (s + w)))

  pub gains_serve : 1 ≤ g.increment → (s : ℕ) → (w : ℕ) × (value f s ≤ value g (s + w))
  gains_serve gains s =
      let w : ℕ = g.rank + value f s * g.period in
      (w, gains_past g positive' rising gains (value f s) (s + w) (omega arith))

  -- each tick that is tried is served by the longest of their waits
  pub bounded_exactly : ((X : ℕ) × Bound delay (value f) (value g) X)
      ↔ ((f.increment * g.period ≤ g.increment * f.period) × ((s : ℕ) → (w : ℕ) × (value f s ≤ value g (s + w))))
  unfolding allowed by_rate tried horizon
  bounded_exactly = (
    λ (X, all). (ltb-false _ _ (rate_kept (bounds delay at_most f g X) (positive, positive') all), λ s. (X, all s)),
    λ (slow, served).
        let end : ℕ = max f.rank g.rank + common_period f g in
        let longest : ℕ = greatest (λ s. (served s).0) end in
        let c : Claim = bounds delay at_most f g longest in (
          longest,
          tried_enough c (positive, positive') (le-ltb _ _ slow) (λ s lt. omega (
            arith,
            (served s).1,
            rises (s + (served s).0) (s + longest) (omega (arith, greatest_upper (λ s. (served s).0) end s (omega (arith, lt)))),
          )),
        ),
  )

  pub deviation_exactly : ((X : ℕ) × HorizontalDeviation (value f) (value g) X)
      ↔ ((f.increment * g.period ≤ g.increment * f.period) × ((s : ℕ) → (w : ℕ) × (value f s ≤ value g (s + w))))
  deviation_exactly = (
    λ (X, h). bounded_exactly.0 (X, (bound_means (value f) (value g) rises X).1 h.0),
    λ slow-served.
        let bounded = bounded_exactly.1 slow-served in
        let least = least_bound delay f g positive positive' bounded.0 bounded.1 in
        (least.0, (delay_means exactly least.0).0 least.2),
  )
