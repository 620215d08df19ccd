-- Common multiples that stop counting, and the horizon that they are enough for.
--
-- Document 02, A6: "The helper that gives least common multiples shall answer 4,097 for anything above 4,096, also when
-- it is given 4,097."
--
--     capped            a number as far as it is counted: the lesser of it and 4,097
--     capped_twice      D capped, and then P capped over that, is P capped: of any three periods
--     capped_given      from 4,097 or more it is 4,097, in either place, whatever the other period
--     plus_capped, max-capped     sums and greater ones are the same of numbers that are capped to one
--     horizon_from      the answer for a horizon: itself up to 4,096, and above that none (horizon_at, horizon_above)
--     horizon-capped    which is the same of numbers that are capped to one
--     capped_rows, horizon_rows     computed
use Rattle.std.specs.Prelude.{ℕ, ◌+◌, ◌≤◌, ◌<◌, min, max, ◌≡◌, refl, ◌↔◌, ◌⊎◌, Bool, true, false, ltb, Option, Some, None}
use Rattle.std.proofs.Common.{sym, ap, ◌∙◌, inl, inr, ⊎_elim, arith, ltb-true, ltb-false}
use Rattle.minplus.specs.Divisor.{gcd, lcm, lcm_at_least, lcm_comm, lcm-min}
use Rattle.minplus.specs.Horizon.{max_horizon}
use Rattle.curve.specs.declared.Ticks.{Ticks}

abbrev pub capped : ℕ → ℕ
capped n = min n 4_097

unfoldable pub horizon_from : ℕ → Option Ticks
horizon_from n = elim (ltb max_horizon n) [ true ↦ None | false ↦ Some (record { 0 = n }) ]

-- ---- laws

pub capped_twice : (d e h : ℕ) → capped (lcm (capped (lcm d e)) h) ≡ capped (lcm (lcm d e) h)
capped_twice d e h = lcm-min 4_097 (lcm d e) h

pub capped_given : (d h : ℕ) → 4_097 ≤ d → 0 < h → (capped (lcm d h) ≡ 4_097) × (capped (lcm h d) ≡ 4_097)
capped_given d h above some =
    let given : capped (lcm d h) ≡ 4_097 = omega (arith, lcm_at_least d h some) in
    (given, ap capped (lcm_comm h d) ∙ given)

pub plus_capped : (a b m n : ℕ) → capped a ≡ capped b → capped m ≡ capped n → capped (a + m) ≡ capped (b + n)
plus_capped a b m n e e' = omega arith

pub max-capped : (a b n : ℕ) → capped a ≡ capped b → capped (max a n) ≡ capped (max b n)
max-capped a b n e = omega arith

-- which of the two it is, and why
abbrev Stands : ℕ → Type 0
Stands n = ((n ≤ max_horizon) × (horizon_from n ≡ Some (record { 0 = n }))) ⊎ ((max_horizon < n) × (horizon_from n ≡ None))

horizon_either : (n : ℕ) → Stands n
unfolding horizon_from
horizon_either n = go (ltb max_horizon n) refl
  where
    go : (far : Bool) → ltb max_horizon n ≡ far → Stands n
    go true e = inr (ltb-true max_horizon n e, rw (e, horizon_from))
    go false e = inl (ltb-false max_horizon n e, rw (e, horizon_from))

-- "A horizon above 4,096 gives "not judged"": exactly when
pub horizon_at : (n : ℕ) (t : Ticks) → (horizon_from n ≡ Some t) ↔ ((n ≡ t.0) × (n ≤ max_horizon))
horizon_at n t = (
  λ is. ⊎_elim (λ w. (cc (is, w.1), w.0)) (λ w. absurd (cc (is, w.1))) (horizon_either n),
  λ at. ⊎_elim (λ w. w.1 ∙ ap (λ (m : ℕ). Some (record { 0 = m })) at.0) (λ w. absurd (omega (arith, at.1, w.0))) (horizon_either n),
)

pub horizon_above : (n : ℕ) → (horizon_from n ≡ None) ↔ (max_horizon < n)
horizon_above n = (
  λ is. ⊎_elim (λ w. absurd (cc (is, w.1))) (λ w. w.0) (horizon_either n),
  λ far. ⊎_elim (λ w. absurd (omega (arith, far, w.0))) (λ w. w.1) (horizon_either n),
)

pub horizon-capped : (a b : ℕ) → capped a ≡ capped b → horizon_from a ≡ horizon_from b
horizon-capped a b same =
    ⊎_elim (λ w. ap horizon_from (omega (arith, same, w.0))) (λ w. w.1 ∙ sym ((horizon_above b).1 (omega (arith, same, w.0)))) (horizon_either a)

-- ---- rows

-- at the limit, one and two above it, with a common divisor, of large periods, from 4,097, of the largest numbers and 0
pub capped_rows : (capped (lcm 4_096 1) ≡ 4_096) × (capped (lcm 17 241) ≡ 4_097) × (capped (lcm 2 2_049) ≡ 4_097)
    × (capped (lcm 128 96) ≡ 384) × (capped (lcm 255 256) ≡ 4_097) × (capped (lcm (capped (lcm 255 256)) 254) ≡ 4_097)
    × (capped (lcm 4_097 1) ≡ 4_097) × (capped (lcm 4_294_967_295 4_294_967_294) ≡ 4_097) × (capped (lcm 4_294_967_295 0) ≡ 0)
unfolding gcd lcm
capped_rows = (refl, refl, refl, refl, refl, refl, refl, refl, refl)

pub horizon_rows : (horizon_from 4_096 ≡ Some (record { 0 = 4_096 })) × (horizon_from 4_097 ≡ None) × (horizon_from 0 ≡ Some (record { 0 = 0 }))
unfolding horizon_from
horizon_rows = (refl, refl, refl)
