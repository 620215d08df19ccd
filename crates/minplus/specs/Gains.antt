-- Functions that gain the same amount over every period. This is the currency of all that follows: a curve gains its
-- increment over its period from its rank on, and every rank theorem takes such facts and gives one.
--
--     Gains F K P a     F(n + P) = F(n) + a for every n >= K
--     gains_many        over k periods, k times the gain: the fact about repeated periods, for any F, K, P and a
--     gains_multiple    over a multiple of the period
--     gains_later       from any later tick on; gains_same: for a function that is the same at every tick
--     gained_back       the gain seen from the end of a period
--     gains_sum         a sum gains both gains
--     every_period      a fact at every tick, from the ticks below K + P and a step over P
--     equal_forever     two functions that gain over P from K on and agree on 0 to K + P agree at every tick
--     below_forever     F <= G at the ticks below K + P and F gains no more than G: F <= G at every tick
--     outgrows          F gains more than G: F > G at some tick
use Rattle.std.specs.Prelude.{ℕ, zero, suc, ◌+◌, ◌-◌, ◌*◌, ◌/◌, ◌≤◌, ◌<◌, ◌≡◌}
use Rattle.std.specs.Int.{◌∣◌}
use Rattle.std.proofs.Common.{sym, ap, ◌∙◌, subst, arith, mul-le-mul_left, sub-add_cancel}
use Rattle.std.proofs.Math.Nat.{div-mul_cancel}
use Rattle.std.proofs.Math.Decide.{dec_le}
use mathlib.Core.WellFounded.{induction}
use lib.WfN.{lt-wf_rel}

pub record Gains (F : ℕ → ℕ) (K P a : ℕ) : Type 0 where
  pub gain : (n : ℕ) → K ≤ n → F (n + P) ≡ F n + a

pub gains_many : {F : ℕ → ℕ} {K P a : ℕ} → Gains F K P a → (k : ℕ) → Gains F K (k * P) (k * a)
gains_many {F} {K} {P} {a} G zero = record {
  gain = λ n le.
      let e : n + zero * P ≡ n = omega arith in
      ap F e ∙ omega arith;
}
gains_many {F} {K} {P} {a} G (suc k) = record {
  gain = λ n le.
      let e : n + suc k * P ≡ n + k * P + P = omega arith in
      ap F e ∙ G.gain (n + k * P) (omega arith) ∙ ap (λ (x : ℕ). x + a) ((gains_many G k).gain n le) ∙ omega arith;
}

pub gains_multiple : {F : ℕ → ℕ} {K P a : ℕ} → Gains F K P a → (M : ℕ) → P ∣ M → Gains F K M (M / P * a)
gains_multiple {F} {K} {P} {a} G M multiple =
    subst (λ (Q : ℕ). Gains F K Q (M / P * a)) (div-mul_cancel P multiple) (gains_many G (M / P))

pub gains_later : {F : ℕ → ℕ} {K P a : ℕ} (K' : ℕ) → K ≤ K' → Gains F K P a → Gains F K' P a
gains_later K' h G = record { gain = λ n le. G.gain n (omega arith) }

pub gains_same : {F G : ℕ → ℕ} {K P a : ℕ} → ((n : ℕ) → F n ≡ G n) → Gains F K P a → Gains G K P a
gains_same {P = P} same G = record { gain = λ n le. omega (arith, same n, same (n + P), G.gain n le) }

pub gained_back : {F : ℕ → ℕ} {K P a : ℕ} → Gains F K P a → (n : ℕ) → K + P ≤ n → F n ≡ F (n - P) + a
gained_back {F} {K} {P} G n le = ap F (sym (sub-add_cancel {n = n} {m = P} (omega arith))) ∙ G.gain (n - P) (omega arith)

pub gains_sum : {F G : ℕ → ℕ} {K P a b : ℕ} → Gains F K P a → Gains G K P b → Gains (λ n. F n + G n) K P (a + b)
gains_sum {F} {G} GF GG = record { gain = λ n le. omega (arith, GF.gain n le, GG.gain n le) }

-- a fact at every tick, from the ticks up to K + P - 1 and a step over one period: P ticks are never left out, since
-- P > 0
module _ (S : ℕ → Type 0) (K P : ℕ) (positive : 0 < P) (first : (n : ℕ) → n < K + P → S n) (step : (n : ℕ) → K ≤ n → S n → S (n + P)) where
  pub every_period : (n : ℕ) → S n
  every_period n = induction lt-wf_rel.wf {C = S} n (λ m below. elim (dec_le (K + P) m) [
    | yes le ↦ subst S (sub-add_cancel {n = m} {m = P} (omega arith)) (step (m - P) (omega arith) (below (m - P) (omega arith)))
    | no ge ↦ first m (omega (arith, ge))
  ])

pub equal_forever : {F G : ℕ → ℕ} {K P a b : ℕ} → 0 < P → Gains F K P a → Gains G K P b
    → ((n : ℕ) → n ≤ K + P → F n ≡ G n) → (n : ℕ) → F n ≡ G n
equal_forever {F} {G} {K} {P} {a} {b} positive GF GG agree =
    every_period (λ n. F n ≡ G n) K P positive (λ n h. agree n (omega arith))
    (λ n le e. omega (arith, GF.gain n le, GG.gain n le, e, same))
  where
    same : a ≡ b
    same = omega (arith, GF.gain K (omega arith), GG.gain K (omega arith), agree K (omega arith), agree (K + P) (omega arith))

pub below_forever : {F G : ℕ → ℕ} {K P a b : ℕ} → 0 < P → Gains F K P a → Gains G K P b → a ≤ b
    → ((n : ℕ) → n < K + P → F n ≤ G n) → (n : ℕ) → F n ≤ G n
below_forever {F} {G} {K} {P} positive GF GG slower first =
    every_period (λ n. F n ≤ G n) K P positive first (λ n le h. omega (arith, GF.gain n le, GG.gain n le, h))

pub outgrows : {F G : ℕ → ℕ} {K P a b : ℕ} → Gains F K P a → Gains G K P b → b < a → (n : ℕ) × (G n < F n)
outgrows {F} {G} {K} {P} {a} {b} GF GG faster =
    let k : ℕ = suc (G K) in (
      K + k * P,
      omega (arith, (gains_many GF k).gain K (omega arith), (gains_many GG k).gain K (omega arith), mul-le-mul_left (suc (G K)) faster),
    )
