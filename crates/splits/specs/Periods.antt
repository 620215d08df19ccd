-- Where a tick stands in the periods of f and of g.
--
--     Placed                  so many of f's periods after a tick before the settled one: placed_none, placed_next,
--                             placed_back; placed_value: what gains is there what it was then, and the turns'
--                             increments; placed_late, placed_soon, added_fits: how far back that is, and how much is
--                             added
--     Turned                  its place in g's period: turned_none, turned_early, turned_next, turned_back
use Rattle.std.specs.Prelude.{ℕ, suc, ◌+◌, ◌-◌, ◌*◌, ◌≤◌, ◌<◌, ◌≡◌, refl, ◌⊎◌}
use Rattle.std.proofs.Common.{ap, ◌∙◌, inl, inr, ⊎_elim, arith, mul-le-mul_left, mul-le-mul_right}
use Rattle.minplus.specs.Gains.{Gains, gains_many}

-- ---- f's periods

-- n is so many of f's periods after a tick at, before the settled one; and the turns' increments are added
pub record Placed (settled d c n at added : ℕ) : Type 0 where
  pub turns : ℕ
  pub at_is : n ≡ at + turns * d
  pub added_is : added ≡ turns * c
  pub inside : at < settled
  pub late : (turns ≡ 0) ⊎ (settled ≤ at + d)

pub placed_none : (settled d c : ℕ) → 0 < settled → Placed settled d c 0 0 0
placed_none settled d c some = record { turns = 0; at_is = omega arith; added_is = omega arith; inside = some; late = inl refl }

module _ {settled d c n at added : ℕ} (p : Placed settled d c n at added) where
  pub placed_next : at + 1 < settled → Placed settled d c (n + 1) (at + 1) added
  placed_next more = record {
    turns = p.turns;
    at_is = omega (arith, p.at_is);
    added_is = p.added_is;
    inside = more;
    late = ⊎_elim (λ none. inl none) (λ past. inr (omega (arith, past))) p.late;
  }

  pub placed_back : 0 < d → d ≤ settled → at + 1 ≡ settled → Placed settled d c (n + 1) (settled - d) (added + c)
  placed_back positive fits last = record {
    turns = suc p.turns;
    at_is = omega (arith, p.at_is, last, fits);
    added_is = omega (arith, p.added_is);
    inside = omega (arith, positive, fits);
    late = inr (omega (arith, fits));
  }

  pub placed_value : {S : ℕ → ℕ} {K : ℕ} → Gains S K d c → K + d ≤ settled → S n ≡ S at + added
  placed_value {S} {K} gains soon =
      ⊎_elim
      (λ none.
      let here : n ≡ at = omega (arith, p.at_is, ap (λ (x : ℕ). x * d) none) in
      let nothing : added ≡ 0 = omega (arith, p.added_is, ap (λ (x : ℕ). x * c) none) in
      ap S here ∙ omega (arith, nothing))
      (λ past. ap S p.at_is ∙ (gains_many gains p.turns).gain at (omega (arith, past, soon)) ∙ omega (arith, p.added_is))
      p.late

  -- the tick itself where no period is over, and else one of the last before the settled one
  pub placed_late : (m : ℕ) → m ≤ n → m + d ≤ settled → m ≤ at
  placed_late m le soon = ⊎_elim (λ none. omega (arith, le, p.at_is, ap (λ (x : ℕ). x * d) none)) (λ past. omega (arith, past, soon)) p.late

  pub placed_soon : at ≤ n
  placed_soon = omega (arith, p.at_is)

  -- no more than a unit limit for each tick
  pub added_fits : {limit : ℕ} → 0 < d → c ≤ limit → added ≤ n * limit
  added_fits {limit} positive fits =
      let turns-few : p.turns ≤ n = omega (arith, p.at_is, mul-le-mul_left p.turns positive) in
      omega (arith, p.added_is, mul-le-mul_left p.turns fits, mul-le-mul_right limit turns-few)

-- ---- g's periods

-- the place of n in g's period, 0 before g's rank
pub record Turned (t e n q : ℕ) : Type 0 where
  pub inside : q < e
  pub early : n ≤ t → q ≡ 0
  pub rounds : t ≤ n → (J : ℕ) × (n ≡ t + J * e + q)

pub turned_none : (t e : ℕ) → 0 < e → Turned t e 0 0
turned_none t e positive = record { inside = positive; early = λ le. refl; rounds = λ le. (0, omega (arith, le)) }

module _ {t e n q : ℕ} (turned : Turned t e n q) where
  pub turned_early : n < t → Turned t e (n + 1) q
  turned_early before = record {
    inside = turned.inside;
    early = λ le. turned.early (omega (arith, before));
    rounds = λ le. (0, omega (arith, le, before, turned.early (omega (arith, before))));
  }

  pub turned_next : t ≤ n → q + 1 < e → Turned t e (n + 1) (q + 1)
  turned_next late more = record {
    inside = more;
    early = λ le. absurd (omega (arith, le, late));
    rounds = λ le. let r = turned.rounds late in (r.0, omega (arith, r.1));
  }

  pub turned_back : t ≤ n → q + 1 ≡ e → Turned t e (n + 1) 0
  turned_back late last = record {
    inside = omega (arith, last);
    early = λ le. absurd (omega (arith, le, late));
    rounds = λ le. let r = turned.rounds late in (suc r.0, omega (arith, r.1, last));
  }
