-- The exactness theorems: what the finite rule answers is what holds at every tick, without end.
--
--     verdict_exact       the verdict on c is v exactly when Meaning c v: every verdict, every kind
--     verdict_one         two verdicts that Meaning allows are one
--     accepted_exactly    code 1 exactly when the horizon is at most 4,096 and what is claimed is so
--     rate_exactly        code 3 exactly when the horizon is at most 4,096, no tried tick breaks the rule and c*d' >
--                         c'*d
--     backlog_exact       kind 7 claims the vertical deviation (kinds 4 and 5: Delay.antt)
--     least_bound         where X is a bound, some Y of at most X is the least: what kinds 5 and 7 claim of it is so
--     results_judged      kinds 1 to 3 within 4,096: accepted and equal at every tick, or the first tick that differs
--                         is named with both values
--     refuted_exactly     so there code 2 is given exactly when h and the due value differ somewhere
--     (codes 5 and 4, what code 3 says of later ticks and what code 2 names are verdict_exact as it stands)
--
-- Before them: a tick's test and its rule (rule_kept, rule_broken), from the tried ticks to every tick (results_agree,
-- tried_enough, rate_outpaced, rate_due), and what each test on the way to a verdict tells (break_none, break_at,
-- break_found, less_means).
use Rattle.std.specs.Prelude.{ℕ, zero, suc, ◌+◌, ◌-◌, ◌≤◌, ◌<◌, max, ◌≡◌, refl, Bool, true, false, ◌↔◌, ◌⊎◌, ltb}
use Rattle.std.proofs.Common.{sym, ap, ◌∙◌, subst, inl, inr, ⊎_elim, arith, eq-zero-or-pos, le_refl, not-le_of_lt, ltb-true, ltb-false, lt-ltb, le-ltb, eqb-true}
use Rattle.std.proofs.lemmas.Bool.{false≢true, eqb-false, not-true, not-false}
use Rattle.std.proofs.Math.Option.{Option, none, some}
use Rattle.minplus.specs.Claim.{Bound, Claim, Claimed, Deviation, Operation, VerticalDeviation, allowed, at_most, backlog, bounds, delay, due, equals, exactly}
use Rattle.minplus.specs.Curve.{Curve, value, value_gains}
use Rattle.minplus.specs.Divisor.{lcm, lcm-left, lcm_positive, lcm_right}
use Rattle.minplus.specs.Gains.{Gains, below_forever, equal_forever, gains_later, gains_multiple, outgrows}
use Rattle.minplus.specs.Horizon.{common_period, full_period, horizon, last_rank, max_horizon, rank_of}
use Rattle.minplus.specs.Meaning.{Loose, Meaning, Outpaced, Proper, Rule, Tight}
use Rattle.minplus.specs.Ranks.{gain_over}
use Rattle.minplus.proofs.Ranks.{common_positive, gain_le, gain_lt, left_gains, rank_gains, right_gains}
use Rattle.minplus.specs.Search.{IsFirst, first_at, first_below_lem, first_nowhere, first_below, nowhere, somewhere, true_unless, false_unless}
use Rattle.minplus.specs.Verdict.{Verdict, accepted, breaks, by_rate, first_break, codes_in_order, left_at, less_holds, not_judged, not_least, refuted_at, refuted_by_rate, right_at, tried, verdict}

-- ---- a tick's test

rule_kept : (c : Claim) (n : ℕ) → breaks c n ≡ false → Rule c n
unfolding breaks left_at right_at
rule_kept (equals op f g h) n e = sym (eqb-true _ _ (not-false _ e))
rule_kept (bounds δ t f g X) n e = ltb-false _ _ e

rule_broken : (c : Claim) (n : ℕ) → breaks c n ≡ true → ¬ (Rule c n)
unfolding breaks left_at right_at
rule_broken (equals op f g h) n e r = eqb-false _ _ (not-true _ e) (sym r)
rule_broken (bounds δ t f g X) n e r = not-le_of_lt (ltb-true _ _ e) r

-- ---- from the tried ticks to every tick

-- kinds 1 to 3: K and P are such that h and the due value both gain over P from K on
results_agree : (op : Operation) (f g h : Curve) → Proper (equals op f g h)
    → ((n : ℕ) → n < tried (equals op f g h) → value h n ≡ due op (value f) (value g) n) → (n : ℕ) → value h n ≡ due op (value f) (value g) n
unfolding tried horizon last_rank full_period
results_agree op f g h p agree =
    let D : ℕ = common_period f g in
    let P : ℕ = lcm D h.period in
    let K : ℕ = max (rank_of op f g) h.rank in
    equal_forever {K = K} (lcm_positive D h.period (common_positive f g p.0 p.1) p.2)
    (gains_later K (omega arith) (gains_multiple (value_gains h p.2) P (lcm_right D h.period)))
    (gains_later K (omega arith) (gains_multiple (rank_gains op f g p.0 p.1) P (lcm-left D h.period)))
    (λ n le. agree n (omega arith))

allowed_gains : (δ : Deviation) (X : ℕ) {G : ℕ → ℕ} {K P b : ℕ} → Gains G K P b → Gains (allowed δ G X) K P b
unfolding allowed
allowed_gains delay X {G} {K} {P} GG = record {
  gain = λ s le.
      let e : s + P + X ≡ s + X + P = omega arith in
      ap G e ∙ GG.gain (s + X) (omega arith);
}
allowed_gains backlog X GG = record { gain = λ s le. omega (arith, GG.gain s le) }

-- kinds 4 to 7: from max(T,T') on both sides gain over D
bound_gains : (δ : Deviation) (f g : Curve) (X : ℕ) → 1 ≤ f.period → 1 ≤ g.period
    → Gains (value f) (max f.rank g.rank) (common_period f g) (gain_over f (common_period f g))
    × Gains (allowed δ (value g) X) (max f.rank g.rank) (common_period f g) (gain_over g (common_period f g))
bound_gains δ f g X positive positive' = (
  gains_later _ (omega arith) (left_gains f g positive positive'),
  allowed_gains δ X (gains_later _ (omega arith) (right_gains f g positive positive')),
)

pub tried_enough : (c : Claim) → Proper c → by_rate c ≡ false → ((n : ℕ) → n < tried c → Rule c n) → (n : ℕ) → Rule c n
unfolding by_rate tried horizon
tried_enough (equals op f g h) p e all = results_agree op f g h p all
tried_enough (bounds δ t f g X) p e all =
    let both = bound_gains δ f g X p.0 p.1 in
    below_forever (common_positive f g p.0 p.1) both.0 both.1 (gain_le f g p.0 p.1 (ltb-false _ _ e)) all

-- kinds 4 to 7: a left curve that is faster passes the right one at some tick
rate_outpaced : (c : Claim) → Proper c → by_rate c ≡ true → (n : ℕ) × (¬ (Rule c n))
unfolding by_rate
rate_outpaced (equals op f g h) p e = absurd (false≢true e)
rate_outpaced (bounds δ t f g X) p e =
    let both = bound_gains δ f g X p.0 p.1 in
    let at = outgrows both.0 both.1 (gain_lt f g p.0 p.1 (ltb-true _ _ e)) in
    (at.0, not-le_of_lt at.1)

-- and only such a one breaks the rule where no tried tick does
rate_due : (c : Claim) → Proper c → ((n : ℕ) → n < tried c → Rule c n) → (n : ℕ) × (¬ (Rule c n)) → by_rate c ≡ true
rate_due c p all at = true_unless (by_rate c) (λ slow. at.1 (tried_enough c p slow all at.0))

-- ---- what each test on the way to a verdict tells

break_none : (c : Claim) → ((n : ℕ) → n < tried c → Rule c n) → first_break c ≡ none
unfolding first_break
break_none c all = first_nowhere (breaks c) (tried c) (λ n lt. false_unless (breaks c n) (λ e. rule_broken c n e (all n lt)))

break_at : (c : Claim) (n : ℕ) → n < tried c → ((m : ℕ) → m < n → Rule c m) → ¬ (Rule c n) → first_break c ≡ some n
unfolding first_break
break_at c n lt before here =
    first_at (breaks c) (tried c) n lt (true_unless (breaks c n) (λ e. here (rule_kept c n e)))
    (λ m less. false_unless (breaks c m) (λ e. rule_broken c m e (before m less)))

data Found (c : Claim) : Option ℕ → Type 0 where
  unbroken : ((n : ℕ) → n < tried c → Rule c n) → Found c none
  broken : (n : ℕ) → n < tried c → ((m : ℕ) → m < n → Rule c m) → ¬ (Rule c n) → Found c (some n)

break_found : (c : Claim) → Found c (first_break c)
unfolding first_break
break_found c = go (first_below (breaks c) (tried c)) (first_below_lem (breaks c) (tried c))
  where
    go : (o : Option ℕ) → IsFirst (breaks c) (tried c) o → Found c o
    go none (nowhere all) = unbroken (λ n lt. rule_kept c n (all n lt))
    go (some _) (somewhere n lt e before) = broken n lt (λ m less. rule_kept c m (before m less)) (rule_broken c n e)

-- the second test of kinds 5 and 7, where the rates have passed
abbrev LessMeans : Claim → Bool → Type 0
LessMeans c true = Loose c
LessMeans c false = Tight c

less_means : (c : Claim) → Proper c → by_rate c ≡ false → LessMeans c (less_holds c)
unfolding less_holds by_rate
less_means (equals op f g h) p slow = tt
less_means (bounds δ at_most f g X) p slow = tt
less_means (bounds δ exactly f g X) p slow = go (ltb 0 X) refl (first_break less) (break_found less)
  where
    less : Claim
    less = bounds δ exactly f g (X - 1)

    go : (b : Bool) → ltb 0 X ≡ b → (o : Option ℕ) → Found less o
        → LessMeans (bounds δ exactly f g X) (elim b as (λ _. Bool) [ true ↦ elim o as (λ _. Bool) [ none ↦ true | some _ ↦ false ] | false ↦ false ])
    go true e none (unbroken all) = (ltb-true 0 X e, tried_enough less p slow all)
    go true e (some _) (broken s _ _ fails) = inr (s, fails)
    go false e o w = inl (omega (arith, ltb-false 0 X e))

loose_tight : (c : Claim) → Loose c → ¬ (Tight c)
loose_tight (equals op f g h) l t = l
loose_tight (bounds δ at_most f g X) l t = l
loose_tight (bounds δ exactly f g X) l (inl e) = absurd (omega (arith, l.0, e))
loose_tight (bounds δ exactly f g X) l (inr t) = t.1 (l.1 t.0)

-- a claim whose rule holds at every tick is not refuted by rate, and its second test is settled
pub rate_kept : (c : Claim) → Proper c → ((n : ℕ) → Rule c n) → by_rate c ≡ false
rate_kept c p all = false_unless (by_rate c) (λ e. let at = rate_outpaced c p e in at.1 (all at.0))

less_settled : (c : Claim) → Proper c → ((n : ℕ) → Rule c n) → (b : Bool) → LessMeans c b → less_holds c ≡ b
less_settled c p all b m = go (less_holds c) (less_means c p (rate_kept c p all)) b m
  where
    go : (a : Bool) → LessMeans c a → (b : Bool) → LessMeans c b → a ≡ b
    go true l true m = refl
    go true l false m = absurd (loose_tight c l m)
    go false l true m = absurd (loose_tight c m l)
    go false l false m = refl

-- ---- exactness

verdict_means : (c : Claim) → Proper c → Meaning c (verdict c)
unfolding verdict
verdict_means c p = go (ltb max_horizon (horizon c)) refl (first_break c) (break_found c) (by_rate c) refl (less_holds c) (less_means c p)
  where
    go : (far : Bool) → ltb max_horizon (horizon c) ≡ far → (o : Option ℕ) → Found c o → (rate : Bool) → by_rate c ≡ rate
        → (less : Bool) → (by_rate c ≡ false → LessMeans c less) → Meaning c (codes_in_order c far o rate less)
    go true e o w rate q less m = ltb-true max_horizon (horizon c) e
    go false e (some _) (broken n lt before here) rate q less m = (ltb-false max_horizon (horizon c) e, lt, before, here, refl, refl)
    go false e none (unbroken all) true q less m = (ltb-false max_horizon (horizon c) e, all, rate_outpaced c p q)
    go false e none (unbroken all) false q true m = (ltb-false max_horizon (horizon c) e, tried_enough c p q all, m q)
    go false e none (unbroken all) false q false m = (ltb-false max_horizon (horizon c) e, tried_enough c p q all, m q)

verdict_meant : (c : Claim) → Proper c → (v : Verdict) → Meaning c v → verdict c ≡ v
unfolding verdict
verdict_meant c p accepted m =
    rw (le-ltb max_horizon (horizon c) m.0, break_none c (λ n lt. m.1 n), rate_kept c p m.1, less_settled c p m.1 false m.2)
verdict_meant c p (refuted_at tick left right) m =
    rw (le-ltb max_horizon (horizon c) m.0, break_at c tick m.1 m.2 m.3, m.4, m.5)
verdict_meant c p refuted_by_rate m =
    rw (le-ltb max_horizon (horizon c) m.0, break_none c m.1, rate_due c p m.1 m.2)
verdict_meant c p not_least m =
    rw (le-ltb max_horizon (horizon c) m.0, break_none c (λ n lt. m.1 n), rate_kept c p m.1, less_settled c p m.1 true m.2)
verdict_meant c p not_judged m = rw (lt-ltb max_horizon (horizon c) m)

pub verdict_exact : (c : Claim) → Proper c → (v : Verdict) → (verdict c ≡ v) ↔ Meaning c v
verdict_exact c p v = (λ e. subst (Meaning c) e (verdict_means c p), verdict_meant c p v)

pub verdict_one : (c : Claim) → Proper c → (v w : Verdict) → Meaning c v → Meaning c w → v ≡ w
verdict_one c p v w m m' = sym (verdict_meant c p v m) ∙ verdict_meant c p w m'

-- what is claimed is the rule at every tick, and X the least where that is claimed
pub claimed : (c : Claim) → Proper c → Claimed c ↔ (((n : ℕ) → Rule c n) × Tight c)
claimed (equals op f g h) p = (λ all. (all, tt), λ t. t.0)
claimed (bounds δ at_most f g X) p = (λ all. (all, tt), λ t. t.0)
claimed (bounds δ exactly f g X) p = (λ t. (t.0, tight t.0 t.1), λ t. (t.0, least t.1))
  where
    c : Claim
    c = bounds δ exactly f g X

    tight : ((s : ℕ) → Rule c s) → (0 < X → ¬ (Bound δ (value f) (value g) (X - 1))) → Tight c
    tight all no_less = go (less_holds c) (less_means c p (rate_kept c p all))
      where
        go : (b : Bool) → LessMeans c b → Tight c
        go true l = absurd (no_less l.0 l.1)
        go false t = t

    least : Tight c → 0 < X → ¬ (Bound δ (value f) (value g) (X - 1))
    least t positive all = loose_tight c (positive, all) t

pub accepted_exactly : (c : Claim) → Proper c → (verdict c ≡ accepted) ↔ ((horizon c ≤ max_horizon) × Claimed c)
accepted_exactly c p =
    let e = verdict_exact c p accepted in (
      λ v. let m = e.0 v in (m.0, (claimed c p).1 (m.1, m.2)),
      λ t. let m = (claimed c p).0 t.1 in e.1 (t.0, m.0, m.1),
    )

rate_told : (c : Claim) → (by_rate c ≡ true) ↔ Outpaced c
unfolding by_rate
rate_told (equals op f g h) = (λ e. absurd (false≢true e), λ none. absurd none)
rate_told (bounds δ t f g X) = (ltb-true _ _, lt-ltb _ _)

pub rate_exactly : (c : Claim) → Proper c
    → (verdict c ≡ refuted_by_rate) ↔ ((horizon c ≤ max_horizon) × ((n : ℕ) → n < tried c → Rule c n) × Outpaced c)
rate_exactly c p =
    let e = verdict_exact c p refuted_by_rate in (
      λ v. let m = e.0 v in (m.0, m.1, (rate_told c).0 (rate_due c p m.1 m.2)),
      λ t. e.1 (t.0, t.1, rate_outpaced c p ((rate_told c).1 t.2)),
    )

-- from a bound down, as long as one less is a bound too
pub least_bound : (δ : Deviation) (f g : Curve) → 1 ≤ f.period → 1 ≤ g.period
    → (X : ℕ) → Bound δ (value f) (value g) X → (Y : ℕ) × (Y ≤ X) × Claimed (bounds δ exactly f g Y)
least_bound δ f g positive positive' zero all = (zero, le_refl zero, (all, λ some-X. absurd (omega (arith, some-X))))
least_bound δ f g positive positive' (suc X) all = go (least_bound δ f g positive positive' X) (less_holds c) (less_means c p (rate_kept c p all))
  where
    c : Claim
    c = bounds δ exactly f g (suc X)

    p : Proper c
    p = (positive, positive')

    go : (Bound δ (value f) (value g) X → (Y : ℕ) × (Y ≤ X) × Claimed (bounds δ exactly f g Y))
        → (b : Bool) → LessMeans c b → (Y : ℕ) × (Y ≤ suc X) × Claimed (bounds δ exactly f g Y)
    go lower true l =
        let e : suc X - 1 ≡ X = omega arith in
        let least = lower (rw e at l.1) in
        (least.0, omega (arith, least.1), least.2)
    go lower false t = (suc X, le_refl (suc X), (claimed c p).1 (all, t))

-- kind 7 claims the vertical deviation
pub backlog_exact : (f g : Curve) (X : ℕ) → 1 ≤ f.period → 1 ≤ g.period
    → Claimed (bounds backlog exactly f g X) ↔ VerticalDeviation (value f) (value g) X
unfolding allowed
backlog_exact f g X positive positive' =
    let both = claimed (bounds backlog exactly f g X) (positive, positive') in (
      λ t.
          let t' = both.0 t in
          (λ s. omega (arith, t.0 s), reached t.0 t'.1),
      λ t. both.1 (λ s. omega (arith, t.0 s), tight t.1),
    )
  where
    reached : ((s : ℕ) → value f s ≤ value g s + X) → (X ≡ 0) ⊎ ((s : ℕ) × (¬ (value f s ≤ value g s + (X - 1)))) → (s : ℕ) × (value f s - value g s ≡ X)
    reached all (inl e) = (0, omega (arith, all 0, e))
    reached all (inr t) = (t.0, omega (arith, all t.0, t.1))

    tight : (s : ℕ) × (value f s - value g s ≡ X) → (X ≡ 0) ⊎ ((s : ℕ) × (¬ (value f s ≤ value g s + (X - 1))))
    tight t = elim (eq-zero-or-pos X) [ inl e ↦ inl e | inr h ↦ inr (t.0, omega (arith, t.1, h)) ]

-- kinds 1 to 3 within the limit: equal at every tick, or the first tick that differs is named with both values
pub results_judged : (op : Operation) (f g h : Curve) → Proper (equals op f g h) → horizon (equals op f g h) ≤ max_horizon
    → ((verdict (equals op f g h) ≡ accepted) × ((n : ℕ) → value h n ≡ due op (value f) (value g) n))
    ⊎ ((n : ℕ) × (verdict (equals op f g h) ≡ refuted_at n (due op (value f) (value g) n) (value h n))
    × ((m : ℕ) → m < n → value h m ≡ due op (value f) (value g) m) × (¬ (value h n ≡ due op (value f) (value g) n)))
unfolding left_at right_at
results_judged op f g h p w = go (verdict c) refl (verdict_means c p)
  where
    c : Claim
    c = equals op f g h

    go : (v : Verdict) → verdict c ≡ v → Meaning c v
        → ((verdict c ≡ accepted) × ((n : ℕ) → Rule c n))
        ⊎ ((n : ℕ) × (verdict c ≡ refuted_at n (left_at c n) (right_at c n)) × ((m : ℕ) → m < n → Rule c m) × (¬ (Rule c n)))
    go accepted e m = inl (e, m.1)
    go (refuted_at n left right) e m = inr (n, e ∙ (λ i. refuted_at n (m.4 i) (m.5 i)), m.2, m.3)
    go refuted_by_rate e m = let at = m.2 in absurd (at.1 (results_agree op f g h p m.1 at.0))
    go not_least e m = absurd m.2
    go not_judged e m = absurd (not-le_of_lt m w)

-- so a difference anywhere is code 2
pub refuted_exactly : (op : Operation) (f g h : Curve) → Proper (equals op f g h)
    → ((n : ℕ) × (left : ℕ) × (right : ℕ) × (verdict (equals op f g h) ≡ refuted_at n left right))
    ↔ ((horizon (equals op f g h) ≤ max_horizon) × (n : ℕ) × (¬ (value h n ≡ due op (value f) (value g) n)))
refuted_exactly op f g h p = (
  λ t. let m = (verdict_exact (equals op f g h) p (refuted_at t.0 t.1 t.2)).0 t.3 in (m.0, t.0, m.3),
  λ t. ⊎_elim (λ a. absurd (t.2 (a.1 t.1))) (λ r. (r.0, _, _, r.1)) (results_judged op f g h p t.0),
)
