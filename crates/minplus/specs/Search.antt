-- Searches over the ticks from 0 on: the least and the greatest of finitely many numbers, and the first tick at which a
-- test passes. Each recurses at its end, as a loop that counts up does. What is used of them is their laws.
--
--     best choose h k   what choose keeps of h(0) to h(k), taken in order: never of an empty list
--     best-next         one more number; best_same: it depends on those numbers alone
--     least h k         the least of h(0) to h(k): a lower bound of them (least_lower) that is one of them
--                       (least_attained)
--     greatest h k      the greatest of them, likewise (greatest_upper, greatest_attained)
--     first_below p k   the first n < k with p(n), if there is one; IsFirst says so (first_below_lem); first_nowhere,
--                       first_at: the answer from what it would find
--     all_below p k     p(n) for every n < k (all_below_lem)
--     both_true         two tests; true_unless, false_unless: a test that can't have the other answer
--     numbered number l k     the first of l that has the number k: it has it (numbered-so); none, if none has it
--                       (numbered_none)
use Prim.Native.Nat.{ℕ, zero, suc, ◌-◌, ◌≤◌, ◌<◌, min, max}
use Rattle.std.specs.Prelude.{◌≡◌, Bool, ◌&&◌, ◌↔◌, ◌⊎◌}
use Rattle.std.proofs.Math.Path.{refl, ap, subst}
use Rattle.std.proofs.Common.{sym, ◌∙◌, true≢false, inl, inr, le_refl, le_of_lt, lt_of_not-le}
use Rattle.std.proofs.Math.Bool.{true, false}
use Rattle.std.proofs.lemmas.Bool.{false≢true}
use mathlib.Core.List.{List, [], ◌∷◌}
use Rattle.std.proofs.Math.Option.{Option, none, some, some-injective}
use Rattle.std.proofs.Math.Dec.{eqb}
use borrow.Author.Tests.{eqb-true, ne_eqb}
use borrow.Author.Count.{below_more}
use native.Mathlib.Omega.{arith}
use Rattle.std.proofs.Math.Nat.{min-le_right, le-max_right, min-eq_left, min-eq_right, max-eq_left, max-eq_right}
use Rattle.std.proofs.Math.Decide.{dec_le}

unfoldable pub best : (ℕ → ℕ → ℕ) → (ℕ → ℕ) → ℕ → ℕ
best choose h zero = h zero
best choose h (suc k) = choose (best choose h k) (h (suc k))

-- one step of a loop that counts up from 1
pub best-next : (choose : ℕ → ℕ → ℕ) (h : ℕ → ℕ) (k : ℕ) → 1 ≤ k → best choose h k ≡ choose (best choose h (k - 1)) (h k)
unfolding best
best-next choose h zero le = absurd (omega (arith, le))
best-next choose h (suc k) le = let e : suc k - 1 ≡ k = omega arith in rw e

pub best_same : (choose : ℕ → ℕ → ℕ) (h h' : ℕ → ℕ) (k : ℕ) → ((n : ℕ) → n ≤ k → h n ≡ h' n) → best choose h k ≡ best choose h' k
unfolding best
best_same choose h h' zero same = same zero (omega arith)
best_same choose h h' (suc k) same = rw (best_same choose h h' k (λ n le. same n (omega arith)), same (suc k) (omega arith))

module _ (choose : ℕ → ℕ → ℕ) (R : ℕ → ℕ → Type 0) (here : (a : ℕ) → R a a)
    (earlier : (a b x : ℕ) → R a x → R (choose a b) x) (later : (a b : ℕ) → R (choose a b) b) where
  best_bounds : (h : ℕ → ℕ) (k n : ℕ) → n < suc k → R (best choose h k) (h n)
  unfolding best
  best_bounds h zero n lt = let e : n ≡ zero = omega arith in subst (λ (m : ℕ). R (h zero) (h m)) (sym e) (here (h zero))
  best_bounds h (suc k) n lt =
      below_more (λ m. R (choose (best choose h k) (h (suc k))) (h m)) (suc k)
      (λ m l. earlier (best choose h k) (h (suc k)) (h m) (best_bounds h k m l))
      (later (best choose h k) (h (suc k))) n (omega arith)

module _ (choose : ℕ → ℕ → ℕ) (either : (a b : ℕ) → (choose a b ≡ a) ⊎ (choose a b ≡ b)) where
  best_attained : (h : ℕ → ℕ) (k : ℕ) → (n : ℕ) × (n ≤ k) × (best choose h k ≡ h n)
  unfolding best
  best_attained h zero = (zero, omega arith, refl)
  best_attained h (suc k) = go (best_attained h k) (either (best choose h k) (h (suc k)))
    where
      go : (n : ℕ) × (n ≤ k) × (best choose h k ≡ h n) → (choose (best choose h k) (h (suc k)) ≡ best choose h k) ⊎ (choose (best choose h k) (h (suc k)) ≡ h (suc k))
          → (n : ℕ) × (n ≤ suc k) × (choose (best choose h k) (h (suc k)) ≡ h n)
      go t (inl e) = (t.0, omega (arith, t.1), e ∙ t.2)
      go t (inr e) = (suc k, omega arith, e)

abbrev pub least : (ℕ → ℕ) → ℕ → ℕ
least h k = best min h k

abbrev pub greatest : (ℕ → ℕ) → ℕ → ℕ
greatest h k = best max h k

pub least_lower : (h : ℕ → ℕ) (k n : ℕ) → n ≤ k → least h k ≤ h n
least_lower h k n le = best_bounds min (λ a b. a ≤ b) le_refl (λ a b x le. omega arith) min-le_right h k n (omega arith)

pub greatest_upper : (h : ℕ → ℕ) (k n : ℕ) → n ≤ k → h n ≤ greatest h k
greatest_upper h k n le = best_bounds max (λ a b. b ≤ a) le_refl (λ a b x le. omega arith) le-max_right h k n (omega arith)

pub least_attained : (h : ℕ → ℕ) (k : ℕ) → (n : ℕ) × (n ≤ k) × (least h k ≡ h n)
least_attained h k = best_attained min (λ a b. elim (dec_le a b) [ yes le ↦ inl (min-eq_left le) | no gt ↦ inr (min-eq_right (le_of_lt (lt_of_not-le gt))) ]) h k

pub greatest_attained : (h : ℕ → ℕ) (k : ℕ) → (n : ℕ) × (n ≤ k) × (greatest h k ≡ h n)
greatest_attained h k = best_attained max (λ a b. elim (dec_le b a) [ yes le ↦ inl (max-eq_left le) | no gt ↦ inr (max-eq_right (le_of_lt (lt_of_not-le gt))) ]) h k

-- p, tried at 0, 1, 2 and so on up to k - 1
unfoldable pub first_below : (ℕ → Bool) → ℕ → Option ℕ
first_below p zero = none
first_below p (suc k) = elim (first_below p k) [ some n ↦ some n | none ↦ elim (p k) [ true ↦ some k | false ↦ none ] ]

pub data IsFirst (p : ℕ → Bool) (k : ℕ) : Option ℕ → Type 0 where
  nowhere : ((n : ℕ) → n < k → p n ≡ false) → IsFirst p k none
  somewhere : (n : ℕ) → n < k → p n ≡ true → ((m : ℕ) → m < n → p m ≡ false) → IsFirst p k (some n)

pub first_below_lem : (p : ℕ → Bool) (k : ℕ) → IsFirst p k (first_below p k)
unfolding first_below
first_below_lem p zero = nowhere (λ n lt. absurd (omega (arith, lt)))
first_below_lem p (suc k) = go (first_below p k) (first_below_lem p k) (p k) refl
  where
    go : (o : Option ℕ) → IsFirst p k o → (b : Bool) → p k ≡ b
        → IsFirst p (suc k) (elim o [ some n ↦ some n | none ↦ elim b [ true ↦ some k | false ↦ none ] ])
    go (some _) (somewhere n lt e before) b q = somewhere n (omega arith) e before
    go none (nowhere all) true q = somewhere k (omega arith) q all
    go none (nowhere all) false q = nowhere (λ n lt. below_more (λ m. p m ≡ false) k all q n (omega arith))

-- the search's answer from what it would find
pub first_nowhere : (p : ℕ → Bool) (k : ℕ) → ((n : ℕ) → n < k → p n ≡ false) → first_below p k ≡ none
first_nowhere p k all = go (first_below p k) (first_below_lem p k)
  where
    go : (o : Option ℕ) → IsFirst p k o → o ≡ none
    go none (nowhere _) = refl
    go (some _) (somewhere n lt e before) = absurd (true≢false (sym e ∙ all n lt))

pub first_at : (p : ℕ → Bool) (k n : ℕ) → n < k → p n ≡ true → ((m : ℕ) → m < n → p m ≡ false) → first_below p k ≡ some n
first_at p k n lt here before = go (first_below p k) (first_below_lem p k)
  where
    go : (o : Option ℕ) → IsFirst p k o → o ≡ some n
    go none (nowhere all) = absurd (true≢false (sym here ∙ all n lt))
    go (some _) (somewhere m lt' here' before') =
        let no-later : ¬ (n < m) = λ less. true≢false (sym here ∙ before' n less) in
        let no_sooner : ¬ (m < n) = λ less. true≢false (sym here' ∙ before m less) in
        let same : m ≡ n = omega (arith, no-later, no_sooner) in
        ap some same

unfoldable pub all_below : (ℕ → Bool) → ℕ → Bool
all_below p zero = true
all_below p (suc k) = all_below p k && p k

pub both_true : (a b : Bool) → (a && b ≡ true) ↔ ((a ≡ true) × (b ≡ true))
both_true true b = (λ e. (refl, e), λ t. t.1)
both_true false b = (λ e. absurd (false≢true e), λ t. t.0)

pub true_unless : (b : Bool) → ¬ (b ≡ false) → b ≡ true
true_unless true h = refl
true_unless false h = absurd (h refl)

pub false_unless : (b : Bool) → ¬ (b ≡ true) → b ≡ false
false_unless true h = absurd (h refl)
false_unless false h = refl

pub all_below_lem : (p : ℕ → Bool) (k : ℕ) → (all_below p k ≡ true) ↔ ((n : ℕ) → n < k → p n ≡ true)
unfolding all_below
all_below_lem p zero = (λ e n lt. absurd (omega (arith, lt)), λ all. refl)
all_below_lem p (suc k) =
    let both = both_true (all_below p k) (p k) in
    let rest = all_below_lem p k in (
      λ e n lt. below_more (λ m. p m ≡ true) k (rest.0 (both.0 e).0) (both.0 e).1 n (omega arith),
      λ all. both.1 (rest.1 (λ n lt. all n (omega arith)), all k (omega arith)),
    )

unfoldable pub numbered : {A : Type 0} → (A → ℕ) → List A → ℕ → Option A
numbered number [] k = none
numbered number (a ∷ rest) k = elim (eqb k (number a)) [ true ↦ some a | false ↦ numbered number rest k ]

module _ {A : Type 0} (number : A → ℕ) where
  pub numbered-so : (l : List A) (k : ℕ) (a : A) → numbered number l k ≡ some a → k ≡ number a
  unfolding numbered
  numbered-so [] k a e = cc
  numbered-so (a' ∷ rest) k a e = go (eqb k (number a')) refl (numbered-so rest k a) e
    where
      go : (b : Bool) → eqb k (number a') ≡ b → (numbered number rest k ≡ some a → k ≡ number a)
          → elim b as (λ _. Option A) [ true ↦ some a' | false ↦ numbered number rest k ] ≡ some a → k ≡ number a
      go true same later found = eqb-true k (number a') same ∙ ap number (some-injective a' a found)
      go false other later found = later found

  pub numbered_none : (l : List A) (k : ℕ) → ((a : A) → ¬ (k ≡ number a)) → numbered number l k ≡ none
  unfolding numbered
  numbered_none [] k other = refl
  numbered_none (a ∷ rest) k other = rw (ne_eqb k (number a) (other a), numbered) (numbered_none rest k other)
