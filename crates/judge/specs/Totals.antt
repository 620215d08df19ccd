-- The totals. Document 01, 'Verdicts': "Totals: accepted, refuted and not judged add up to the claims counted in the
-- book. Each is the number of records with its codes: 1 accepted; 2, 3 and 4 refuted; 5 not judged."
--
--     is_accepted, is_refuted, is_unjudged     the codes of each
--     count_to p codes n      how many of codes(0) to codes(n-1) are such
--     totals_to codes n       the three totals over them; counted: with one code more (totals_more); Countable: no more
--                             than a book may have
--     together                their sum
--     totals_word             as an answer
--     totals_add_up           of the records on claims they add up
--     count_all               all are such exactly when as many are
--     code_of                 the code of a verdict's record, whatever the ticks tried (code_with)
--     each_code               one record of each code: one accepted, three refuted, one not judged, as an answer
use Rattle.std.specs.Prelude.{ℕ, zero, suc, ◌+◌, ◌*◌, ◌^◌, ◌≤◌, ◌<◌, ◌≡◌, refl, ◌↔◌, Bool, true, false, ◌||◌, eqb}
use Rattle.std.proofs.Math.Option.{Option, none, some}
use Rattle.std.proofs.Common.{arith, add-one, below_more}
use Rattle.minplus.specs.Claim.{Claim}
use Rattle.minplus.specs.Verdict.{Verdict, accepted, refuted_at, refuted_by_rate, not_least, not_judged, record_with, ticks_tried, verdict}
use Rattle.field.specs.Steps.{max_claims}
use Rattle.judge.specs.declared.Totals.{Totals}
use Rattle.judge.specs.Answer.{answer_with}
use Rattle.judge.specs.Claims.{record_for}

abbrev pub is_accepted : ℕ → Bool
is_accepted code = eqb code 1

abbrev pub is_refuted : ℕ → Bool
is_refuted code = eqb code 2 || eqb code 3 || eqb code 4

abbrev pub is_unjudged : ℕ → Bool
is_unjudged code = eqb code 5

-- one more, if it is such
abbrev more : Bool → ℕ → ℕ
more true n = n + 1
more false n = n

unfoldable pub count_to : (ℕ → Bool) → (ℕ → ℕ) → ℕ → ℕ
count_to p codes zero = 0
count_to p codes (suc n) = more (p (codes n)) (count_to p codes n)

unfoldable pub totals_to : (ℕ → ℕ) → ℕ → Totals
unfolding count_to
totals_to codes n = record { accepted = count_to is_accepted codes n; refuted = count_to is_refuted codes n; unjudged = count_to is_unjudged codes n }

abbrev pub together : Totals → ℕ
together t = t.accepted + t.refuted + t.unjudged

-- as the answer on a sound book
abbrev pub totals_word : Totals → ℕ
totals_word t = answer_with 0 0 t.accepted t.refuted t.unjudged

-- the totals with one record more
unfoldable pub counted : Totals → ℕ → Totals
counted t code = record {
  accepted = more (is_accepted code) t.accepted;
  refuted = more (is_refuted code) t.refuted;
  unjudged = more (is_unjudged code) t.unjudged;
}

abbrev pub code_of : Verdict → ℕ
code_of v = (record_with v 0).code

-- of no more claims than a book may have
pub record Countable (t : Totals) : Type 0 where
  pub few : together t ≤ max_claims

-- ---- laws

pub totals_more : (codes : ℕ → ℕ) (n : ℕ) → counted (totals_to codes n) (codes n) ≡ totals_to codes (n + 1)
unfolding counted totals_to
totals_more codes n = rw (add-one n)

pub code_with : (v : Verdict) (n : ℕ) → (record_with v n).code ≡ code_of v
unfolding record_with
code_with accepted n = refl
code_with (refuted_at tick left right) n = refl
code_with refuted_by_rate n = refl
code_with not_least n = refl
code_with not_judged n = refl

pub totals_add_up : (f : ℕ → Option Claim) (n : ℕ) → together (totals_to (λ k. (record_for (f k)).code) n) ≡ n
unfolding totals_to record_for
totals_add_up f zero = refl
totals_add_up f (suc n) = go (f n) _ _ _ (totals_add_up f n)
  where
    by-verdict : (v : Verdict) (count : ℕ) (a b c : ℕ) → a + b + c ≡ n
        → more (is_accepted (record_with v count).code) a + more (is_refuted (record_with v count).code) b + more (is_unjudged (record_with v count).code) c ≡ suc n
    by-verdict accepted count a b c e = omega (arith, e)
    by-verdict (refuted_at tick left right) count a b c e = omega (arith, e)
    by-verdict refuted_by_rate count a b c e = omega (arith, e)
    by-verdict not_least count a b c e = omega (arith, e)
    by-verdict not_judged count a b c e = omega (arith, e)

    go : (o : Option Claim) (a b c : ℕ) → a + b + c ≡ n
        → more (is_accepted (record_for o).code) a + more (is_refuted (record_for o).code) b + more (is_unjudged (record_for o).code) c ≡ suc n
    go none a b c e = by-verdict not_judged 0 a b c e
    go (some x) a b c e = by-verdict (verdict x) (ticks_tried x (verdict x)) a b c e

-- of n codes no more than n are such; if n are, each is
count_most : (p : ℕ → Bool) (codes : ℕ → ℕ) (n : ℕ) → count_to p codes n ≤ n
unfolding count_to
count_most p codes zero = omega arith
count_most p codes (suc n) = go (p (codes n)) (count_most p codes n)
  where
    go : (b : Bool) {m : ℕ} → m ≤ n → more b m ≤ suc n
    go true le = omega (arith, le)
    go false le = omega (arith, le)

pub count_all : (p : ℕ → Bool) (codes : ℕ → ℕ) (n : ℕ) → (count_to p codes n ≡ n) ↔ ((k : ℕ) → k < n → p (codes k) ≡ true)
unfolding count_to
count_all p codes zero = (λ e k lt. absurd (omega (arith, lt)), λ each. refl)
count_all p codes (suc n) = (to (p (codes n)) refl (count_all p codes n).0, back (count_all p codes n).1)
  where
    to : (b : Bool) → p (codes n) ≡ b → (count_to p codes n ≡ n → (k : ℕ) → k < n → p (codes k) ≡ true) → more b (count_to p codes n) ≡ suc n
        → (k : ℕ) → k < suc n → p (codes k) ≡ true
    to true is before e k lt = below_more (λ j. p (codes j) ≡ true) n (before (omega (arith, e))) is k (omega (arith, lt))
    to false is before e k lt = absurd (omega (arith, e, count_most p codes n))

    back : (((k : ℕ) → k < n → p (codes k) ≡ true) → count_to p codes n ≡ n) → ((k : ℕ) → k < suc n → p (codes k) ≡ true) → more (p (codes n)) (count_to p codes n) ≡ suc n
    back before each = rw (each n (omega arith), before (λ k lt. each k (omega arith))) (omega arith)

pub each_code : totals_word (totals_to suc 5) ≡ 2 ^ 24 + 3 * 2 ^ 36 + 2 ^ 48
unfolding totals_to
each_code = refl
