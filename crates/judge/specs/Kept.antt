-- The curves of a book as a run keeps them: decoded once, each in its place.
--
--     nothing, curve_kept         what the code finds past the last place; curve k
--     Kept s places curves n      the first n curves are kept
--     claim_kept, ClaimReady      what a claim's field states over the curves that are kept, and what judging it asks
--     kept_stated, kept_refused   the record, by what the field states
--     kept_curve, kept_lent       of a curve that is well formed: it is the curve of what is kept, which can be lent
--     kept_claim, kept_ready      of a claim of a sound book: that is what is read there, and all that is asked holds
use Prim.Native.Nat.{ℕ, ◌+◌, ◌≤◌, ◌<◌}
use Rattle.std.specs.Prelude.{◌≡◌, refl, Result, Ok, Err}
use Rattle.std.proofs.Math.Path.{sym, ap}
use Rattle.std.proofs.Common.{subst, ◌∙◌}
use mathlib.Core.List.{List, []}
use Rattle.std.proofs.Math.Option.{Option, none, some}
use native.Mathlib.Omega.{arith}
use Rattle.std.proofs.Math.ListN.{length, get_or}
use Rattle.minplus.specs.Curve as M
use Rattle.minplus.specs.Curve.{WellFormed}
use Rattle.curve.specs.declared.Curve.{Curve}
use Rattle.curve.specs.Steps.{Steps, Lent}
use Rattle.curve.specs.Held.{steps_in, curve_of, holding, holding_back, holding-length}
use Rattle.minplus.specs.Claim as M'
use Rattle.minplus.specs.Verdict.{not_judged, record_on, record_with}
use Rattle.curve.specs.declared.Claim.{Claim}
use Rattle.curve.specs.declared.Claim.TheVariants.{Equals, AtMost, Exactly}
use Rattle.curve.specs.Claimed.{LentClaim, claim_of, claim_over}
use Rattle.curve.specs.Kinds.{x_of}
use Rattle.content.specs.declared.Stated.{Stated}
use Rattle.content.specs.declared.Refusal.{Refusal}
use Rattle.content.specs.Refusals.{claim_field}
use Rattle.field.specs.Fields.{content_at}
use Rattle.book.specs.Values.{curve_named}
use Rattle.judge.specs.Claims.{StandsOver, claim_read, record_for, claim_read_lem}

abbrev pub nothing : Curve
nothing = record { form = record { rank = record { 0 = 0 }; period = record { 0 = 0 }; increment = 0; first = 0 }; rises = [] }

abbrev pub curve_kept : List Curve → ℕ → Curve
curve_kept curves k = get_or curves k nothing

pub record Kept (s places : List ℕ) (curves : List Curve) (n : ℕ) : Type 0 where
  pub room : n ≤ length curves
  pub kept : (k : ℕ) → k < n → curve_kept curves k ≡ holding (curve_named s places k)

-- what a claim's field states, of the curves that are kept
unfoldable pub claim_kept : List Curve → Result Stated Refusal → Option M'.Claim
claim_kept curves (Ok st) = some (claim_of st.claim (curve_kept curves st.left) (curve_kept curves st.right) (curve_kept curves st.claimed))
claim_kept curves (Err x) = none

-- what is known of what it states
pub record ClaimReady (curves : List Curve) (field : Result Stated Refusal) : Type 0 where
  pub left_named : (st : Stated) → field ≡ Ok st → st.left < length curves
  pub right_named : (st : Stated) → field ≡ Ok st → st.right < length curves
  pub claimed_named : (st : Stated) → field ≡ Ok st → st.claimed < length curves
  pub lent : (st : Stated) → field ≡ Ok st
      → LentClaim st.claim (steps_in (curve_kept curves st.left)) (steps_in (curve_kept curves st.right)) (steps_in (curve_kept curves st.claimed))

-- ---- laws

pub kept_stated : (curves : List Curve) (st : Stated)
    → record_on (claim_of st.claim (curve_kept curves st.left) (curve_kept curves st.right) (curve_kept curves st.claimed)) ≡ record_for (claim_kept curves (Ok st))
unfolding claim_kept record_for
kept_stated curves st = refl

pub kept_refused : (curves : List Curve) (x : Refusal) → record_with not_judged 0 ≡ record_for (claim_kept curves (Err x))
unfolding claim_kept record_for
kept_refused curves x = refl

-- what is lent may be said in other words
pub lent_claim : (c : Claim) {f g h f' g' h' : Steps} → f ≡ f' → g ≡ g' → h ≡ h' → LentClaim c f' g' h' → LentClaim c f g h
lent_claim c e e' e'' lent = rw (e, e', e'') lent

module _ {s places : List ℕ} {curves : List Curve} {n : ℕ} (kept : Kept s places curves n) (k : ℕ) (lt : k < n) (w : WellFormed (curve_named s places k)) where
  pub kept_curve : curve_of (curve_kept curves k) ≡ curve_named s places k
  kept_curve = ap curve_of (kept.kept k lt) ∙ holding_back (curve_named s places k) w

  pub kept_lent : Lent (steps_in (curve_kept curves k))
  kept_lent = record {
    room =
        let count = ap (λ (f : M.Curve). f.rank + f.period) kept_curve in
        let long : length (curve_kept curves k).rises ≡ M.max_listed = ap (λ (f : Curve). length f.rises) (kept.kept k lt) ∙ holding-length (curve_named s places k) in
        omega (arith, count, long, w.count_fits);
    well = subst WellFormed (sym kept_curve) w;
  }

-- a claim of a book whose curves are kept
module _ {s places : List ℕ} {curves : List Curve} {p : ℕ} (over : StandsOver s places (length curves) p) (kept : Kept s places curves (length curves)) where
  is : {k : ℕ} → k < length curves → curve_of (curve_kept curves k) ≡ curve_named s places k
  is {k} lt = kept_curve kept k lt (over.each_well k lt)

  pub kept_claim : claim_kept curves (claim_field (length curves) (content_at s p)) ≡ claim_read s places (length curves) p
  unfolding claim_kept
  kept_claim =
      let st : Stated = over.stands.stated in
      ap (claim_kept curves) over.stands.so
      ∙ (λ i. some (claim_over st.claim (is over.stands.left_named i) (is over.stands.right_named i) (is over.stands.claimed_named i)))
      ∙ sym (claim_read_lem over)

  pub kept_ready : ClaimReady curves (claim_field (length curves) (content_at s p))
  kept_ready = record {
    left_named = λ st e. omega (arith, ap (λ (x : Stated). x.left) (same st e), over.stands.left_named);
    right_named = λ st e. omega (arith, ap (λ (x : Stated). x.right) (same st e), over.stands.right_named);
    claimed_named = λ st e. omega (arith, ap (λ (x : Stated). x.claimed) (same st e), over.stands.claimed_named);
    lent = λ st e.
        subst (λ (x : Stated). LentClaim x.claim (steps_in (curve_kept curves x.left)) (steps_in (curve_kept curves x.right)) (steps_in (curve_kept curves x.claimed))) (sym (same st e))
        (go over.stands.stated.claim over.stands.x_fits);
  }
    where
      same : (st : Stated) → claim_field (length curves) (content_at s p) ≡ Ok st → st ≡ over.stands.stated
      same st e = cc over.stands.so

      lent : (k : ℕ) → k < length curves → Lent (steps_in (curve_kept curves k))
      lent k lt = kept_lent kept k lt (over.each_well k lt)

      go : (c : Claim) → x_of c ≤ M'.max_x
          → LentClaim c (steps_in (curve_kept curves over.stands.stated.left)) (steps_in (curve_kept curves over.stands.stated.right)) (steps_in (curve_kept curves over.stands.stated.claimed))
      go (Equals o) x = (lent _ over.stands.left_named, lent _ over.stands.right_named, lent _ over.stands.claimed_named)
      go (AtMost d) x = (lent _ over.stands.left_named, lent _ over.stands.right_named, x)
      go (Exactly d) x = (lent _ over.stands.left_named, lent _ over.stands.right_named, x)
