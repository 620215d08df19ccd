-- The claims of a book over its curves.
--
--     claim_on s places st            what a claim's field states, of the curves whose fields begin at those places
--     claim_read s places curves p    the claim whose field is at p, among so many curves; claim_for: what it states,
--                                     if it states any
--     record_for, verdict_for         the record and the verdict on it
--     stated_kind                     what is stated is what the content's bytes say of its kind
--     StandsOver                      it is a claim of curves that are there and well formed: so is each of a sound
--                                     book (stands_over)
--     claim_well, claim_read_lem      then it is well formed, and it is what is read there
--     stands_array, claim_array       all the same where the places stand in an array
use Rattle.std.specs.Prelude.{ℕ, ◌≤◌, ◌<◌, ◌≡◌, refl, List, Bool, true, false, length, get_or, eqb, Result, Ok, Err}
use Rattle.std.proofs.Math.Path.{sym, ap}
use Rattle.std.proofs.Common.{subst, ◌∙◌, arith, eqb-true}
use Rattle.std.proofs.Math.Option.{Option, none, some}
use Rattle.std.proofs.lemmas.Bool.{eqb-false}
use Rattle.minplus.specs.Curve.{Curve, WellFormed}
use Rattle.minplus.specs.Claim as M
use Rattle.minplus.specs.Verdict.{Record, Verdict, not_judged, record_on, record_with, verdict}
use Rattle.curve.specs.Filled.{in_array}
use Rattle.curve.specs.Claimed.{claim_over}
use Rattle.curve.specs.Kinds.{x_of}
use Rattle.curve.specs.declared.Claim.{Claim}
use Rattle.curve.specs.declared.Claim.TheVariants.{Equals, AtMost, Exactly}
use Rattle.numbers.specs.Lists.{forall_at}
use Rattle.content.specs.declared.Stated.{Stated}
use Rattle.content.specs.declared.Refusal.TheVariants.{WrongClaim}
use Rattle.content.specs.declared.Refusal.{Refusal}
use Rattle.content.specs.Layout.{kind_in, claim_in, claim_length}
use Rattle.field.specs.Fields.{content_at}
use Rattle.content.specs.Refusals.{Checked, kind_fault, stated_of, stated_or, stated, statement_field, claim_field, claim_odd, claim_whole}
use Rattle.field.specs.Steps.{max_curves}
use Rattle.content.specs.Sound.{Stands, claim_stands}
use Rattle.book.specs.Reading.{Contents}
use Rattle.book.specs.Sound.{SoundClaim, SoundBook}
use Rattle.book.specs.Values.{curve_named, named_array, named_well}

abbrev pub claim_on : List ℕ → List ℕ → Stated → M.Claim
claim_on s places st =
    claim_over st.claim (curve_named s places st.left) (curve_named s places st.right) (curve_named s places st.claimed)

-- a sound book has no field that states none (stands_over)
unfoldable pub claim_for : List ℕ → List ℕ → Result Stated Refusal → Option M.Claim
claim_for s places (Ok st) = some (claim_on s places st)
claim_for s places (Err x) = none

unfoldable pub claim_read : List ℕ → List ℕ → ℕ → ℕ → Option M.Claim
unfolding claim_for claim_field
claim_read s places curves p = claim_for s places (claim_field curves (content_at s p))

-- where no claim is stated, there is nothing to judge, and nothing is tried
unfoldable pub record_for : Option M.Claim → Record
unfolding record_on record_with
record_for none = record_with not_judged 0
record_for (some c) = record_on c

unfoldable pub verdict_for : Option M.Claim → Verdict
unfolding verdict
verdict_for none = not_judged
verdict_for (some c) = verdict c

pub record StandsOver (s places : List ℕ) (curves p : ℕ) : Type 0 where
  pub stands : Stands curves (content_at s p)
  pub few : curves ≤ max_curves
  pub each_well : (n : ℕ) → n < curves → WellFormed (curve_named s places n)

-- ---- laws

-- what a field states is what its bytes say of its kind
pub stated_kind : (curves : ℕ) (content : List ℕ) (st : Stated) → claim_field curves content ≡ Ok st
    → (κ : M.Kind) × (kind_in content ≡ some κ) × (st ≡ stated_of κ (claim_in content))
unfolding statement_field
stated_kind curves content st e = by_length (eqb (length content) (claim_length (claim_in content).kind)) refl
  where
    sound : (κ : M.Kind) (y : Checked) → stated_or y (stated_of κ (claim_in content)) ≡ Ok st → st ≡ stated_of κ (claim_in content)
    sound κ (Err x) e = cc
    sound κ (Ok t) e = cc

    by_kind : (κ : Option M.Kind) → kind_in content ≡ κ → stated κ curves (claim_in content) ≡ Ok st
        → (κ : M.Kind) × (kind_in content ≡ some κ) × (st ≡ stated_of κ (claim_in content))
    by_kind none is e = let z : ◌≡◌ {A = ℕ} 0 1 = cc in absurd (omega (arith, z))
    by_kind (some κ) is e = (κ, is, sound κ (kind_fault κ curves (claim_in content)) e)

    refused_not : ◌≡◌ {A = Result Stated Refusal} (Err WrongClaim) (Ok st) → ⊥
    refused_not e = let z : ◌≡◌ {A = ℕ} 0 1 = cc in omega (arith, z)

    by_length : (b : Bool) → eqb (length content) (claim_length (claim_in content).kind) ≡ b → (κ : M.Kind) × (kind_in content ≡ some κ) × (st ≡ stated_of κ (claim_in content))
    by_length true whole = by_kind (kind_in content) refl (sym (claim_whole curves content (eqb-true _ _ whole)) ∙ e)
    by_length false odd = absurd (refused_not (sym (claim_odd curves content (eqb-false _ _ odd)) ∙ e))

pub stands_over : (s : List ℕ) (c : Contents) → SoundBook s c → (k : ℕ) → k < length c.claims
    → StandsOver s c.curves (length c.curves) (get_or c.claims k 0)
stands_over s c book k lt = record {
  stands = claim_stands (length c.curves) (content_at s (get_or c.claims k 0)) (forall_at (SoundClaim s (length c.curves)) c.claims 0 book.each_claim k lt);
  few = book.curves-fit;
  each_well = named_well book;
}

module _ {s places : List ℕ} {curves p : ℕ} (over : StandsOver s places curves p) where
  pub claim_well : M.WellFormedClaim (claim_on s places over.stands.stated)
  claim_well =
      go over.stands.stated.claim over.stands.x_fits
      (over.each_well _ over.stands.left_named) (over.each_well _ over.stands.right_named) (over.each_well _ over.stands.claimed_named)
    where
      go : (c : Claim) → x_of c ≤ M.max_x → {f g h : Curve} → WellFormed f → WellFormed g → WellFormed h → M.WellFormedClaim (claim_over c f g h)
      go (Equals o) x w w' w'' = (w, w', w'')
      go (AtMost d) x w w' w'' = (w, w', x)
      go (Exactly d) x w w' w'' = (w, w', x)

  pub claim_read_lem : claim_read s places curves p ≡ some (claim_on s places over.stands.stated)
  unfolding claim_read
  claim_read_lem = ap (claim_for s places) over.stands.so

module _ {s places : List ℕ} {curves p : ℕ} (over : StandsOver s places curves p) (all : curves ≡ length places) where
  same_curve : {n : ℕ} → n < curves → curve_named s (in_array max_curves places) n ≡ curve_named s places n
  same_curve {n} named = named_array s places n (omega (arith, all, named))

  pub stands_array : StandsOver s (in_array max_curves places) curves p
  stands_array = record {
    stands = over.stands;
    few = over.few;
    each_well = λ n named. subst WellFormed (sym (same_curve named)) (over.each_well n named);
  }

  pub claim_array : claim_read s (in_array max_curves places) curves p ≡ claim_read s places curves p
  unfolding stands_array
  claim_array =
      claim_read_lem stands_array
      ∙ ap some (same over.stands.stated.claim (same_curve over.stands.left_named) (same_curve over.stands.right_named) (same_curve over.stands.claimed_named))
      ∙ sym (claim_read_lem over)
    where
      same : (c : Claim) {f f' g g' h h' : Curve} → f ≡ f' → g ≡ g' → h ≡ h' → claim_over c f g h ≡ claim_over c f' g' h'
      same c e e' e'' = λ i. claim_over c (e i) (e' i) (e'' i)
