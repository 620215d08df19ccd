-- What reading a book tells.
--
--     SoundBook s c        of a book that is not refused: its version, its counts, and that each curve's and each
--                          claim's content is sound (SoundCurve, SoundClaim)
--     Means                of a refused one: its place is in the book, or where the book ends, and within the first
--                          32,768 bytes
--     read_means           every list of bytes
--     read_steps           a step more changes nothing: no answer is for want of steps
--     sound_book, refused_inside     the two, told apart
use Rattle.std.specs.Prelude.{ℕ, zero, suc, ◌+◌, ◌≤◌, ◌<◌, ◌≡◌, refl, Bool, false, not, List, [], ◌∷◌, ◌++◌, ◌⊎◌, ltb, eqb, Ok, Err}
use Rattle.std.proofs.Common.{sym, ◌∙◌, inl, arith}
use Rattle.std.proofs.Math.Path.{ap, subst}
use Rattle.std.proofs.Math.Bool.{true}
use Rattle.std.proofs.Math.Logic.{inr}
use mathlib.Mathlib.Data.List.Defs.{Forall}
use Rattle.std.proofs.Math.ListN.{length, length-append}
use borrow.Author.Tests.{leb-false, eqb-true, eqb-false, not-true, ltb-false}
use Rattle.minplus.specs.Search.{both_true}
use Rattle.numbers.specs.Lists.{forall_more, length_zero}
use Rattle.content.specs.declared.Refusal.{Refusal}
use Rattle.content.specs.declared.Refusal.TheVariants.{BookTooLong}
use Rattle.field.specs.declared.Tag.TheVariants as tag
use Rattle.field.specs.declared.State.{State}
use Rattle.field.specs.Fields.{content_at}
use Rattle.content.specs.Refusals.{curve_fault, claim_fault}
use Rattle.field.specs.declared.Tag.{Tag}
use Rattle.field.specs.Steps as field
use Rattle.field.specs.Steps.{Field, max_curves, max_claims, is_version, content_fault, in_order, full, after, step_at, takes, refused_at, next_inside}
use Rattle.field.specs.Back.{version_sound}
use Rattle.book.specs.Reading.{Contents, Read, sound, refused, max_bytes, start, read_on, read_from, read_book}

-- a curve, and a claim that names curves of a book that has so many, at a place
abbrev pub SoundCurve : List ℕ → ℕ → Type 0
SoundCurve s p = curve_fault (content_at s p) ≡ Ok tt

abbrev pub SoundClaim : List ℕ → ℕ → ℕ → Type 0
SoundClaim s curves p = claim_fault curves (content_at s p) ≡ Ok tt

pub record SoundBook (s : List ℕ) (c : Contents) : Type 0 where
  pub version_known : is_version c.version ≡ true
  pub curves-fit : length c.curves ≤ max_curves
  pub claims-fit : length c.claims ≤ max_claims
  pub each_curve : Forall (SoundCurve s) c.curves
  pub each_claim : Forall (SoundClaim s (length c.curves)) c.claims

abbrev pub Means : List ℕ → Read → Type 0
Means s (sound c) = SoundBook s c
Means s (refused x p) = (p ≤ length s) × (p ≤ max_bytes)

-- ---- laws

-- where a reader stands, with the places of what it has read: what holds of these so far
record Kept (s : List ℕ) (st : State) (curves claims : List ℕ) : Type 0 where
  version_known : (st.version ≡ 0) ⊎ (is_version st.version ≡ true)
  curve_count : st.curves ≡ length curves
  claim-count : st.claims ≡ length claims
  curves-fit : length curves ≤ max_curves
  claims-fit : length claims ≤ max_claims
  each_curve : Forall (SoundCurve s) curves
  each_claim : Forall (SoundClaim s (length curves)) claims
  inside : st.place ≤ length s
  short : length s ≤ max_bytes

module _ {s : List ℕ} {st : State} {curves claims : List ℕ} (kept : Kept s st curves claims) (next : State) where
  kept_version : step_at s st ≡ field.taken tag.Version next → Kept s next curves claims
  unfolding after content_fault
  kept_version e =
      let taken = takes s st tag.Version next e in
      let right = (version_sound (content_at s st.place) taken.content).1 in
      record {
        version_known = inr (ap (λ (x : State). is_version x.version) taken.then ∙ right);
        curve_count = ap (λ (x : State). x.curves) taken.then ∙ kept.curve_count;
        claim-count = ap (λ (x : State). x.claims) taken.then ∙ kept.claim-count;
        curves-fit = kept.curves-fit;
        claims-fit = kept.claims-fit;
        each_curve = kept.each_curve;
        each_claim = kept.each_claim;
        inside = (next_inside taken kept.inside).1;
        short = kept.short;
      }

  kept_curve : step_at s st ≡ field.taken tag.Curve next → Kept s next (curves ++ (st.place ∷ [])) claims
  unfolding after content_fault in_order full Forall
  kept_curve e =
      let taken = takes s st tag.Curve next e in
      let one_more : length (curves ++ (st.place ∷ [])) ≡ length curves + 1 = length-append curves (st.place ∷ []) in
      let none_yet : st.claims ≡ 0 = eqb-true _ _ ((both_true (not (eqb st.version 0)) (eqb st.claims 0)).0 taken.ordered).1 in
      record {
        version_known = subst (λ (v : ℕ). (v ≡ 0) ⊎ (is_version v ≡ true)) (sym (ap (λ (x : State). x.version) taken.then)) kept.version_known;
        curve_count = ap (λ (x : State). x.curves) taken.then ∙ rw kept.curve_count (sym one_more);
        claim-count = ap (λ (x : State). x.claims) taken.then ∙ kept.claim-count;
        curves-fit = let below : st.curves < max_curves = leb-false _ _ taken.room in omega (arith, one_more, kept.curve_count, below);
        claims-fit = kept.claims-fit;
        each_curve = forall_more (SoundCurve s) curves st.place kept.each_curve taken.content;
        each_claim = subst (Forall (SoundClaim s (length (curves ++ (st.place ∷ []))))) (sym (length_zero claims (sym kept.claim-count ∙ none_yet))) tt;
        inside = (next_inside taken kept.inside).1;
        short = kept.short;
      }

  kept_claim : step_at s st ≡ field.taken tag.Claim next → Kept s next curves (claims ++ (st.place ∷ []))
  unfolding after content_fault full
  kept_claim e =
      let taken = takes s st tag.Claim next e in
      let one_more : length (claims ++ (st.place ∷ [])) ≡ length claims + 1 = length-append claims (st.place ∷ []) in
      record {
        version_known = subst (λ (v : ℕ). (v ≡ 0) ⊎ (is_version v ≡ true)) (sym (ap (λ (x : State). x.version) taken.then)) kept.version_known;
        curve_count = ap (λ (x : State). x.curves) taken.then ∙ kept.curve_count;
        claim-count = ap (λ (x : State). x.claims) taken.then ∙ rw kept.claim-count (sym one_more);
        curves-fit = kept.curves-fit;
        claims-fit = let below : st.claims < max_claims = leb-false _ _ taken.room in omega (arith, one_more, kept.claim-count, below);
        each_curve = kept.each_curve;
        each_claim =
            forall_more (SoundClaim s (length curves)) claims st.place kept.each_claim
            (subst (λ (n : ℕ). SoundClaim s n st.place) kept.curve_count taken.content);
        inside = (next_inside taken kept.inside).1;
        short = kept.short;
      }

  kept_end : step_at s st ≡ field.taken tag.End next → SoundBook s (record { version = st.version; curves = curves; claims = claims })
  unfolding in_order
  kept_end e = record {
    version_known = known kept.version_known (eqb-false _ _ (not-true _ (takes s st tag.End next e).ordered));
    curves-fit = kept.curves-fit;
    claims-fit = kept.claims-fit;
    each_curve = kept.each_curve;
    each_claim = kept.each_claim;
  }
    where
      known : (st.version ≡ 0) ⊎ (is_version st.version ≡ true) → (st.version ≡ 0 → ⊥) → is_version st.version ≡ true
      known (inl e) other = absurd (other e)
      known (inr e) other = e

read_from_lem : (k : ℕ) (s : List ℕ) (st : State) (curves claims : List ℕ) → Kept s st curves claims → Means s (read_from k s st curves claims)
unfolding read_from
read_from_lem zero s st curves claims kept = (kept.inside, omega (arith, kept.inside, kept.short))
read_from_lem (suc k) s st curves claims kept = go (step_at s st) refl (read_from_lem k s)
  where
    by_tag : (t : Tag) (next : State) → step_at s st ≡ field.taken t next
        → ((st : State) (curves claims : List ℕ) → Kept s st curves claims → Means s (read_from k s st curves claims))
        → Means s (read_on (read_from k s) (field.taken t next) st curves claims)
    by_tag tag.Version next e later = later next curves claims (kept_version kept next e)
    by_tag tag.Curve next e later = later next _ claims (kept_curve kept next e)
    by_tag tag.Claim next e later = later next curves _ (kept_claim kept next e)
    by_tag tag.End next e later = kept_end kept next e

    go : (f : Field) → step_at s st ≡ f → ((st : State) (curves claims : List ℕ) → Kept s st curves claims → Means s (read_from k s st curves claims))
        → Means s (read_on (read_from k s) f st curves claims)
    go (Err r) e later = rw (refused_at s st r.refusal r.place e) (kept.inside, omega (arith, kept.inside, kept.short))
    go (Ok taken) e later = by_tag taken.tag taken.state e later

pub read_means : (s : List ℕ) → Means s (read_book s)
unfolding read_book Forall
read_means s = go (ltb max_bytes (length s)) refl
  where
    begun : length s ≤ max_bytes → Kept s start [] []
    begun fits = record {
      version_known = inl refl;
      curve_count = refl;
      claim-count = refl;
      curves-fit = omega arith;
      claims-fit = omega arith;
      each_curve = tt;
      each_claim = tt;
      inside = omega arith;
      short = fits;
    }

    go : (b : Bool) → ltb max_bytes (length s) ≡ b → Means s (elim b as (λ _. Read) [ true ↦ refused BookTooLong 0 | false ↦ read_from (suc (length s)) s start [] [] ])
    go true long = (omega arith, omega arith)
    go false short = read_from_lem (suc (length s)) s start [] [] (begun (ltb-false _ _ short))

pub sound_book : (s : List ℕ) (c : Contents) → read_book s ≡ sound c → SoundBook s c
sound_book s c e = subst (Means s) e (read_means s)

pub refused_inside : (s : List ℕ) (x : Refusal) (p : ℕ) → read_book s ≡ refused x p → (p ≤ length s) × (p ≤ max_bytes)
refused_inside s x p e = subst (Means s) e (read_means s)

pub read_steps : (k : ℕ) (s : List ℕ) (st : State) (curves claims : List ℕ) → st.place ≤ length s → length s < k + st.place
    → read_from (suc k) s st curves claims ≡ read_from k s st curves claims
unfolding read_from
read_steps zero s st curves claims inside enough = absurd (omega (arith, inside, enough))
read_steps (suc k) s st curves claims inside enough = go (step_at s st) refl (read_steps k s)
  where
    by_tag : (t : Tag) (next : State) → ((curves claims : List ℕ) → read_from (suc k) s next curves claims ≡ read_from k s next curves claims)
        → read_on (read_from (suc k) s) (field.taken t next) st curves claims ≡ read_on (read_from k s) (field.taken t next) st curves claims
    by_tag tag.Version next later = later _ _
    by_tag tag.Curve next later = later _ _
    by_tag tag.Claim next later = later _ _
    by_tag tag.End next later = refl

    further : (next : State) → (st.place < next.place) × (next.place ≤ length s) → length s < k + next.place
    further next past = omega (arith, enough, past.0)

    go : (f : Field) → step_at s st ≡ f
        → ((st : State) (curves claims : List ℕ) → st.place ≤ length s → length s < k + st.place → read_from (suc k) s st curves claims ≡ read_from k s st curves claims)
        → read_on (read_from (suc k) s) f st curves claims ≡ read_on (read_from k s) f st curves claims
    go (Err r) e later = refl
    go (Ok taken) e later =
        let past = next_inside (takes s st taken.tag taken.state e) inside in
        by_tag taken.tag taken.state (λ curves claims. later taken.state curves claims past.1 (further taken.state past))
