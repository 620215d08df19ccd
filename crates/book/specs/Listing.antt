-- What a book says, as values, and the bytes that say it. Document 01, 'The book': "Order: version, curves, claims,
-- end."
--
--     Listing, listed                 a version, curves and claims
--     curve_fields, claim_fields      one field after the other (fields_of)
--     open_bytes, book_bytes          a book without its end, and with it
--     begun, with_curve, with_claim   nothing but a version, and one more: its field stands after those before it
--                                     (open_begun, open_curve, open_claim)
--     WellListed                      within document 01's limits: well_begun, well_curve, well_claim
--     listing_in                      what a book says that holds such contents (curve_at, claim_at)
--     length_book                     a book is never too long; bytes_book: and it is bytes
use Prim.Native.Nat.{ℕ, ◌+◌, ◌*◌, ◌≤◌, ◌<◌}
use Rattle.std.specs.Prelude.{◌≡◌, true}
use Rattle.std.proofs.Math.Path.{sym, ap, subst}
use Rattle.std.proofs.Common.{◌∙◌}
use mathlib.Core.List.{List, [], ◌∷◌, ◌++◌, map, flat_map, append-nil, append_assoc}
use mathlib.Mathlib.Data.List.Defs.{Forall}
use mathlib.Mathlib.Data.List.Basic.{Forall-cons, Forall-imp}
use native.Mathlib.Omega.{arith}
use Rattle.std.proofs.Math.ListN.{length, length-append}
use Rattle.minplus.specs.Curve.{Curve, WellFormed}
use Rattle.numbers.specs.Lists.{forall_more, flat_more}
use Rattle.numbers.specs.Put.{bytes_of, length-bytes}
use Rattle.numbers.specs.Back.{Bytes, bytes_none, bytes-append, bytes_flat}
use Rattle.numbers.proofs.HighFirst.{bytes_of_lem}
use Rattle.content.specs.declared.Statement.{Statement}
use Rattle.content.specs.Layout.{curve_in, curve_bytes, claim_in, claim_bytes}
use Rattle.content.specs.Sound.{WellStated}
use Rattle.content.specs.Back.{bytes_curve, curve_small, bytes-claim, claim_small}
use Rattle.field.specs.declared.Tag.{Tag}
use Rattle.field.specs.declared.Tag.TheVariants as tag
use Rattle.field.specs.Fields.{content_at, field_bytes}
use Rattle.field.specs.Steps.{max_curves, max_claims, is_version}
use Rattle.field.specs.Back.{length_field, bytes_field}
use Rattle.book.specs.Reading.{Contents}

pub record Listing : Type 0 where
  pub version : ℕ
  pub curves : List Curve
  pub claims : List Statement

abbrev pub listed : ℕ → List Curve → List Statement → Listing
listed v curves claims = record { version = v; curves = curves; claims = claims }

abbrev pub fields_of : {A : Type 0} → Tag → (A → List ℕ) → List A → List ℕ
fields_of t bytes l = flat_map (λ x. field_bytes t (bytes x)) l

abbrev pub curve_fields : List Curve → List ℕ
curve_fields l = fields_of tag.Curve curve_bytes l

abbrev pub claim_fields : List Statement → List ℕ
claim_fields l = fields_of tag.Claim claim_bytes l

-- as a writer has it before the end
unfoldable pub open_bytes : Listing → List ℕ
unfolding flat_map field_bytes curve_bytes claim_bytes
open_bytes b = field_bytes tag.Version (bytes_of 1 b.version) ++ (curve_fields b.curves ++ claim_fields b.claims)

unfoldable pub book_bytes : Listing → List ℕ
unfolding open_bytes
book_bytes b = open_bytes b ++ field_bytes tag.End []

abbrev pub begun : ℕ → Listing
begun v = listed v [] []

abbrev pub with_curve : Listing → Curve → Listing
with_curve b f = listed b.version (b.curves ++ (f ∷ [])) b.claims

abbrev pub with_claim : Listing → Statement → Listing
with_claim b c = listed b.version b.curves (b.claims ++ (c ∷ []))

pub record WellListed (b : Listing) : Type 0 where
  pub version_known : is_version b.version ≡ true
  pub curves-fit : length b.curves ≤ max_curves
  pub claims-fit : length b.claims ≤ max_claims
  pub each_curve : Forall WellFormed b.curves
  pub each_claim : Forall (WellStated (length b.curves)) b.claims

abbrev pub curve_at : List ℕ → ℕ → Curve
curve_at s p = curve_in (content_at s p)

abbrev pub claim_at : List ℕ → ℕ → Statement
claim_at s p = claim_in (content_at s p)

abbrev pub listing_in : List ℕ → Contents → Listing
listing_in s c = listed c.version (map (curve_at s) c.curves) (map (claim_at s) c.claims)

-- ---- laws

module _ {A : Type 0} (t : Tag) (bytes : A → List ℕ) where
  -- each field is three bytes longer than its content
  length_fields : (k : ℕ) (l : List A) → Forall (λ x. length (bytes x) ≤ k) l → length (fields_of t bytes l) ≤ (3 + k) * length l
  unfolding flat_map
  length_fields k [] all = omega arith
  length_fields k (x ∷ l) all =
      let both = (Forall-cons (λ (y : A). length (bytes y) ≤ k) x l).0 all in
      let rest = length_fields k l both.1 in
      omega (arith, rest, both.0, length-append (field_bytes t (bytes x)) (fields_of t bytes l), length_field t (bytes x))

  bytes-fields : ((x : A) → Bytes (bytes x)) → (l : List A) → Bytes (fields_of t bytes l)
  bytes-fields small = bytes_flat (λ (x : A). field_bytes t (bytes x)) (λ x. bytes_field t (bytes x) (small x))

pub open_begun : (v : ℕ) → open_bytes (begun v) ≡ field_bytes tag.Version (bytes_of 1 v)
unfolding open_bytes
open_begun v = append-nil (field_bytes tag.Version (bytes_of 1 v))

module _ (b : Listing) where
  abbrev first : List ℕ
  first = field_bytes tag.Version (bytes_of 1 b.version)

  abbrev curves : List ℕ
  curves = curve_fields b.curves

  abbrev claims : List ℕ
  claims = claim_fields b.claims

  abbrev last : List ℕ
  last = field_bytes tag.End []

  -- curves come before claims
  pub open_curve : (f : Curve) → b.claims ≡ [] → open_bytes (with_curve b f) ≡ open_bytes b ++ field_bytes tag.Curve (curve_bytes f)
  unfolding open_bytes
  open_curve f none_yet =
      let new : List ℕ = field_bytes tag.Curve (curve_bytes f) in
      rw none_yet
      (ap (λ (r : List ℕ). first ++ r) (append-nil (curve_fields (b.curves ++ (f ∷ []))) ∙ flat_more (λ (g : Curve). field_bytes tag.Curve (curve_bytes g)) b.curves f)
      ∙ sym (append_assoc first curves new)
      ∙ ap (λ (r : List ℕ). (first ++ r) ++ new) (sym (append-nil curves)))

  pub open_claim : (c : Statement) → open_bytes (with_claim b c) ≡ open_bytes b ++ field_bytes tag.Claim (claim_bytes c)
  unfolding open_bytes
  open_claim c =
      let new : List ℕ = field_bytes tag.Claim (claim_bytes c) in
      ap (λ (r : List ℕ). first ++ r) (ap (λ (r : List ℕ). curves ++ r) (flat_more (λ (d : Statement). field_bytes tag.Claim (claim_bytes d)) b.claims c) ∙ sym (append_assoc curves claims new))
      ∙ sym (append_assoc first (curves ++ claims) new)

  pub bytes_book : Bytes (book_bytes b)
  unfolding book_bytes
  bytes_book =
      bytes-append (first ++ (curves ++ claims)) last
      (bytes-append first (curves ++ claims) (bytes_field tag.Version (bytes_of 1 b.version) (bytes_of_lem 1 b.version))
      (bytes-append curves claims (bytes-fields tag.Curve curve_bytes bytes_curve b.curves) (bytes-fields tag.Claim claim_bytes bytes-claim b.claims)))
      (bytes_field tag.End [] bytes_none)

  -- 4 bytes of a version, 16 curves of 1,035, 256 claims of 10 and 3 of the end
  pub length_book : WellListed b → length (book_bytes b) ≤ 19_127
  unfolding book_bytes
  length_book w =
      let parts : length (first ++ (curves ++ claims)) ≡ length first + (length curves + length claims) =
      length-append first (curves ++ claims) ∙ ap (λ (n : ℕ). length first + n) (length-append curves claims) in
      omega (
        arith,
        w.curves-fit,
        w.claims-fit,
        length-append (first ++ (curves ++ claims)) last,
        parts,
        length_field tag.Version (bytes_of 1 b.version),
        length-bytes 1 b.version,
        length_fields tag.Curve curve_bytes 1032 b.curves (Forall-imp curve_small b.curves w.each_curve),
        length_fields tag.Claim claim_bytes 7 b.claims (Forall-imp (λ c well. claim_small c) b.claims w.each_claim),
        length_field tag.End [],
      )

pub well_begun : (v : ℕ) → is_version v ≡ true → WellListed (begun v)
unfolding Forall
well_begun v right = record { version_known = right; curves-fit = omega arith; claims-fit = omega arith; each_curve = tt; each_claim = tt }

module _ {b : Listing} (w : WellListed b) where
  pub well_curve : (f : Curve) → WellFormed f → length b.curves < max_curves → b.claims ≡ [] → WellListed (with_curve b f)
  unfolding Forall
  well_curve f well room none_yet = record {
    version_known = w.version_known;
    curves-fit = omega (arith, length-append b.curves (f ∷ []), room);
    claims-fit = w.claims-fit;
    each_curve = forall_more WellFormed b.curves f w.each_curve well;
    each_claim = subst (Forall (WellStated (length (b.curves ++ (f ∷ []))))) (sym none_yet) tt;
  }

  pub well_claim : (c : Statement) → WellStated (length b.curves) c → length b.claims < max_claims → WellListed (with_claim b c)
  well_claim c well room = record {
    version_known = w.version_known;
    curves-fit = w.curves-fit;
    claims-fit = omega (arith, length-append b.claims (c ∷ []), room);
    each_curve = w.each_curve;
    each_claim = forall_more (WellStated (length b.curves)) b.claims c w.each_claim well;
  }
