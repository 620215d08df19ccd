-- Reading and writing a book undo each other, over document 01's layout.
--
--     Reached          a reader has read what is listed, and these bytes are left: reached-start, reached_version,
--                      reached_curve, reached-claim, reached-end
--     written_read     of the bytes of a listing within the limits, that listing is read
--     Rewritten        what a reader has read so far is nothing, or the bytes of what it says without the end
--     read_written     a book that is not refused is the bytes of what it says; read_well: and that is within the
--                      limits
--     w8_listing       what document 01's book says: its bytes (w8-written), what is read of them (w8-says), within the
--                      limits (w8_well)
use Prim.Native.Nat.{ℕ, zero, suc, ◌+◌, ◌≤◌, ◌<◌}
use Rattle.std.specs.Prelude.{◌≡◌, Bool, true, false, not, drop, ltb, eqb, Ok, Err}
use Rattle.std.proofs.Math.Path.{refl, sym, ap, ap₂, subst}
use Rattle.std.proofs.Common.{◌∙◌, arith, drop_at, drop-drop}
use mathlib.Core.List.{List, [], ◌∷◌, ◌++◌, map, map-append, flat_map, append-nil, append_assoc}
use mathlib.Mathlib.Data.List.Defs.{Forall}
use mathlib.Mathlib.Data.List.Basic.{Forall-cons, Forall-map_iff, Forall-imp}
use Rattle.std.proofs.Math.ListN.{length, take, length-append}
use Rattle.std.proofs.lemmas.List.{length-map}
use Rattle.std.proofs.Math.Seq.{take-length}
use borrow.Author.Tests.{eqb-true, eqb-false, not-true, le-ltb, lt-leb}
use Rattle.minplus.specs.Search.{both_true}
use Rattle.minplus.specs.Curve.{Curve, WellFormed}
use Rattle.curve.specs.Filled.{list_of}
use Rattle.numbers.specs.Lists.{length_zero}
use Rattle.numbers.specs.Numbers.{number_at}
use Rattle.numbers.specs.Put.{bytes_of, length-bytes}
use Rattle.numbers.specs.Back.{Bytes}
use Rattle.content.specs.declared.Refusal.TheVariants.{BookTooLong}
use Rattle.content.specs.declared.Statement.{Statement}
use Rattle.content.specs.Layout.{curve_in, curve_bytes, third_width, claim_in, claim_bytes}
use Rattle.content.specs.Sound.{WellStated, curve_well_formed, claim_sound}
use Rattle.content.specs.Back.{curve_back, curve_taken, curve_again, curve_small, claim_back, claim_taken, claim_again, claim_small}
use Rattle.field.specs.declared.Tag.{Tag}
use Rattle.field.specs.declared.Tag.TheVariants as tag
use Rattle.field.specs.declared.State.{State}
use Rattle.field.specs.Fields.{content_at, version_in, field_bytes}
use Rattle.field.specs.Steps as field
use Rattle.field.specs.Steps.{Field, max_curves, max_claims, is_version, content_fault, in_order, full, after, step_at, Takes, takes, after_place, next_inside}
use Rattle.field.specs.Back.{version_fits, begun-on, version_back, version_taken, version_sound, version_again, field_taken, content-bytes, field_again, end-last}
use Rattle.book.specs.Reading.{Contents, Read, sound, refused, max_bytes, start, read_on, read_from, read_book}
use Rattle.book.specs.Ground.{w8, w8_contents, w8_read}
use Rattle.book.specs.Sound.{sound_book, read_steps}
use Rattle.book.specs.Listing.{Listing, listed, fields_of, curve_fields, claim_fields, open_bytes, book_bytes, begun, with_curve, with_claim, WellListed, curve_at, claim_at, listing_in, open_begun, open_curve, open_claim, length_book}

abbrev held : State → List ℕ → List ℕ → Contents
held st curves claims = record { version = st.version; curves = curves; claims = claims }

-- ---- written, then read

record Reached (s : List ℕ) (b : Listing) (left : List ℕ) : Type 0 where
  st : State
  curves : List ℕ
  claims : List ℕ
  same : read_from (suc (length s)) s st curves claims ≡ read_book s
  inside : st.place ≤ length s
  here : drop st.place s ≡ left
  curve_count : st.curves ≡ length curves
  claim-count : st.claims ≡ length claims
  says : listing_in s (held st curves claims) ≡ b

reached-start : (s : List ℕ) → length s ≤ max_bytes → Reached s (begun 0) s
unfolding read_book
reached-start s fits = record {
  st = start;
  curves = [];
  claims = [];
  same = rw (le-ltb _ _ fits, read_book);
  inside = omega arith;
  here = refl;
  curve_count = refl;
  claim-count = refl;
  says = refl;
}

-- a field more, if it is in order, there is room for it and its content is sound
module _ {s : List ℕ} {b : Listing} (t : Tag) (content post : List ℕ) (r : Reached s b (field_bytes t content ++ post)) (short : length content < 65536)
    (ordered : in_order t b.version (length b.claims) ≡ true) (room : full t (length b.curves) (length b.claims) ≡ false)
    (right : content_fault t (length b.curves) content (length post) ≡ Ok tt) where
  curves_are : r.st.curves ≡ length b.curves
  curves_are = r.curve_count ∙ sym (length-map r.curves (curve_at s)) ∙ ap (λ (x : Listing). length x.curves) r.says

  claims_are : r.st.claims ≡ length b.claims
  claims_are = r.claim-count ∙ sym (length-map r.claims (claim_at s)) ∙ ap (λ (x : Listing). length x.claims) r.says

  abbrev next : State
  next = after t r.st (version_in content) (r.st.place + length (field_bytes t content))

  taken : (step_at s r.st ≡ field.taken t next) × (content_at s r.st.place ≡ content)
  taken =
      let version-is : r.st.version ≡ b.version = ap (λ (x : Listing). x.version) r.says in
      field_taken t content post short r.st (rw (version-is, claims_are) ordered) (rw (curves_are, claims_are) room) (rw curves_are right) s r.here

  stepped : read_on (read_from (length s) s) (field.taken t next) r.st r.curves r.claims ≡ read_book s
  unfolding read_from
  stepped = sym (ap (λ (f : Field). read_on (read_from (length s) s) f r.st r.curves r.claims) taken.0) ∙ r.same

  moved : (curves claims : List ℕ) (b' : Listing) → read_on (read_from (length s) s) (field.taken t next) r.st r.curves r.claims ≡ read_from (length s) s next curves claims
      → next.curves ≡ length curves → next.claims ≡ length claims
      → (content_at s r.st.place ≡ content → listing_in s (held next curves claims) ≡ b') → Reached s b' post
  moved curves claims b' on-to curve_count claim-count says =
      let past = next_inside (takes s r.st t next taken.0) r.inside in
      let n : ℕ = length (field_bytes t content) in
      record {
        st = next;
        curves = curves;
        claims = claims;
        same = read_steps (length s) s next curves claims past.1 (omega (arith, past.0)) ∙ sym on-to ∙ stepped;
        inside = past.1;
        here =
            ap (λ (p : ℕ). drop p s) (after_place t r.st _ _) ∙ sym (drop-drop n r.st.place s) ∙ ap (drop n) r.here
            ∙ drop_at (field_bytes t content) post n refl;
        curve_count = curve_count;
        claim-count = claim-count;
        says = says taken.1;
      }

reached_version : {s : List ℕ} (v : ℕ) (post : List ℕ) → is_version v ≡ true → Reached s (begun 0) (field_bytes tag.Version (bytes_of 1 v) ++ post) → Reached s (begun v) post
unfolding in_order full content_fault after
reached_version v post right r =
    moved tag.Version (bytes_of 1 v) post r (omega (arith, length-bytes 1 v)) refl refl (version_taken v right) r.curves r.claims (begun v)
    refl r.curve_count r.claim-count (λ is i. record { version = version_back v right i; curves = (r.says i).curves; claims = (r.says i).claims })

map_more : {A : Type 0} (g : ℕ → A) (l : List ℕ) (p : ℕ) {m : List A} {x : A} → map g l ≡ m → g p ≡ x → map g (l ++ (p ∷ [])) ≡ m ++ (x ∷ [])
map_more {A} g l p e e' = map-append g l (p ∷ []) ∙ ap₂ (λ (m : List A) (x : A). m ++ (x ∷ [])) e e'

module _ {s : List ℕ} (v : ℕ) (right : is_version v ≡ true) where
  reached_curve : (l : List Curve) (f : Curve) (post : List ℕ) → length l < max_curves → WellFormed f
      → Reached s (listed v l []) (field_bytes tag.Curve (curve_bytes f) ++ post) → Reached s (listed v (l ++ (f ∷ [])) []) post
  unfolding in_order full content_fault after
  reached_curve l f post room well r =
      moved tag.Curve (curve_bytes f) post r (omega (arith, curve_small f well)) (rw (begun-on v right)) (lt-leb _ _ room) (curve_taken f well)
      (r.curves ++ (r.st.place ∷ [])) r.claims (listed v (l ++ (f ∷ [])) []) refl
      (rw r.curve_count (sym (length-append r.curves (r.st.place ∷ [])))) r.claim-count
      (λ is i. record {
        version = (r.says i).version;
        curves =
            map_more (curve_at s) r.curves r.st.place (ap (λ (x : Listing). x.curves) r.says)
            (ap (λ (c : List ℕ). curve_in c) is ∙ curve_back f well) i;
        claims = (r.says i).claims;
      })

  module _ (curves : List Curve) (few : length curves ≤ max_curves) where
    reached-claim : (l : List Statement) (c : Statement) (post : List ℕ) → length l < max_claims → WellStated (length curves) c
        → Reached s (listed v curves l) (field_bytes tag.Claim (claim_bytes c) ++ post) → Reached s (listed v curves (l ++ (c ∷ []))) post
    unfolding in_order full content_fault after
    reached-claim l c post room well r =
        let fits : length curves ≤ 256 = omega (arith, few) in
        moved tag.Claim (claim_bytes c) post r (omega (arith, claim_small c)) (rw (begun-on v right)) (lt-leb _ _ room) (claim_taken c fits well)
        r.curves (r.claims ++ (r.st.place ∷ [])) (listed v curves (l ++ (c ∷ []))) refl
        r.curve_count (rw r.claim-count (sym (length-append r.claims (r.st.place ∷ []))))
        (λ is i. record {
          version = (r.says i).version;
          curves = (r.says i).curves;
          claims =
              map_more (claim_at s) r.claims r.st.place (ap (λ (x : Listing). x.claims) r.says)
              (ap (λ (d : List ℕ). claim_in d) is ∙ claim_back c fits well) i;
        })

-- field by field through a list
module _ {A : Type 0} (t : Tag) (bytes : A → List ℕ) (limit : ℕ) (P : A → Type 0) (R : List A → List ℕ → Type 0)
    (one : (l : List A) (x : A) (post : List ℕ) → length l < limit → P x → R l (field_bytes t (bytes x) ++ post) → R (l ++ (x ∷ [])) post) where
  every_field : (l m : List A) (post : List ℕ) → length l + length m ≤ limit → Forall P m → R l (fields_of t bytes m ++ post) → R (l ++ m) post
  unfolding flat_map
  every_field l [] post fits each r = subst (λ (k : List A). R k post) (sym (append-nil l)) r
  every_field l (x ∷ m) post fits each r =
      let both = (Forall-cons P x m).0 each in
      let rest : List ℕ = fields_of t bytes m in
      let on : R (l ++ (x ∷ [])) (rest ++ post) =
      one l x (rest ++ post) (omega (arith, fits)) both.0 (subst (R l) (append_assoc (field_bytes t (bytes x)) rest post) r) in
      subst (λ (k : List A). R k post) (append_assoc l (x ∷ []) m)
      (every_field (l ++ (x ∷ [])) m post (omega (arith, fits, length-append l (x ∷ []))) both.1 on)

reached-end : {s : List ℕ} {b : Listing} → is_version b.version ≡ true → Reached s b (field_bytes tag.End [] ++ [])
    → (c : Contents) × (read_book s ≡ sound c) × (listing_in s c ≡ b)
unfolding in_order full content_fault
reached-end {s} {b} right r = (held r.st r.curves r.claims, sym (stepped tag.End [] [] r (omega arith) (rw (begun-on b.version right)) refl refl), r.says)

-- a book, field by field
module _ (b : Listing) where
  abbrev end : List ℕ
  end = field_bytes tag.End [] ++ []

  abbrev claims-on : List ℕ
  claims-on = claim_fields b.claims ++ end

  abbrev curves-on : List ℕ
  curves-on = curve_fields b.curves ++ claims-on

  parts : book_bytes b ≡ field_bytes tag.Version (bytes_of 1 b.version) ++ curves-on
  unfolding book_bytes
  parts =
      let first : List ℕ = field_bytes tag.Version (bytes_of 1 b.version) in
      let last : List ℕ = field_bytes tag.End [] in
      append_assoc first (curve_fields b.curves ++ claim_fields b.claims) last
      ∙ ap (λ (r : List ℕ). first ++ r)
      (append_assoc (curve_fields b.curves) (claim_fields b.claims) last
      ∙ ap (λ (r : List ℕ). curve_fields b.curves ++ (claim_fields b.claims ++ r)) (sym (append-nil last)))

  pub written_read : WellListed b → (c : Contents) × (read_book (book_bytes b) ≡ sound c) × (listing_in (book_bytes b) c ≡ b)
  written_read w =
      let s : List ℕ = book_bytes b in
      let v : ℕ = b.version in
      let right = w.version_known in
      let at-start = reached-start s (omega (arith, length_book b w)) in
      let at-curves : Reached s (begun v) curves-on = reached_version v curves-on right (subst (Reached s (begun 0)) parts at-start) in
      let at-claims : Reached s (listed v b.curves []) claims-on =
      every_field tag.Curve curve_bytes max_curves WellFormed (λ l left. Reached s (listed v l []) left) (reached_curve v right)
      [] b.curves claims-on (omega (arith, w.curves-fit)) w.each_curve at-curves in
      let at-end : Reached s b end =
      every_field tag.Claim claim_bytes max_claims (WellStated (length b.curves)) (λ l left. Reached s (listed v b.curves l) left)
      (reached-claim v right b.curves w.curves-fit) [] b.claims end (omega (arith, w.claims-fit)) w.each_claim at-claims in
      reached-end right at-end

-- ---- read, then written

-- nothing, or a book without its end
data SoFar (s : List ℕ) (st : State) (curves claims : List ℕ) : Type 0 where
  nothing : st.version ≡ 0 → st.place ≡ 0 → curves ≡ [] → claims ≡ [] → SoFar s st curves claims
  opened : (st.version ≡ 0 → ⊥) → take st.place s ≡ open_bytes (listing_in s (held st curves claims)) → SoFar s st curves claims

record Rewritten (s : List ℕ) (st : State) (curves claims : List ℕ) : Type 0 where
  inside : st.place ≤ length s
  claim-count : st.claims ≡ length claims
  so_far : SoFar s st curves claims

opened-so : {s : List ℕ} {st : State} {curves claims : List ℕ} → SoFar s st curves claims → not (eqb st.version 0) ≡ true
    → take st.place s ≡ open_bytes (listing_in s (held st curves claims))
opened-so (nothing none at e e') later = absurd (eqb-false _ _ (not-true _ later) none)
opened-so (opened some so) later = so

module _ {s : List ℕ} (small : Bytes s) {st : State} {curves claims : List ℕ} (r : Rewritten s st curves claims) (next : State) where
  abbrev content : List ℕ
  content = content_at s st.place

  abbrev says : Listing
  says = listing_in s (held st curves claims)

  bytes : Bytes content
  bytes = content-bytes s st.place small

  rewritten_version : step_at s st ≡ field.taken tag.Version next → Rewritten s next curves claims
  unfolding after content_fault in_order
  rewritten_version e = go (takes s st tag.Version next e) r.so_far
    where
      go : Takes s st tag.Version next → SoFar s st curves claims → Rewritten s next curves claims
      go taken (opened some so) = absurd (some (eqb-true _ _ taken.ordered))
      go taken (nothing none at no-curve no-claim) =
          let fits = version_fits (version_in content) (version_sound content taken.content).1 in
          let version-is : next.version ≡ version_in content = ap (λ (x : State). x.version) taken.then in
          let lists : listing_in s (held next curves claims) ≡ begun (version_in content) = λ i. record {
            version = version-is i;
            curves = map (curve_at s) (no-curve i);
            claims = map (claim_at s) (no-claim i);
          } in
          record {
            inside = (next_inside taken r.inside).1;
            claim-count = ap (λ (x : State). x.claims) taken.then ∙ r.claim-count;
            so_far =
                opened (λ e. omega (arith, e, version-is, fits.0))
                (field_again taken small ∙ ap (λ (p : ℕ). take p s ++ field_bytes tag.Version content) at
                ∙ ap (field_bytes tag.Version) (sym (version_again content bytes taken.content)) ∙ sym (open_begun (version_in content)) ∙ ap open_bytes (sym lists));
          }

  -- a curve or a claim more
  longer : (t : Tag) → Takes s st t next → not (eqb st.version 0) ≡ true → (curves' claims' : List ℕ) → next.version ≡ st.version → next.claims ≡ length claims'
      → open_bytes (listing_in s (held next curves' claims')) ≡ open_bytes says ++ field_bytes t content → Rewritten s next curves' claims'
  longer t taken later curves' claims' same claim-count adds = record {
    inside = (next_inside taken r.inside).1;
    claim-count = claim-count;
    so_far =
        opened (λ e. eqb-false _ _ (not-true _ later) (sym same ∙ e))
        (field_again taken small ∙ ap (λ (x : List ℕ). x ++ field_bytes t content) (opened-so r.so_far later) ∙ sym adds);
  }

  rewritten_curve : step_at s st ≡ field.taken tag.Curve next → Rewritten s next (curves ++ (st.place ∷ [])) claims
  unfolding after content_fault in_order
  rewritten_curve e =
      let taken = takes s st tag.Curve next e in
      let order = (both_true (not (eqb st.version 0)) (eqb st.claims 0)).0 taken.ordered in
      let same : next.version ≡ st.version = ap (λ (x : State). x.version) taken.then in
      let none_yet : claims ≡ [] = length_zero claims (sym r.claim-count ∙ eqb-true st.claims 0 order.1) in
      let lists : listing_in s (held next (curves ++ (st.place ∷ [])) claims) ≡ with_curve says (curve_in content) = λ i. record {
        version = same i;
        curves = map-append (curve_at s) curves (st.place ∷ []) i;
        claims = says.claims;
      } in
      longer tag.Curve taken order.0 (curves ++ (st.place ∷ [])) claims same (ap (λ (x : State). x.claims) taken.then ∙ r.claim-count)
      (ap open_bytes lists ∙ open_curve says (curve_in content) (ap (map (claim_at s)) none_yet)
      ∙ ap (λ (c : List ℕ). open_bytes says ++ field_bytes tag.Curve c) (curve_again content bytes taken.content))

  rewritten_claim : step_at s st ≡ field.taken tag.Claim next → Rewritten s next curves (claims ++ (st.place ∷ []))
  unfolding after content_fault in_order
  rewritten_claim e =
      let taken = takes s st tag.Claim next e in
      let same : next.version ≡ st.version = ap (λ (x : State). x.version) taken.then in
      let lists : listing_in s (held next curves (claims ++ (st.place ∷ []))) ≡ with_claim says (claim_in content) = λ i. record {
        version = same i;
        curves = says.curves;
        claims = map-append (claim_at s) claims (st.place ∷ []) i;
      } in
      longer tag.Claim taken taken.ordered curves (claims ++ (st.place ∷ [])) same
      (ap (λ (x : State). x.claims) taken.then ∙ rw r.claim-count (sym (length-append claims (st.place ∷ []))))
      (ap open_bytes lists ∙ open_claim says (claim_in content)
      ∙ ap (λ (c : List ℕ). open_bytes says ++ field_bytes tag.Claim c) (claim_again st.curves content bytes taken.content))

  rewritten_end : step_at s st ≡ field.taken tag.End next → book_bytes says ≡ s
  unfolding book_bytes in_order
  rewritten_end e =
      let taken = takes s st tag.End next e in
      let last = end-last taken r.inside in
      ap₂ (λ (x c : List ℕ). x ++ field_bytes tag.End c) (sym (opened-so r.so_far taken.ordered)) (sym last.0)
      ∙ sym (field_again taken small) ∙ ap (λ (k : ℕ). take k s) last.1 ∙ take-length s

rewritten_from : {s : List ℕ} → Bytes s → (c : Contents) (k : ℕ) (st : State) (curves claims : List ℕ) → Rewritten s st curves claims
    → read_from k s st curves claims ≡ sound c → book_bytes (listing_in s c) ≡ s
unfolding read_from
rewritten_from small c zero st curves claims r e = cc
rewritten_from {s} small c (suc k) st curves claims r e = go (step_at s st) refl (rewritten_from small c k) e
  where
    by_tag : (t : Tag) (next : State) → step_at s st ≡ field.taken t next
        → ((st : State) (curves claims : List ℕ) → Rewritten s st curves claims → read_from k s st curves claims ≡ sound c → book_bytes (listing_in s c) ≡ s)
        → read_on (read_from k s) (field.taken t next) st curves claims ≡ sound c → book_bytes (listing_in s c) ≡ s
    by_tag tag.Version next is later e = later next _ _ (rewritten_version small r next is) e
    by_tag tag.Curve next is later e = later next _ _ (rewritten_curve small r next is) e
    by_tag tag.Claim next is later e = later next _ _ (rewritten_claim small r next is) e
    by_tag tag.End next is later e =
        let same : held st curves claims ≡ c = cc in subst (λ (x : Contents). book_bytes (listing_in s x) ≡ s) same (rewritten_end small r next is)

    go : (f : Field) → step_at s st ≡ f
        → ((st : State) (curves claims : List ℕ) → Rewritten s st curves claims → read_from k s st curves claims ≡ sound c → book_bytes (listing_in s c) ≡ s)
        → read_on (read_from k s) f st curves claims ≡ sound c → book_bytes (listing_in s c) ≡ s
    go (Err r) is later e = cc
    go (Ok taken) is later e = by_tag taken.tag taken.state is later e

pub read_written : (s : List ℕ) (c : Contents) → Bytes s → read_book s ≡ sound c → book_bytes (listing_in s c) ≡ s
unfolding read_book
read_written s c small e = go (ltb max_bytes (length s)) e
  where
    go : (b : Bool) → elim b as (λ _. Read) [ true ↦ refused BookTooLong 0 | false ↦ read_from (suc (length s)) s start [] [] ] ≡ sound c
        → book_bytes (listing_in s c) ≡ s
    go true e = cc
    go false e =
        rewritten_from small c (suc (length s)) start [] [] (record { inside = omega arith; claim-count = refl; so_far = nothing refl refl refl refl }) e

pub read_well : (s : List ℕ) (c : Contents) → read_book s ≡ sound c → WellListed (listing_in s c)
read_well s c e =
    let b = sound_book s c e in
    let count : length (map (curve_at s) c.curves) ≡ length c.curves = length-map c.curves (curve_at s) in
    record {
      version_known = b.version_known;
      curves-fit = omega (arith, count, b.curves-fit);
      claims-fit = omega (arith, length-map c.claims (claim_at s), b.claims-fit);
      each_curve = (Forall-map_iff c.curves WellFormed (curve_at s)).1 (Forall-imp (λ p so. curve_well_formed (content_at s p) so) c.curves b.each_curve);
      each_claim =
          subst (λ (n : ℕ). Forall (WellStated n) (map (claim_at s) c.claims)) (sym count)
          ((Forall-map_iff c.claims (WellStated (length c.curves)) (claim_at s)).1
          (Forall-imp (λ p so. (claim_sound (length c.curves) (content_at s p) so).1) c.claims b.each_claim));
    }

-- ---- document 01's book in full: what is supposed above can be had

unfoldable pub w8_listing : Listing
w8_listing = record {
  version = 1;
  curves =
      record { rank = 1; period = 1; increment = 1; listed = 0 ∷ 4 ∷ [] }
      ∷ record { rank = 2; period = 1; increment = 2; listed = 0 ∷ 0 ∷ 0 ∷ [] }
      ∷ [];
  claims = record { kind = 5; left = 0; right = 1; third = 3 } ∷ [];
}

pub w8-written : book_bytes w8_listing ≡ w8
unfolding book_bytes bytes_of w8_listing w8
w8-written = refl

w8-says : listing_in w8 w8_contents ≡ w8_listing
unfolding w8_listing w8 w8_contents number_at list_of third_width
w8-says = refl

pub w8_well : WellListed w8_listing
w8_well = subst WellListed w8-says (read_well w8 w8_contents w8_read)
