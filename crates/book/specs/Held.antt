-- What the code holds of a book that it reads.
--
--     places_of, book_of     the places in arrays, and the book with them (held_book)
--     reading_of       the answer as the code has it
--     read_refused, read_sound     what an answer tells of the book
--     Reads            a reader stands at a state of a book: reads_start; reads_refused, reads_end, reads_version,
--                      reads_curve, reads_claim: by the next field's answer; curve_room, claim-room, place_near: its
--                      place can be noted
use Rattle.std.specs.Prelude.{ℕ, zero, suc, ◌+◌, ◌≤◌, ◌<◌, List, [], ◌∷◌, ◌++◌, set, Result, Ok, Err}
use Rattle.std.proofs.Math.Path.{◌≡◌, refl, sym, ap}
use Rattle.std.proofs.Common.{◌∙◌, arith}
use Rattle.std.proofs.Math.ListN.{length, length-append}
use borrow.Author.Tests.{le-ltb, leb-false}
use Rattle.curve.specs.Filled.{in_array, array_more}
use Rattle.field.specs.declared.Tag.TheVariants as tag
use Rattle.field.specs.declared.State.{State}
use Rattle.field.specs.declared.Refused.{Refused}
use Rattle.field.specs.declared.Taken.{Taken}
use Rattle.field.specs.Steps as field
use Rattle.field.specs.Steps.{max_curves, max_claims, full, after, step_at, Takes, takes, next_inside}
use Rattle.book.specs.declared.Places.{Places}
use Rattle.book.specs.declared.Book.{Book}
use Rattle.book.specs.Reading.{Contents, Read, sound, refused, max_bytes, start, read_from, read_book}

abbrev pub places_of : List ℕ → List ℕ → Places
places_of curves claims = record { curves = in_array max_curves curves; claims = in_array max_claims claims }

abbrev pub book_of : Contents → Book
book_of c = record { version = c.version; curves = length c.curves; claims = length c.claims; places = places_of c.curves c.claims }

abbrev pub reading_of : Read → Result Book Refused
reading_of (sound c) = Ok (book_of c)
reading_of (refused x p) = field.refused x p

-- ---- laws

pub held_book : (v : ℕ) (curves claims : List ℕ) (n m : ℕ) (places : Places) → n ≡ length curves → m ≡ length claims → places ≡ places_of curves claims
    → ◌≡◌ {A = Book} (record { version = v; curves = n; claims = m; places = places }) (book_of (record { version = v; curves = curves; claims = claims }))
held_book v curves claims n m places e e' e'' = rw (e, e', e'')

-- what an answer tells of the book
module _ (s : List ℕ) {r : Result Book Refused} (is : r ≡ reading_of (read_book s)) where
  pub read_refused : {e : Refused} → r ≡ Err e → read_book s ≡ refused e.refusal e.place
  read_refused {e} told = go (read_book s) (sym is ∙ told)
    where
      go : (y : Read) → reading_of y ≡ Err e → y ≡ refused e.refusal e.place
      go (sound c) told = cc
      go (refused x p) told =
          let same : ◌≡◌ {A = Refused} (record { refusal = x; place = p }) e = cc in ap (λ (e : Refused). refused e.refusal e.place) same

  pub read_sound : {b : Book} → r ≡ Ok b → (c : Contents) × (read_book s ≡ sound c) × (b ≡ book_of c)
  read_sound {b} told = go (read_book s) refl (sym is ∙ told)
    where
      go : (y : Read) → read_book s ≡ y → reading_of y ≡ Ok b → (c : Contents) × (read_book s ≡ sound c) × (b ≡ book_of c)
      go (sound c) so held = (c, so, (let same : book_of c ≡ b = cc in sym same))
      go (refused x p) so held = let z : ◌≡◌ {A = ℕ} 0 1 = cc in absurd (omega (arith, z))

-- a reader that stands at a state of a book, with the places before it, reads the book as from its start
pub record Reads (s : List ℕ) (st : State) (places : Places) : Type 0 where
  pub steps : ℕ
  pub curves : List ℕ
  pub claims : List ℕ
  pub same : read_from steps s st curves claims ≡ read_book s
  pub enough : length s < steps + st.place
  pub inside : st.place ≤ length s
  pub short : length s ≤ max_bytes
  pub held : places ≡ places_of curves claims
  pub curve_count : st.curves ≡ length curves
  pub claim-count : st.claims ≡ length claims

pub reads_start : (s : List ℕ) → length s ≤ max_bytes → Reads s start (places_of [] [])
unfolding read_book
reads_start s fits = record {
  steps = suc (length s);
  curves = [];
  claims = [];
  same = rw (le-ltb _ _ fits, read_book);
  enough = omega arith;
  inside = omega arith;
  short = fits;
  held = refl;
  curve_count = refl;
  claim-count = refl;
}

module _ {s : List ℕ} {st : State} {places : Places} (reads : Reads s st places) where
  -- there is another step
  again : (k : ℕ) × (read_from (suc k) s st reads.curves reads.claims ≡ read_book s) × (length s < suc k + st.place)
  again = go reads.steps reads.same reads.enough
    where
      go : (k : ℕ) → read_from k s st reads.curves reads.claims ≡ read_book s → length s < k + st.place
          → (k : ℕ) × (read_from (suc k) s st reads.curves reads.claims ≡ read_book s) × (length s < suc k + st.place)
      go zero same enough = absurd (omega (arith, enough, reads.inside))
      go (suc k) same enough = (k, same, enough)

  pub reads_refused : {r : Refused} → step_at s st ≡ Err r → read_book s ≡ refused r.refusal r.place
  unfolding read_from
  reads_refused e = sym (rw (e, read_from) at again.1)

  -- a field that is taken
  module _ {f : Taken} (e : step_at s st ≡ Ok f) where
    taken : Takes s st f.tag f.state
    taken = takes s st f.tag f.state e

    -- it brings the reader on
    pub place_inside : (st.place < f.state.place) × (f.state.place ≤ length s)
    place_inside = next_inside taken reads.inside

    -- there is room to note its place, which fits 16 bits
    pub curve_room : f.tag ≡ tag.Curve → st.curves < max_curves
    unfolding full
    curve_room is = leb-false _ _ (rw is at taken.room)

    pub claim-room : f.tag ≡ tag.Claim → st.claims < max_claims
    unfolding full
    claim-room is = leb-false _ _ (rw is at taken.room)

    pub reads_end : f.tag ≡ tag.End → read_book s ≡ sound (record { version = st.version; curves = reads.curves; claims = reads.claims })
    unfolding read_from
    reads_end is = sym (rw (e, is, read_from) at again.1)

    moved_on : (curves claims : List ℕ) → f.state.curves ≡ length curves → f.state.claims ≡ length claims
        → ((k : ℕ) → read_from (suc k) s st reads.curves reads.claims ≡ read_from k s f.state curves claims)
        → (after-it : Places) → after-it ≡ places_of curves claims → Reads s f.state after-it
    moved_on curves claims curve_count claim-count on-to after-it held = record {
      steps = again.0;
      curves = curves;
      claims = claims;
      same = sym (on-to again.0) ∙ again.1;
      enough = omega (arith, again.2, place_inside.0);
      inside = place_inside.1;
      short = reads.short;
      held = held;
      curve_count = curve_count;
      claim-count = claim-count;
    }

    pub reads_version : f.tag ≡ tag.Version → Reads s f.state places
    unfolding read_from after
    reads_version is =
        let next = rw is at taken.then in
        moved_on reads.curves reads.claims
        (ap (λ (x : State). x.curves) next ∙ reads.curve_count) (ap (λ (x : State). x.claims) next ∙ reads.claim-count)
        (λ k. rw (e, is, read_from)) places reads.held

    pub reads_curve : f.tag ≡ tag.Curve → Reads s f.state (record { curves = set places.curves st.curves st.place; claims = places.claims })
    unfolding read_from after
    reads_curve is =
        let next = rw is at taken.then in
        let room : length reads.curves < max_curves = rw (← reads.curve_count) (curve_room is) in
        moved_on (reads.curves ++ (st.place ∷ [])) reads.claims
        (ap (λ (x : State). x.curves) next ∙ rw (reads.curve_count, length-append reads.curves (st.place ∷ [])))
        (ap (λ (x : State). x.claims) next ∙ reads.claim-count)
        (λ k. rw (e, is, read_from)) _
        (rw (reads.held, reads.curve_count, array_more max_curves reads.curves st.place (length reads.curves) refl room))

    pub reads_claim : f.tag ≡ tag.Claim → Reads s f.state (record { curves = places.curves; claims = set places.claims st.claims st.place })
    unfolding read_from after
    reads_claim is =
        let next = rw is at taken.then in
        let room : length reads.claims < max_claims = rw (← reads.claim-count) (claim-room is) in
        moved_on reads.curves (reads.claims ++ (st.place ∷ []))
        (ap (λ (x : State). x.curves) next ∙ reads.curve_count)
        (ap (λ (x : State). x.claims) next ∙ rw (reads.claim-count, length-append reads.claims (st.place ∷ [])))
        (λ k. rw (e, is, read_from)) _
        (rw (reads.held, reads.claim-count, array_more max_claims reads.claims st.place (length reads.claims) refl room))

  pub place_near : st.place < 65536
  place_near = omega (arith, reads.short, reads.inside)
