-- A field's answer, and the state of a reader after it. Document 01, 'Refusal numbers': "the first bad field decides
-- and its first byte is the place. Within a field, in this order: 1 fewer than 3 bytes are left; 2 unknown tag; 3 field
-- out of its place in the order (a second version too); 4 a 17th curve or 257th claim; 1 again, content runs past the
-- book; then by tag".
--
--     max_curves, max_claims, is_version     document 01's numbers
--     version_fault, end_fault, content_fault     a content, by tag
--     in_order, full, tagged_fault     a field whose tag is known; field_size: how many bytes it has
--     after            where a reader stands after a field (after_place)
--     step_on, step_at     a field's answer, by tagged and answer
--     field_cases      a field is refused at its place (refused_at), or its tests pass and it is taken
--     Takes            what is known of a field that is taken (takes); next_place, next_inside: the next place is in
--                      the book or at its end
use Rattle.std.specs.Prelude.{ℕ, ◌+◌, ◌-◌, ◌*◌, ◌≤◌, ◌<◌, ◌≡◌, Bool, true, false, ◌&&◌, not, List, length, drop, leb, ltb, eqb, Result, Ok, Err}
use Rattle.std.proofs.Math.Path.{refl, ap, subst}
use Rattle.std.proofs.Common.{sym, ◌∙◌, arith, length-drop}
use borrow.Author.Tests.{ltb-false, not-false}
use Rattle.content.specs.declared.Refusal.{Refusal}
use Rattle.content.specs.declared.Refusal.TheVariants.{Torn, OutOfOrder, TooMany, WrongVersion, WrongEnd}
use Rattle.field.specs.declared.Tag.{Tag}
use Rattle.field.specs.declared.Tag.TheVariants as tag
use Rattle.field.specs.declared.State.{State}
use Rattle.field.specs.declared.Taken.{Taken}
use Rattle.field.specs.declared.Refused.{Refused}
use Rattle.content.specs.Refusals.{Checked, number_of, on, curve_fault, claim_fault, on_sound}
use Rattle.field.specs.Fields.{head_length, tag_of, length_of, content_of, content_at, version_in}

-- "Curves are numbered from 0, at most 16; claims at most 256."
abbrev pub max_curves : ℕ
max_curves = 16

abbrev pub max_claims : ℕ
max_claims = 256

-- "version, one byte, 1"
abbrev pub is_version : ℕ → Bool
is_version v = eqb v 1

-- "5 length or number isn't 1"
unfoldable pub version_fault : List ℕ → Checked
version_fault content =
    on (not (eqb (length content) 1)) WrongVersion
    (on (not (is_version (version_in content))) WrongVersion
    (Ok tt))

-- "13 length isn't 0 or a byte follows"
unfoldable pub end_fault : List ℕ → ℕ → Checked
end_fault content follow =
    on (not (eqb (length content) 0)) WrongEnd
    (on (ltb 0 follow) WrongEnd
    (Ok tt))

-- "then by tag"
unfoldable pub content_fault : Tag → ℕ → List ℕ → ℕ → Checked
unfolding version_fault curve_fault claim_fault end_fault
content_fault tag.Version curves content follow = version_fault content
content_fault tag.Curve curves content follow = curve_fault content
content_fault tag.Claim curves content follow = claim_fault curves content
content_fault tag.End curves content follow = end_fault content follow

-- "Order: version, curves, claims, end", and one version only. The version is 0 before one has come
unfoldable pub in_order : Tag → ℕ → ℕ → Bool
in_order tag.Version version claims = eqb version 0
in_order tag.Curve version claims = not (eqb version 0) && eqb claims 0
in_order tag.Claim version claims = not (eqb version 0)
in_order tag.End version claims = not (eqb version 0)

-- no more of this tag are taken
unfoldable pub full : Tag → ℕ → ℕ → Bool
full tag.Version curves claims = false
full tag.Curve curves claims = leb max_curves curves
full tag.Claim curves claims = leb max_claims claims
full tag.End curves claims = false

abbrev pub field_size : List ℕ → ℕ
field_size r = head_length + length_of r

-- "3 field out of its place in the order (a second version too); 4 a 17th curve or 257th claim; 1 again, content runs
-- past the book; then by tag"
unfoldable pub tagged_fault : Tag → State → List ℕ → Checked
unfolding in_order full content_fault
tagged_fault t st r =
    on (not (in_order t st.version st.claims)) OutOfOrder
    (on (full t st.curves st.claims) TooMany
    (on (ltb (length r) (field_size r)) Torn
    (content_fault t st.curves (content_of r) (length r - field_size r))))

-- where a reader stands after a field: a version that was read, and the place of the next field
unfoldable pub after : Tag → State → ℕ → ℕ → State
after tag.Version st v p = record { version = v; curves = st.curves; claims = st.claims; place = p }
after tag.Curve st v p = record { version = st.version; curves = st.curves + 1; claims = st.claims; place = p }
after tag.Claim st v p = record { version = st.version; curves = st.curves; claims = st.claims + 1; place = p }
after tag.End st v p = record { version = st.version; curves = st.curves; claims = st.claims; place = p }

-- a field's answer: it is taken, or refused at a place
abbrev pub Field : Type 0
Field = Result Taken Refused

abbrev pub refused : {A : Type 0} → Refusal → (place : ℕ) → Result A Refused
refused x p = Err (record { refusal = x; place = p })

abbrev pub taken : Tag → State → Field
taken t next = Ok (record { tag = t; state = next })

-- of one that does not say its place yet
abbrev pub at_place : ℕ → Result Taken Refusal → Field
at_place p (Err x) = refused x p
at_place p (Ok t) = Ok t

-- "refusal number + 2^8 * place"
abbrev pub refusal_word : Refusal → ℕ → ℕ
refusal_word x p = number_of x + 256 * p

abbrev pub answer : Checked → Tag → State → List ℕ → Field
answer (Err x) t st r = refused x st.place
answer (Ok u) t st r = taken t (after t st (version_in (content_of r)) (st.place + field_size r))

-- "2 unknown tag"
unfoldable pub tagged : Result Tag Refusal → State → List ℕ → Field
unfolding tagged_fault after
tagged (Err x) st r = refused x st.place
tagged (Ok t) st r = answer (tagged_fault t st r) t st r

-- "1 fewer than 3 bytes are left": r is what is left
unfoldable pub step_on : State → List ℕ → Field
unfolding tagged
step_on st r = elim (ltb (length r) head_length) [ true ↦ refused Torn st.place | false ↦ tagged (tag_of r) st r ]

unfoldable pub step_at : List ℕ → State → Field
unfolding step_on
step_at s st = step_on st (drop st.place s)

-- ---- laws

-- an answer has one reading
pub taken_same : {t u : Tag} {st next : State} → taken t st ≡ taken u next → (t ≡ u) × (st ≡ next)
taken_same {t} {u} {st} {next} e =
    let same : ◌≡◌ {A = Taken} (record { tag = t; state = st }) (record { tag = u; state = next }) = cc in
    (ap (λ (x : Taken). x.tag) same, ap (λ (x : Taken). x.state) same)

pub refused_same : {A : Type 0} {x y : Refusal} {p q : ℕ} → refused {A = A} x p ≡ refused y q → (x ≡ y) × (p ≡ q)
refused_same {x} {y} {p} {q} e =
    let same : ◌≡◌ {A = Refused} (record { refusal = x; place = p }) (record { refusal = y; place = q }) = cc in
    (ap (λ (r : Refused). r.refusal) same, ap (λ (r : Refused). r.place) same)

-- what a field that is taken tells: its tag, that it is in order, there is room for it, it is all there, and its
-- content is sound
pub record Takes (s : List ℕ) (st : State) (t : Tag) (next : State) : Type 0 where
  pub is : tag_of (drop st.place s) ≡ Ok t
  pub ordered : in_order t st.version st.claims ≡ true
  pub room : full t st.curves st.claims ≡ false
  pub whole : field_size (drop st.place s) ≤ length (drop st.place s)
  pub content : content_fault t st.curves (content_at s st.place) (length (drop st.place s) - field_size (drop st.place s)) ≡ Ok tt
  pub then : next ≡ after t st (version_in (content_at s st.place)) (st.place + field_size (drop st.place s))

pub after_place : (t : Tag) (st : State) (v p : ℕ) → (after t st v p).place ≡ p
unfolding after
after_place tag.Version st v p = refl
after_place tag.Curve st v p = refl
after_place tag.Claim st v p = refl
after_place tag.End st v p = refl

module _ (s : List ℕ) (st : State) where
  abbrev rest : List ℕ
  rest = drop st.place s

  abbrev moved : Tag → State
  moved t = after t st (version_in (content_of rest)) (st.place + field_size rest)

  -- a field is refused at its place, or its tests pass and it is taken
  module _ (P : Field → Type 0) (no : (x : Refusal) → P (refused x st.place))
      (yes : (t : Tag) → tag_of rest ≡ Ok t → tagged_fault t st rest ≡ Ok tt → P (taken t (moved t))) where
    by_fault : (t : Tag) (y : Checked) → tag_of rest ≡ Ok t → tagged_fault t st rest ≡ y → P (answer y t st rest)
    by_fault t (Err x) is fault = no x
    by_fault t (Ok u) is fault = yes t is fault

    by_tag : (g : Result Tag Refusal) → tag_of rest ≡ g → P (tagged g st rest)
    unfolding tagged
    by_tag (Err x) is = no x
    by_tag (Ok t) is = by_fault t (tagged_fault t st rest) is refl

    by_length : (b : Bool) → P (elim b as (λ _. Field) [ true ↦ refused Torn st.place | false ↦ tagged (tag_of rest) st rest ])
    by_length true = no Torn
    by_length false = by_tag (tag_of rest) refl

    pub field_cases : P (step_at s st)
    unfolding step_at
    field_cases = by_length (ltb (length rest) head_length)

  by_tests : (t : Tag) (next : State) (t' : Tag) → tag_of rest ≡ Ok t' → tagged_fault t' st rest ≡ Ok tt → taken t' (moved t') ≡ taken t next → Takes s st t next
  unfolding tagged_fault
  by_tests t next t' tagged-so sound same =
      let first = on_sound (not (in_order t' st.version st.claims)) OutOfOrder _ sound in
      let second = on_sound (full t' st.curves st.claims) TooMany _ first.1 in
      let third = on_sound (ltb (length rest) (field_size rest)) Torn _ second.1 in
      let is : t' ≡ t = (taken_same same).0 in
      let to : next ≡ moved t' = sym (taken_same same).1 in
      subst (λ (t'' : Tag). next ≡ moved t'' → Takes s st t'' next) is
      (λ to. record { is = tagged-so; ordered = not-false _ first.0; room = second.0; whole = ltb-false _ _ third.0; content = third.1; then = to })
      (to ∙ ap moved is)

  pub takes : (t : Tag) (next : State) → step_at s st ≡ taken t next → Takes s st t next
  takes t next =
      field_cases (λ (f : Field). f ≡ taken t next → Takes s st t next)
      (λ x e. let z : ◌≡◌ {A = ℕ} 0 1 = cc in absurd (omega (arith, z))) (by_tests t next)

  -- a field that is refused is refused at its first byte
  pub refused_at : (x : Refusal) (p : ℕ) → step_at s st ≡ refused x p → p ≡ st.place
  refused_at x p =
      field_cases (λ (f : Field). f ≡ refused x p → p ≡ st.place)
      (λ x' e. sym (refused_same e).1) (λ t is sound e. cc)

pub next_place : {s : List ℕ} {st : State} {t : Tag} {next : State} → Takes s st t next → next.place ≡ st.place + field_size (drop st.place s)
next_place {st = st} {t = t} taken = ap (λ (x : State). x.place) taken.then ∙ after_place t st _ _

-- the place of the next field is further on, and inside the book or at its end
pub next_inside : {s : List ℕ} {st : State} {t : Tag} {next : State} → Takes s st t next → st.place ≤ length s → (st.place < next.place) × (next.place ≤ length s)
next_inside {s} {st} {t} {next} taken inside =
    let at = next_place taken in
    let left : length (drop st.place s) ≡ length s - st.place = length-drop st.place s in
    (omega (arith, at), omega (arith, at, left, taken.whole, inside))
