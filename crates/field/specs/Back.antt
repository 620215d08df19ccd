-- Reading and writing a field undo each other.
--
--     version_fits              a version is a number of seven bits and not 0 (begun-on): all that is used of it
--     version_back, version_taken     a version's content, read of its bytes; version_sound, version_again: one that is
--                               not refused
--     tag_back, tag_number_lem  a tag and its number
--     length_field              how many bytes are written; bytes_field, content-bytes: they are bytes, and so is a
--                               content that is read of bytes
--     field_tag, field_content  tag and content, read of a field's bytes
--     field_taken               a field that stands where a reader is, in order, with room and with a sound content, is
--                               taken
--     field_again               a field that was taken is the bytes of its tag and its content; end-last: after the end
--                               nothing is left
use Prim.Native.Nat.{ℕ, ◌+◌, ◌-◌, ◌≤◌, ◌<◌}
use Rattle.std.specs.Prelude.{◌≡◌, Bool, true, false, not, drop, ltb, eqb, Ok}
use Rattle.std.proofs.Math.Path.{refl, ap, ap₂}
use Rattle.std.proofs.Common.{sym, ◌∙◌, length-append, take-add, take_all, take_at}
use mathlib.Core.List.{List, [], ◌++◌, append-nil, append_assoc}
use Rattle.std.proofs.Math.Option.{Option, none, some}
use native.Mathlib.Omega.{arith}
use Rattle.std.proofs.Math.ListN.{length, take, length-drop}
use Rattle.std.proofs.Math.Seq.{length-take-le}
use borrow.Author.Tests.{ltb-false, eqb-true, not-false, le-ltb, ne_eqb}
use Rattle.minplus.specs.Search.{numbered, numbered-so}
use Rattle.numbers.specs.Lists.{length_zero}
use Rattle.numbers.specs.Numbers.{number_at}
use Rattle.numbers.specs.Put.{bytes_of, length-bytes}
use Rattle.numbers.specs.Back.{Bytes, bytes_take, bytes_drop, bytes-append, length_then, number_on}
use Rattle.numbers.proofs.HighFirst.{bytes_of_lem, number_front, bytes_again, bytes_then}
use Rattle.content.specs.declared.Refusal.TheVariants.{WrongVersion, WrongEnd}
use Rattle.content.specs.Refusals.{Checked, on, on_sound}
use Rattle.field.specs.declared.Tag.{Tag}
use Rattle.field.specs.declared.Tag.TheVariants.{Version, Curve, Claim, End}
use Rattle.field.specs.declared.State.{State}
use Rattle.field.specs.Fields.{tag_number, tags, known, tag_by, head_length, tag_of, length_of, content_of, content_at, version_in, field_bytes}
use Rattle.field.specs.Steps.{is_version, version_fault, end_fault, content_fault, in_order, full, field_size, tagged_fault, after, taken, answer, step_on, step_at, Takes, next_place}

-- ---- a version

module _ (v : ℕ) (right : is_version v ≡ true) where
  pub version_fits : (0 < v) × (v < 128)
  version_fits = let one : v ≡ 1 = eqb-true v 1 right in (omega (arith, one), omega (arith, one))

  pub begun-on : eqb v 0 ≡ false
  begun-on = ne_eqb v 0 (λ e. omega (arith, e, version_fits))

  pub version_back : version_in (bytes_of 1 v) ≡ v
  version_back = ap (λ (t : List ℕ). number_at 1 t 0) (sym (append-nil (bytes_of 1 v))) ∙ number_front 1 v [] (omega (arith, version_fits.1))

  pub version_taken : version_fault (bytes_of 1 v) ≡ Ok tt
  unfolding version_fault
  version_taken = rw (version_back, length-bytes 1 v, right)

pub version_sound : (content : List ℕ) → version_fault content ≡ Ok tt → (length content ≡ 1) × (is_version (version_in content) ≡ true)
unfolding version_fault
version_sound content e =
    let is_one : Bool = is_version (version_in content) in
    let long = on_sound (not (eqb (length content) 1)) WrongVersion (on (not is_one) WrongVersion (Ok tt)) e in
    (eqb-true _ _ (not-false _ long.0), not-false is_one (on_sound (not is_one) WrongVersion (Ok tt) long.1).0)

pub version_again : (content : List ℕ) → Bytes content → version_fault content ≡ Ok tt → bytes_of 1 (version_in content) ≡ content
version_again content small e =
    let long : length content ≡ 1 = (version_sound content e).0 in
    bytes_again 1 0 content small (omega (arith, long)) ∙ take_all 1 content (omega (arith, long))

-- ---- a tag

pub tag_back : (t : Tag) → (tag_number t < 256) × (tag_by (tag_number t) ≡ Ok t)
unfolding tag_by
tag_back Version = (omega arith, refl)
tag_back Curve = (omega arith, refl)
tag_back Claim = (omega arith, refl)
tag_back End = (omega arith, refl)

tag_number_lem : (b : ℕ) (t : Tag) → tag_by b ≡ Ok t → b ≡ tag_number t
unfolding tag_by
tag_number_lem b t e = go (numbered tag_number tags b) refl e
  where
    go : (o : Option Tag) → numbered tag_number tags b ≡ o → known o ≡ Ok t → b ≡ tag_number t
    go none is e = cc
    go (some t') is e = let same : t' ≡ t = cc in numbered-so tag_number tags b t' is ∙ ap tag_number same

-- ---- a field that was written, read

pub length_field : (t : Tag) (content : List ℕ) → length (field_bytes t content) ≡ head_length + length content
unfolding field_bytes
length_field t content = length_then 1 (tag_number t) _ ∙ rw (length_then 2 (length content) content) (omega arith)

pub bytes_field : (t : Tag) (content : List ℕ) → Bytes content → Bytes (field_bytes t content)
unfolding field_bytes
bytes_field t content small =
    bytes-append (bytes_of 1 (tag_number t)) _ (bytes_of_lem 1 (tag_number t)) (bytes-append (bytes_of 2 (length content)) content (bytes_of_lem 2 (length content)) small)

module _ (t : Tag) (content post : List ℕ) where
  abbrev bytes : List ℕ
  bytes = field_bytes t content ++ post

  field_tag : tag_of (field_bytes t content ++ post) ≡ Ok t
  unfolding field_bytes
  field_tag =
      ap (λ (r : List ℕ). tag_by (number_at 1 r 0)) (append_assoc (bytes_of 1 (tag_number t)) (bytes_of 2 (length content) ++ content) post)
      ∙ ap tag_by (number_front 1 (tag_number t) _ (tag_back t).0) ∙ (tag_back t).1

  module _ (short : length content < 65536) where
    field_length : length_of bytes ≡ length content
    unfolding field_bytes
    field_length =
        ap (λ (r : List ℕ). number_at 2 r 1)
        (append_assoc (bytes_of 1 (tag_number t)) (bytes_of 2 (length content) ++ content) post
        ∙ ap (λ (r : List ℕ). bytes_of 1 (tag_number t) ++ r) (append_assoc (bytes_of 2 (length content)) content post))
        ∙ number_on 2 0 1 (bytes_of 1 (tag_number t)) _ (length-bytes 1 (tag_number t)) ∙ number_front 2 (length content) _ short

    rest : drop head_length bytes ≡ content ++ post
    unfolding field_bytes bytes_of
    rest = refl

    field_content : content_of (field_bytes t content ++ post) ≡ content
    field_content = ap₂ (λ (n : ℕ) (r : List ℕ). take n r) field_length rest ∙ take_at content post (length content) refl

    size : field_size bytes ≡ length (field_bytes t content)
    size = ap (λ (n : ℕ). head_length + n) field_length ∙ sym (length_field t content)

    all : length bytes ≡ field_size bytes + length post
    all = length-append (field_bytes t content) post ∙ ap (λ (n : ℕ). n + length post) (sym size)

    module _ (st : State) (ordered : in_order t st.version st.claims ≡ true) (room : full t st.curves st.claims ≡ false)
        (sound : content_fault t st.curves content (length post) ≡ Ok tt) where
      fault : tagged_fault t st bytes ≡ Ok tt
      unfolding tagged_fault
      fault =
          let follow : length bytes - field_size bytes ≡ length post = omega (arith, all) in
          rw (ordered, room, le-ltb (length bytes) (field_size bytes) (omega (arith, all)), field_content, follow) sound

      stepped : step_on st bytes ≡ taken t (after t st (version_in content) (st.place + length (field_bytes t content)))
      unfolding step_on
      stepped =
          rw (le-ltb (length bytes) head_length (omega (arith, all)), field_tag, step_on)
          (ap (λ (y : Checked). answer y t st bytes) fault
          ∙ ap₂ (λ (c : List ℕ) (n : ℕ). taken t (after t st (version_in c) (st.place + n))) field_content size)

      pub field_taken : (s : List ℕ) → drop st.place s ≡ field_bytes t content ++ post
          → (step_at s st ≡ taken t (after t st (version_in content) (st.place + length (field_bytes t content)))) × (content_at s st.place ≡ content)
      unfolding step_at
      field_taken s here = (ap (step_on st) here ∙ stepped, ap (λ (r : List ℕ). content_of r) here ∙ field_content)

-- ---- a field that was read, written

pub content-bytes : (s : List ℕ) (p : ℕ) → Bytes s → Bytes (content_at s p)
content-bytes s p small = bytes_take (length_of (drop p s)) (drop head_length (drop p s)) (bytes_drop head_length (drop p s) (bytes_drop p s small))

module _ {s : List ℕ} {st : State} {t : Tag} {next : State} (taken : Takes s st t next) where
  abbrev left : List ℕ
  left = drop st.place s

  written : Bytes s → field_bytes t (content_of left) ≡ take (field_size left) left
  unfolding field_bytes
  written small =
      let n : ℕ = length_of left in
      let bytes = bytes_drop st.place s small in
      let long : length (content_of left) ≡ n = length-take-le n (drop head_length left) (omega (arith, taken.whole, length-drop head_length left)) in
      let size : 1 + (2 + n) ≡ head_length + n = omega arith in
      ap₂ (λ (a b : ℕ). bytes_of 1 a ++ (bytes_of 2 b ++ content_of left)) (sym (tag_number_lem _ t taken.is)) long
      ∙ ap (λ (r : List ℕ). bytes_of 1 (number_at 1 left 0) ++ r) (bytes_then 2 n 1 left bytes (omega (arith, taken.whole)))
      ∙ bytes_then 1 (2 + n) 0 left bytes (omega (arith, taken.whole))
      ∙ ap (λ (k : ℕ). take k left) size

  pub field_again : Bytes s → take next.place s ≡ take st.place s ++ field_bytes t (content_at s st.place)
  field_again small =
      ap (λ (k : ℕ). take k s) (next_place taken) ∙ take-add st.place (field_size left) s ∙ ap (λ (r : List ℕ). take st.place s ++ r) (sym (written small))

pub end-last : {s : List ℕ} {st next : State} → Takes s st End next → st.place ≤ length s → (content_at s st.place ≡ []) × (next.place ≡ length s)
unfolding content_fault end_fault
end-last {s} {st} {next} taken inside =
    let content : List ℕ = content_at s st.place in
    let follow : ℕ = length (drop st.place s) - field_size (drop st.place s) in
    let t₁ = on_sound (not (eqb (length content) 0)) WrongEnd (on (ltb 0 follow) WrongEnd (Ok tt)) taken.content in
    let none_left : follow ≤ 0 = ltb-false _ _ (on_sound (ltb 0 follow) WrongEnd (Ok tt) t₁.1).0 in
    let empty : length content ≡ 0 = eqb-true _ _ (not-false _ t₁.0) in
    (length_zero content empty, omega (arith, none_left, next_place taken, taken.whole, length-drop st.place s, inside))
