-- A field as the code writes it: tag and length, then number after number.
--
--     head_put             tag and length (head_bytes)
--     version_put, curve_put, claim-put, end-put     a whole field, from what each step left; curve_room: a curve's
--                          values have room then
--     version_size, curve_size, claim_size, end_size     how many bytes it has
--     Filling              the values of a curve, as far as they are written: filling_none, filling_more, filling_all;
--                          filling_length: as many bytes as before
--     fault_is, moved_by_lem     the tests and the new state, by the field's size
use Prim.Native.Nat.{ℕ, ◌+◌, ◌*◌, ◌≤◌, ◌<◌}
use Rattle.std.specs.Prelude.{◌≡◌, Bool, true, false, take, get_or, leb}
use Rattle.std.proofs.Math.Path.{refl, sym, ap}
use Rattle.std.proofs.Common.{subst, ◌∙◌, arith, add-zero, add-one, length-append, take_all, take-suc, leb-true}
use mathlib.Core.List.{List, [], ◌++◌, flat_map, append_assoc}
use Rattle.std.proofs.Math.ListN.{length}
use Rattle.minplus.specs.Curve.{Curve}
use Rattle.numbers.specs.Lists.{flat_more}
use Rattle.numbers.specs.Put.{put, put_whole, bytes_of, length-put, length-bytes}
use Rattle.numbers.specs.Written.{Wrote, wrote_nothing, wrote_number, wrote_length, wrote_on}
use Rattle.content.specs.declared.Statement.{Statement}
use Rattle.content.specs.Layout.{values_bytes, curve_bytes, third_width, claim_bytes}
use Rattle.content.specs.Refusals.{Checked}
use Rattle.content.specs.Back.{length_values, length_curve, length-claim}
use Rattle.field.specs.declared.Tag.{Tag}
use Rattle.field.specs.declared.Tag.TheVariants as tag
use Rattle.field.specs.Fields.{tag_number, field_bytes}
use Rattle.field.specs.Steps.{after}
use Rattle.field.specs.Back.{length_field}
use Rattle.writer.specs.declared.Writer.{Writer}
use Rattle.writer.specs.Writing.{Call, begin, add_curve, add_claim, close, call_tag, call_content, call_field, first, order_fault, argument_fault, room_fault, call_fault, version_of, closes, moved_by}

abbrev pub head_bytes : Tag → ℕ → List ℕ
head_bytes t n = bytes_of 1 (tag_number t) ++ bytes_of 2 n

-- ---- how many bytes

three : (t : Tag) (n : ℕ) → length (head_bytes t n) ≡ 3
three t n = length-append (bytes_of 1 (tag_number t)) (bytes_of 2 n) ∙ rw (length-bytes 1 (tag_number t), length-bytes 2 n)

pub version_size : (v : ℕ) → length (call_field (begin v)) ≡ 4
unfolding call_content
version_size v = length_field tag.Version (bytes_of 1 v) ∙ ap (λ (n : ℕ). 3 + n) (length-bytes 1 v)

pub curve_size : (f : Curve) → length (call_field (add_curve f)) ≡ 11 + 4 * length f.listed
unfolding call_content
curve_size f = omega (arith, length_field tag.Curve (curve_bytes f), length_curve f)

pub claim_size : (c : Statement) → length (call_field (add_claim c)) ≡ 6 + third_width c.kind
unfolding call_content
claim_size c = omega (arith, length_field tag.Claim (claim_bytes c), length-claim c)

pub end_size : length (call_field close) ≡ 3
unfolding call_content
end_size = length_field tag.End []

-- ---- a field, step by step

-- as many bytes as before, whether the number had room or not
number_length : {s' : List ℕ} (s : List ℕ) (at : ℕ) (t : List ℕ) → s' ≡ put_whole s at t → length s' ≡ length s
unfolding put_whole
number_length {s'} s at t e = ap length e ∙ go (leb (at + length t) (length s)) refl
  where
    go : (b : Bool) → leb (at + length t) (length s) ≡ b → length {A = ℕ} (elim b as (λ _. List ℕ) [ true ↦ put s at t | false ↦ s ]) ≡ length s
    go true fits = length-put s at t (leb-true _ _ fits)
    go false short = refl

module _ (s : List ℕ) (place : ℕ) (t : Tag) where
  pub head_put : {s₁ s₂ : List ℕ} (n : ℕ) → place + 3 ≤ length s → s₁ ≡ put_whole s place (bytes_of 1 (tag_number t)) → s₂ ≡ put_whole s₁ (place + 1) (bytes_of 2 n)
      → s₂ ≡ put s place (head_bytes t n)
  head_put {s₁} {s₂} n fits e₁ e₂ =
      let w₁ : Wrote s place (bytes_of 1 (tag_number t)) s₁ (place + 1) = wrote_number place (place + 1) 1 (tag_number t) refl (omega (arith, fits)) e₁ in
      let w₂ : Wrote s₁ (place + 1) (bytes_of 2 n) s₂ (place + 1 + 2) = wrote_number (place + 1) (place + 1 + 2) 2 n refl (omega (arith, fits, wrote_length w₁)) e₂ in
      (wrote_on w₁ w₂).held

  head_length_lem : {s₁ : List ℕ} (n : ℕ) → place + 3 ≤ length s → s₁ ≡ put s place (head_bytes t n) → length s₁ ≡ length s
  head_length_lem n fits e =
      ap length e ∙ length-put s place (head_bytes t n) (omega (arith, three t n, fits))

  module _ {s₁ : List ℕ} (content : List ℕ) (fits : place + length (field_bytes t content) ≤ length s) (e : s₁ ≡ put s place (head_bytes t (length content))) where
    head : Wrote s place (head_bytes t (length content)) s₁ (place + 3)
    head =
        let long : length (head_bytes t (length content)) ≡ 3 = three t (length content) in
        record { fits = omega (arith, long, fits, length_field t content); held = e; past = omega (arith, long) }

    -- after its head there is room for the content
    room : place + 3 + length content ≤ length s₁
    room = omega (arith, fits, length_field t content, wrote_length head)

    -- and with the content it is the field
    field_put : {s₂ : List ℕ} {end : ℕ} → Wrote s₁ (place + 3) content s₂ end → s₂ ≡ put s place (field_bytes t content)
    unfolding field_bytes
    field_put w = (wrote_on head w).held ∙ ap (put s place) (append_assoc (bytes_of 1 (tag_number t)) (bytes_of 2 (length content)) content)

module _ (s : List ℕ) {s₁ : List ℕ} (place : ℕ) where
  pub version_put : {s₂ : List ℕ} (v : ℕ) → place + length (call_field (begin v)) ≤ length s → s₁ ≡ put s place (head_bytes tag.Version 1) → s₂ ≡ put_whole s₁ (place + 3) (bytes_of 1 v)
      → s₂ ≡ put s place (call_field (begin v))
  unfolding call_content
  version_put {s₂} v fits e₁ e₂ =
      let long : 1 ≡ length (bytes_of 1 v) = sym (length-bytes 1 v) in
      let e : s₁ ≡ put s place (head_bytes tag.Version (length (bytes_of 1 v))) = e₁ ∙ ap (λ (n : ℕ). put s place (head_bytes tag.Version n)) long in
      field_put s place tag.Version (bytes_of 1 v) fits e (wrote_number (place + 3) (place + 3 + 1) 1 v refl (omega (arith, room s place tag.Version (bytes_of 1 v) fits e, long)) e₂)

  pub end-put : place + length (call_field close) ≤ length s → s₁ ≡ put s place (head_bytes tag.End 0) → s₁ ≡ put s place (call_field close)
  unfolding call_content
  end-put fits e = field_put s place tag.End [] fits e (wrote_nothing s₁ (place + 3) (omega (arith, room s place tag.End [] fits e)))

  -- after its head and three numbers there is room for a curve's values
  pub curve_room : {s₂ s₃ s₄ : List ℕ} (f : Curve) → place + length (call_field (add_curve f)) ≤ length s → s₁ ≡ put s place (head_bytes tag.Curve (8 + 4 * length f.listed))
      → s₂ ≡ put_whole s₁ (place + 3) (bytes_of 2 f.rank) → s₃ ≡ put_whole s₂ (place + 5) (bytes_of 2 f.period) → s₄ ≡ put_whole s₃ (place + 7) (bytes_of 4 f.increment)
      → place + 11 + 4 * length f.listed ≤ length s₄
  curve_room {s₂} {s₃} f fits e₁ e₂ e₃ e₄ =
      let size = curve_size f in
      let headed = head_length_lem s place tag.Curve (8 + 4 * length f.listed) (omega (arith, fits, size)) e₁ in
      omega (arith, fits, size, headed, number_length s₁ (place + 3) _ e₂, number_length s₂ (place + 5) _ e₃, number_length s₃ (place + 7) _ e₄)

  pub curve_put : {s₂ s₃ s₄ s₅ : List ℕ} (f : Curve) → place + length (call_field (add_curve f)) ≤ length s → s₁ ≡ put s place (head_bytes tag.Curve (8 + 4 * length f.listed))
      → s₂ ≡ put_whole s₁ (place + 3) (bytes_of 2 f.rank) → s₃ ≡ put_whole s₂ (place + 5) (bytes_of 2 f.period) → s₄ ≡ put_whole s₃ (place + 7) (bytes_of 4 f.increment)
      → s₅ ≡ put s₄ (place + 11) (values_bytes f.listed) → s₅ ≡ put s place (call_field (add_curve f))
  unfolding call_content curve_bytes
  curve_put {s₂} {s₃} {s₄} {s₅} f fits e₁ e₂ e₃ e₄ e₅ =
      let long : 8 + 4 * length f.listed ≡ length (curve_bytes f) = sym (length_curve f) in
      let e : s₁ ≡ put s place (head_bytes tag.Curve (length (curve_bytes f))) = e₁ ∙ ap (λ (n : ℕ). put s place (head_bytes tag.Curve n)) long in
      let left : place + 3 + length (curve_bytes f) ≤ length s₁ = room s place tag.Curve (curve_bytes f) fits e in
      let w₂ : Wrote s₁ (place + 3) (bytes_of 2 f.rank) s₂ (place + 5) = wrote_number (place + 3) (place + 5) 2 f.rank (omega arith) (omega (arith, left, long)) e₂ in
      let w₃ : Wrote s₂ (place + 5) (bytes_of 2 f.period) s₃ (place + 7) = wrote_number (place + 5) (place + 7) 2 f.period (omega arith) (omega (arith, left, long, wrote_length w₂)) e₃ in
      let w₄ : Wrote s₃ (place + 7) (bytes_of 4 f.increment) s₄ (place + 11) = wrote_number (place + 7) (place + 11) 4 f.increment (omega arith) (omega (arith, left, long, wrote_length w₂, wrote_length w₃)) e₄ in
      let w₅ : Wrote s₄ (place + 11) (values_bytes f.listed) s₅ (place + 11 + length (values_bytes f.listed)) =
      record { fits = omega (arith, curve_room f fits e₁ e₂ e₃ e₄, length_values f.listed); held = e₅; past = refl } in
      field_put s place tag.Curve (curve_bytes f) fits e (wrote_on w₂ (wrote_on w₃ (wrote_on w₄ w₅)))

  pub claim-put : {s₂ s₃ s₄ s₅ : List ℕ} (c : Statement) → place + length (call_field (add_claim c)) ≤ length s → s₁ ≡ put s place (head_bytes tag.Claim (3 + third_width c.kind))
      → s₂ ≡ put_whole s₁ (place + 3) (bytes_of 1 c.kind) → s₃ ≡ put_whole s₂ (place + 4) (bytes_of 1 c.left) → s₄ ≡ put_whole s₃ (place + 5) (bytes_of 1 c.right)
      → s₅ ≡ put_whole s₄ (place + 6) (bytes_of (third_width c.kind) c.third) → s₅ ≡ put s place (call_field (add_claim c))
  unfolding call_content claim_bytes
  claim-put {s₂} {s₃} {s₄} {s₅} c fits e₁ e₂ e₃ e₄ e₅ =
      let w : ℕ = third_width c.kind in
      let long : 3 + w ≡ length (claim_bytes c) = sym (length-claim c) in
      let e : s₁ ≡ put s place (head_bytes tag.Claim (length (claim_bytes c))) = e₁ ∙ ap (λ (n : ℕ). put s place (head_bytes tag.Claim n)) long in
      let left : place + 3 + length (claim_bytes c) ≤ length s₁ = room s place tag.Claim (claim_bytes c) fits e in
      let w₂ : Wrote s₁ (place + 3) (bytes_of 1 c.kind) s₂ (place + 4) = wrote_number (place + 3) (place + 4) 1 c.kind (omega arith) (omega (arith, left, long)) e₂ in
      let w₃ : Wrote s₂ (place + 4) (bytes_of 1 c.left) s₃ (place + 5) = wrote_number (place + 4) (place + 5) 1 c.left (omega arith) (omega (arith, left, long, wrote_length w₂)) e₃ in
      let w₄ : Wrote s₃ (place + 5) (bytes_of 1 c.right) s₄ (place + 6) = wrote_number (place + 5) (place + 6) 1 c.right (omega arith) (omega (arith, left, long, wrote_length w₂, wrote_length w₃)) e₄ in
      let w₅ : Wrote s₄ (place + 6) (bytes_of w c.third) s₅ (place + 6 + w) = wrote_number (place + 6) (place + 6 + w) w c.third refl (omega (arith, left, long, wrote_length w₂, wrote_length w₃, wrote_length w₄)) e₅ in
      field_put s place tag.Claim (claim_bytes c) fits e (wrote_on w₂ (wrote_on w₃ (wrote_on w₄ w₅)))

-- ---- the values of a curve

pub record Filling (s : List ℕ) (at : ℕ) (values : List ℕ) (n : ℕ) (s' : List ℕ) : Type 0 where
  pub within : n ≤ length values
  pub room : at + 4 * length values ≤ length s
  pub so_far : Wrote s at (values_bytes (take n values)) s' (at + 4 * n)

pub filling_none : (s : List ℕ) (at : ℕ) (values : List ℕ) → at + 4 * length values ≤ length s → Filling s at values 0 s
unfolding flat_map
filling_none s at values fits = record { within = omega arith; room = fits; so_far = rw (add-zero at) (wrote_nothing s at (omega (arith, fits))) }

module _ {s : List ℕ} {at : ℕ} {values : List ℕ} {n : ℕ} {s' : List ℕ} (f : Filling s at values n s') where
  pub filling_length : length s' ≡ length s
  filling_length = wrote_length f.so_far

  pub filling_more : {s'' : List ℕ} → n < length values → s'' ≡ put_whole s' (at + 4 * n) (bytes_of 4 (get_or values n 0)) → Filling s at values (n + 1) s''
  filling_more {s''} more e =
      let text : values_bytes (take n values) ++ bytes_of 4 (get_or values n 0) ≡ values_bytes (take (n + 1) values) =
      sym (ap (λ (k : ℕ). values_bytes (take k values)) (add-one n) ∙ ap values_bytes (take-suc values n 0 more) ∙ flat_more (bytes_of 4) (take n values) (get_or values n 0)) in
      record {
        within = omega (arith, more);
        room = f.room;
        so_far = subst (λ (t : List ℕ). Wrote s at t s'' (at + 4 * (n + 1))) text
            (wrote_on f.so_far (wrote_number (at + 4 * n) (at + 4 * (n + 1)) 4 (get_or values n 0) (omega arith) (omega (arith, more, f.room, filling_length)) e));
      }

  pub filling_all : length values ≤ n → s' ≡ put s at (values_bytes values)
  filling_all all = f.so_far.held ∙ ap (λ (l : List ℕ). put s at (values_bytes l)) (take_all n values all)

-- ---- a call, by its field's size

module _ (call : Call) (w : Writer) where
  pub fault_is : (room size : ℕ) {a : Checked} → length (call_field call) ≡ size → a ≡ argument_fault w.state.curves call
      → first (order_fault w (call_tag call)) (first a (room_fault room w.state.place size)) ≡ call_fault w room call
  unfolding call_fault
  fault_is room size long e = rw (e, long)

  pub moved_by_lem : (size : ℕ) → length (call_field call) ≡ size
      → ◌≡◌ {A = Writer} (record { state = after (call_tag call) w.state (version_of call) (w.state.place + size); closed = closes call }) (moved_by call w)
  moved_by_lem size long = rw long
