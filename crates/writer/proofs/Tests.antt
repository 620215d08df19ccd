-- Why a call is refused, and what is left and returned then.
--
--     passes           a call is taken exactly when it passes each test
--     call_refused     what a call leaves that is refused
--     admits           what is known where the code's own tests (fault) let a call pass
--     refused_return, taken_return     what is returned and left then
use Rattle.std.specs.Prelude.{ℕ, ◌+◌, ◌≡◌, refl, Bool, not, List, ◌↔◌, length, ltb, Ok, Err}
use Rattle.std.proofs.Math.Path.{ap, sym}
use Rattle.std.proofs.Common.{◌∙◌, ltb-false, le-ltb}
use Rattle.std.proofs.lemmas.Bool.{not-false}
use Rattle.numbers.specs.Put.{put}
use Rattle.content.specs.declared.Refusal.{Refusal}
use Rattle.content.specs.declared.Refusal.TheVariants.{OutOfOrder, TooMany, NoRoom}
use Rattle.content.specs.Refusals.{Checked, on_sound}
use Rattle.field.specs.declared.State.{State}
use Rattle.field.specs.Steps.{in_order, full, after}
use Rattle.writer.specs.declared.Writer.{Writer}
use Rattle.writer.specs.Writing.{Call, call_tag, call_field, first, order_fault, argument_fault, room_fault, call_fault, version_of, closes, Called, called_on, written_on, called, written, Passes, call_taken}
use Rattle.writer.specs.Held.{fault_is, moved_by_lem}

first_sound : (x y : Checked) → first x y ≡ Ok tt → (x ≡ Ok tt) × (y ≡ Ok tt)
first_sound (Err x) y e = (cc, cc)
first_sound (Ok u) y e = (refl, e)

pub passes : (w : Writer) (room : ℕ) (call : Call) → (call_fault w room call ≡ Ok tt) ↔ Passes w room call
unfolding call_fault order_fault room_fault
passes w room call = (
  λ e.
      let order = first_sound (order_fault w (call_tag call)) _ e in
      let rest = first_sound (argument_fault w.state.curves call) _ order.1 in
      let t₁ = on_sound w.closed OutOfOrder _ order.0 in
      let t₂ = on_sound (not (in_order (call_tag call) w.state.version w.state.claims)) OutOfOrder _ t₁.1 in
      let t₃ = on_sound (full (call_tag call) w.state.curves w.state.claims) TooMany _ t₂.1 in
      let t₄ = on_sound (ltb room (w.state.place + length (call_field call))) NoRoom _ rest.1 in
      record { still_open = t₁.0; ordered = not-false _ t₂.0; few = t₃.0; right = rest.0; fits = ltb-false _ _ t₄.0 },
  λ p. rw (p.still_open, p.ordered, p.few, p.right, le-ltb room (w.state.place + length (call_field call)) p.fits),
)

module _ (call : Call) (w : Writer) (s : List ℕ) where
  pub call_refused : (x : Refusal) → call_fault w (length s) call ≡ Err x → (called call w s ≡ record { checked = Err x; writer = w }) × (written call w s ≡ s)
  unfolding called written
  call_refused x e = (ap (λ (y : Checked). called_on y call w) e, ap (λ (y : Checked). written_on y call w s) e)

  module _ {size : ℕ} {argument r : Checked} (long : length (call_field call) ≡ size) (is : argument ≡ argument_fault w.state.curves call)
      (e : r ≡ first (order_fault w (call_tag call)) (first argument (room_fault (length s) w.state.place size))) where
    fault : r ≡ call_fault w (length s) call
    fault = e ∙ fault_is call w (length s) size long is

    pub admits : r ≡ Ok tt → Passes w (length s) call
    admits so = (passes w (length s) call).0 (sym fault ∙ so)

    pub refused_return : (x : Refusal) → r ≡ Err x
        → (Err x ≡ (called call w s).checked) × (w ≡ (called call w s).writer) × (s ≡ written call w s)
    refused_return x so =
        let told = call_refused x (sym fault ∙ so) in
        (sym (ap (λ (c : Called). c.checked) told.0), sym (ap (λ (c : Called). c.writer) told.0), sym told.1)

    pub taken_return : r ≡ Ok tt → {closed : Bool} {s' : List ℕ} → closed ≡ closes call → s' ≡ put s w.state.place (call_field call)
        → (Ok tt ≡ (called call w s).checked)
        × (◌≡◌ {A = Writer} (record { state = after (call_tag call) w.state (version_of call) (w.state.place + size); closed = closed }) (called call w s).writer)
        × (s' ≡ written call w s)
    taken_return so {closed} shut held =
        let told = call_taken call w s (sym fault ∙ so) in
        let at : State = after (call_tag call) w.state (version_of call) (w.state.place + size) in
        let shut-so : ◌≡◌ {A = Writer} (record { state = at; closed = closed }) (record { state = at; closed = closes call }) =
        λ i. record { state = at; closed = shut i } in (
          sym (ap (λ (c : Called). c.checked) told.0),
          shut-so ∙ moved_by_lem call w size long ∙ sym (ap (λ (c : Called). c.writer) told.0),
          held ∙ sym told.1,
        )
