-- The laws of specs/Calls.antt.
use Rattle.std.specs.Prelude.{ℕ, ◌+◌, ◌*◌, ◌%◌, ◌^◌, ◌≤◌, ◌<◌, ◌≡◌, refl, Bool, true, length, replicate, Ok, Err}
use Rattle.std.proofs.Common.{sym, ◌∙◌, arith}
use Rattle.std.proofs.Math.Path.{ap, ap₂, subst}
use mathlib.Core.List.{List, [], ◌∷◌}
use Rattle.std.proofs.Math.ListN.{take}
use Rattle.minplus.specs.Claim.{kind_by}
use Rattle.numbers.specs.Put.{bytes_of}
use Rattle.content.specs.Refusals.{Checked}
use Rattle.field.specs.Steps.{max_curves, max_claims}
use Rattle.field.specs.Back.{version_fits}
use Rattle.book.specs.Listing.{Listing}
use Rattle.book.specs.RoundTrip.{w8_listing}
use Rattle.writer.specs.declared.Writer.{Writer}
use Rattle.writer.specs.Writing.{Called, Call, call_fault, called, written, call_taken}
use Rattle.writer.proofs.Tests.{call_refused}
use Rattle.writer.specs.Sequence.{Desk, step, after_calls, opened, reached, BookSays, Stage, untouched, unfinished, finished, Written, calls_for}
use Rattle.writer.proofs.Sequence.{any_calls, closed_sound}
use Rattle.zurmakida.specs.States.{writer_of, answered, answered_on, Kept, state_back, fresh_back}
use Rattle.zurmakida.specs.Calls.{Held, called_from, held_after, held_from}

-- ---- laws

kept_stage : {closed : Bool} {b : Listing} {text : List ℕ} → Stage closed b text → (b.version < 2 ^ 7) × (length b.curves ≤ max_curves) × (length b.claims ≤ max_claims)
kept_stage untouched = (omega arith, omega arith, omega arith)
kept_stage (unfinished {b} w) = ((version_fits b.version w.version_known).1, w.curves-fit, w.claims-fit)
kept_stage (finished {b} w) = ((version_fits b.version w.version_known).1, w.curves-fit, w.claims-fit)

kept_after : {s : List ℕ} {d : Desk} → Written s d → Kept d.writer
kept_after {s} {d} so =
    let few = kept_stage so.stage in
    let is = so.writer_is in
    record {
      place_fits = omega (arith, so.short);
      claims-fit = omega (arith, ap (λ (w : Writer). w.state.claims) is, few.2);
      curves-fit = omega (arith, ap (λ (w : Writer). w.state.curves) is, few.1);
      version_fits = omega (arith, ap (λ (w : Writer). w.state.version) is, few.0);
    }

-- the number that is answered is the writer's, if the writer's parts have room in it
answer_back : (n : ℕ) (call : Call) (s : List ℕ) → Kept (called call (writer_of n) s).writer
    → writer_of (answered n (called call (writer_of n) s)).state ≡ (called call (writer_of n) s).writer
unfolding answered
answer_back n call s kept = go (call_fault (writer_of n) (length s) call) refl
  where
    back : (c : Called) → c.checked ≡ Ok tt → Kept c.writer → writer_of (answered_on c.checked n c.writer).state ≡ c.writer
    back c is kept = ap (λ (y : Checked). writer_of (answered_on y n c.writer).state) is ∙ state_back c.writer kept

    go : (x : Checked) → call_fault (writer_of n) (length s) call ≡ x → writer_of (answered n (called call (writer_of n) s)).state ≡ (called call (writer_of n) s).writer
    go (Err x) e =
        let told = (call_refused call (writer_of n) s x e).0 in
        ap (λ (c : Called). writer_of (answered n c).state) told ∙ sym (ap (λ (c : Called). c.writer) told)
    go (Ok u) e = back (called call (writer_of n) s) (ap (λ (c : Called). c.checked) (call_taken call (writer_of n) s e).0) kept

module _ (s : List ℕ) where
  follows : (d : Desk) → ((calls : List Call) → Written s (after_calls d calls)) → (h : Held) → writer_of h.state ≡ d.writer → h.buffer ≡ d.buffer → (calls : List Call)
      → (writer_of (held_after h calls).state ≡ (after_calls d calls).writer) × ((held_after h calls).buffer ≡ (after_calls d calls).buffer)
  unfolding held_after after_calls called_from step
  follows d so h e e' [] = (e, e')
  follows d so h e e' (call ∷ calls) =
      let same : called call (writer_of h.state) h.buffer ≡ called call d.writer d.buffer = ap₂ (called call) e e' in
      let kept : Kept (called call (writer_of h.state) h.buffer).writer = subst (λ (c : Called). Kept c.writer) (sym same) (kept_after (so (call ∷ []))) in
      follows (step d call) (λ more. so (call ∷ more)) (called_from h call) (answer_back h.state call h.buffer kept ∙ ap (λ (c : Called). c.writer) same)
      (ap₂ (written call) e e') calls

  pub state_calls : (calls : List Call)
      → (writer_of (held_from s calls).state ≡ (reached s calls).writer) × ((held_from s calls).buffer ≡ (reached s calls).buffer)
  state_calls calls = follows (opened s) (any_calls s) (record { state = 0; buffer = s }) fresh_back.1 refl calls

  -- "after close is a sound book": the state says how many bytes it has
  pub closed_book : (calls : List Call) → (writer_of (held_from s calls).state).closed ≡ true
      → BookSays (take ((held_from s calls).state % 2 ^ 16) (held_from s calls).buffer) (reached s calls).listing
  unfolding writer_of
  closed_book calls closed =
      let told = state_calls calls in
      let text = ap₂ take (ap (λ (w : Writer). w.state.place) told.0) told.1 in
      subst (λ (t : List ℕ). BookSays t (reached s calls).listing) (sym text) (closed_sound s calls (sym (ap (λ (w : Writer). w.closed) told.0) ∙ closed))

pub w8-held : (held_from (replicate 60 0) (calls_for w8_listing)).state ≡ 59 + 2 ^ 16 * 1 + 2 ^ 32 * 2 + 2 ^ 40 * 1 + 2 ^ 47
unfolding held_after calls_for w8_listing kind_by bytes_of
w8-held = refl
