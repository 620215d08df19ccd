-- Calls of a writer one after the other, as specs/Sequence defines them: what is proved of them.
--
--     any_calls     what holds after any calls whatever (Written). So: closed_sound     what a closed writer has
--         written is a sound book, and says what the calls said open_ends        what an open one has written lacks
--         only the end; begins_sound: and is always the beginning of a sound book closed_stays     once closed, it
--         stays
--     calls_write     a book within the limits is written by its calls, if it has room: all are taken, and they leave
--         its bytes and no others
--     written_and_read, read_and_written     and so read again; and a book that was read is written as it was
--     closed_same     any calls that leave a closed book leave what its own calls do
--     step_refused, step_taken     one call, by its answer
use Prim.Native.Nat.{ℕ, ◌+◌, ◌≤◌, ◌<◌}
use Rattle.std.specs.Prelude.{◌≡◌, refl, Bool, not, take, drop, eqb, Ok, Err}
use Rattle.std.proofs.Common.{sym, ◌∙◌, true≢false, arith, zero-add, take_at}
use Rattle.std.proofs.Math.Path.{ap, subst, subst₂}
use Rattle.std.proofs.Math.Bool.{true, false}
use mathlib.Core.List.{List, [], ◌∷◌, ◌++◌, map, flat_map, append-nil, append_assoc}
use mathlib.Mathlib.Data.List.Defs.{Forall}
use mathlib.Mathlib.Data.List.Basic.{Forall-cons}
use Rattle.std.proofs.Math.ListN.{length, length-append}
use borrow.Author.Tests.{leb-false, eqb-true, not-false, lt-leb}
use Rattle.minplus.specs.Search.{both_true}
use Rattle.minplus.specs.Curve.{WellFormed}
use Rattle.numbers.specs.Lists.{length_zero}
use Rattle.numbers.specs.Put.{put, put-nothing, length-put, drop-put, put-put}
use Rattle.numbers.specs.Back.{Bytes}
use Rattle.content.specs.declared.Refusal.{Refusal}
use Rattle.content.specs.declared.Refusal.TheVariants.{OutOfOrder, WrongVersion}
use Rattle.content.specs.Refusals.{Checked, on_sound}
use Rattle.content.specs.Sound.{listed_well, WellStated, well_stated}
use Rattle.field.specs.declared.Tag.TheVariants as tag
use Rattle.field.specs.Fields.{field_bytes}
use Rattle.field.specs.Steps.{max_curves, max_claims, is_version, in_order, full, after}
use Rattle.field.specs.Back.{begun-on}
use Rattle.book.specs.Reading.{Contents, sound, read_book}
use Rattle.book.specs.Listing.{Listing, listed, curve_fields, claim_fields, book_bytes, begun, with_curve, with_claim, WellListed, listing_in, open_begun, open_curve, open_claim, length_book, well_begun, well_curve, well_claim}
use Rattle.book.specs.RoundTrip.{written_read, read_written, read_well, w8_listing, w8_well}
use Rattle.writer.specs.declared.Writer.{Writer}
use Rattle.writer.specs.Writing.{Called, Call, begin, add_curve, add_claim, close, call_tag, call_content, call_field, fresh, order_fault, argument_fault, call_fault, version_of, closes, moved_by, called, Passes, call_taken}
use Rattle.writer.specs.Sequence.{Desk, entered, entered_on, step, after_calls, opened, reached, text_in, BookSays, AllTaken, calls_for, counted, standing, Stage, untouched, unfinished, finished, Written}
use Rattle.writer.proofs.Tests.{passes, call_refused}

-- ---- one call

module _ (d : Desk) (call : Call) where
  step_refused : (x : Refusal) → call_fault d.writer (length d.buffer) call ≡ Err x → step d call ≡ d
  unfolding step
  step_refused x e =
      let r = call_refused call d.writer d.buffer x e in
      λ i. record { writer = (r.0 i).writer; buffer = r.1 i; listing = entered_on (r.0 i).checked d.listing call }

  step_taken : call_fault d.writer (length d.buffer) call ≡ Ok tt
      → step d call ≡ record { writer = moved_by call d.writer; buffer = put d.buffer d.writer.state.place (call_field call); listing = entered d.listing call }
  unfolding step
  step_taken e =
      let r = call_taken call d.writer d.buffer e in
      λ i. record { writer = (r.0 i).writer; buffer = r.1 i; listing = entered_on (r.0 i).checked d.listing call }

-- "Closed books take nothing more: 3."
pub closed_stays : (d : Desk) → d.writer.closed ≡ true → (calls : List Call) → after_calls d calls ≡ d
unfolding after_calls call_fault order_fault
closed_stays d e [] = refl
closed_stays d e (call ∷ calls) = ap (λ (x : Desk). after_calls x calls) (step_refused d call OutOfOrder (rw e)) ∙ closed_stays d e calls

-- ---- a desk on which a text stands

-- and the text is written over s from its first byte on
abbrev laid : List ℕ → Bool → Listing → List ℕ → Desk
laid s closed b text = record { writer = standing closed b text; buffer = put s 0 text; listing = b }

laid-nothing : (s : List ℕ) → laid s false (begun 0) [] ≡ opened s
laid-nothing s = λ i. record { writer = fresh; buffer = put-nothing s 0 i; listing = begun 0 }

length-laid : (s text : List ℕ) → length text ≤ length s → length (put s 0 text) ≡ length s
length-laid s text room = length-put s 0 text (omega (arith, room))

take-laid : (s text : List ℕ) → take (length text) (put s 0 text) ≡ text
unfolding put
take-laid s text = take_at text (drop (0 + length text) s) (length text) refl

-- what is said is counted
counts_on : (b : Listing) (call : Call) (p q : ℕ) → after (call_tag call) (counted b p) (version_of call) q ≡ counted (entered b call) q
unfolding after
counts_on b (begin v) p q = refl
counts_on b (add_curve f) p q = λ i. record { version = b.version; curves = sym (length-append b.curves (f ∷ [])) i; claims = length b.claims; place = q }
counts_on b (add_claim c) p q = λ i. record { version = b.version; curves = length b.curves; claims = sym (length-append b.claims (c ∷ [])) i; place = q }
counts_on b close p q = refl

module _ (s : List ℕ) (closed : Bool) (b : Listing) (text : List ℕ) (call : Call) (p : Passes (standing closed b text) (length s) call) where
  abbrev new : List ℕ
  new = call_field call

  laid_fault : call_fault (standing closed b text) (length (put s 0 text)) call ≡ Ok tt
  laid_fault = rw (length-laid s text (omega (arith, p.fits))) ((passes (standing closed b text) (length s) call).1 p)

  laid_on : step (laid s closed b text) call ≡ laid s (closes call) (entered b call) (text ++ call_field call)
  laid_on =
      let k : ℕ = length text in
      let state-is : after (call_tag call) (counted b k) (version_of call) (k + length new) ≡ counted (entered b call) (length (text ++ new)) =
      counts_on b call k (k + length new) ∙ ap (counted (entered b call)) (sym (length-append text new)) in
      let buffer-is : put (put s 0 text) k new ≡ put s 0 (text ++ new) =
      ap (λ (at : ℕ). put (put s 0 text) at new) (sym (zero-add k)) ∙ put-put s 0 text new (omega (arith, p.fits)) in
      step_taken (laid s closed b text) call laid_fault
      ∙ (λ i. record { writer = record { state = state-is i; closed = closes call }; buffer = buffer-is i; listing = entered b call })

-- ---- any calls

never : {A : Type 0} → false ≡ true → A
never e = absurd (true≢false (sym e))

-- a call that is taken leads from one stage to the next
stage_on : {closed : Bool} {b : Listing} {text : List ℕ} → Stage closed b text → (room : ℕ) (call : Call) → Passes (standing closed b text) room call
    → Stage (closes call) (entered b call) (text ++ call_field call)
unfolding in_order full argument_fault call_content book_bytes
stage_on untouched room (begin v) p =
    subst (Stage false (begun v)) (open_begun v) (unfinished (well_begun v (not-false _ (on_sound (not (is_version v)) WrongVersion (Ok tt) p.right).0)))
stage_on untouched room (add_curve f) p = never p.ordered
stage_on untouched room (add_claim c) p = never p.ordered
stage_on untouched room close p = never p.ordered
stage_on (unfinished {b} w) room (begin v) p = never (sym (begun-on b.version w.version_known) ∙ p.ordered)
stage_on (unfinished {b} w) room (add_curve f) p =
    let order = (both_true (not (eqb b.version 0)) (eqb (length b.claims) 0)).0 p.ordered in
    let none_yet : b.claims ≡ [] = length_zero b.claims (eqb-true (length b.claims) 0 order.1) in
    subst (Stage false (with_curve b f)) (open_curve b f none_yet) (unfinished (well_curve w f ((listed_well f).0 p.right) (leb-false _ _ p.few) none_yet))
stage_on (unfinished {b} w) room (add_claim c) p =
    subst (Stage false (with_claim b c)) (open_claim b c) (unfinished (well_claim w c ((well_stated (length b.curves) c).0 p.right) (leb-false _ _ p.few)))
stage_on (unfinished w) room close p = finished w
stage_on (finished w) room call p = never (sym p.still_open)

-- the same as one form, that a call keeps
data Laid (s : List ℕ) : Desk → Type 0 where
  laid_out : {closed : Bool} {b : Listing} {text : List ℕ} → Stage closed b text → length text ≤ length s → Laid s (laid s closed b text)

laid-step : {s : List ℕ} {d : Desk} → Laid s d → (call : Call) → Laid s (step d call)
laid-step {s} (laid_out {closed} {b} {text} stage room) call = go (call_fault (standing closed b text) (length (put s 0 text)) call) refl
  where
    go : (x : Checked) → call_fault (standing closed b text) (length (put s 0 text)) call ≡ x → Laid s (step (laid s closed b text) call)
    go (Err x) e = subst (Laid s) (sym (step_refused (laid s closed b text) call x e)) (laid_out stage room)
    go (Ok u) e =
        let p = (passes (standing closed b text) (length s) call).0 (rw (length-laid s text room) at e) in
        subst (Laid s) (sym (laid_on s closed b text call p)) (laid_out (stage_on stage (length s) call p) (omega (arith, p.fits, length-append text (call_field call))))

laid_calls : {s : List ℕ} {d : Desk} → Laid s d → (calls : List Call) → Laid s (after_calls d calls)
unfolding after_calls
laid_calls {s = s} {d = d} l [] = l
laid_calls {s = s} {d = d} l (call ∷ calls) = laid_calls {s = s} {d = step d call} (laid-step l call) calls

-- a text that is the beginning of a book within the limits
record Begins (text : List ℕ) : Type 0 where
  book : Listing
  rest : List ℕ
  well : WellListed book
  whole : text ++ rest ≡ book_bytes book

begins : {closed : Bool} {b : Listing} {text : List ℕ} → Stage closed b text → Begins text
unfolding book_bytes
begins untouched = record { book = w8_listing; rest = book_bytes w8_listing; well = w8_well; whole = refl }
begins (unfinished {b} w) = record { book = b; rest = field_bytes tag.End []; well = w; whole = refl }
begins (finished {b} w) = record { book = b; rest = []; well = w; whole = append-nil (book_bytes b) }

laid-written : {s : List ℕ} {d : Desk} → Laid s d → Written s d
laid-written {s} (laid_out {closed} {b} {text} stage room) =
    let p = begins stage in
    let is : text ≡ take (length text) (put s 0 text) = sym (take-laid s text) in
    record {
      same_length = length-laid s text room;
      inside = room;
      short = omega (arith, length-append text p.rest, ap length p.whole, length_book p.book p.well);
      kept = subst (λ (k : ℕ). drop k (put s 0 text) ≡ drop k s) (zero-add (length text)) (drop-put s 0 text (omega (arith, room)));
      writer_is = ap (standing closed b) is;
      stage = subst (Stage closed b) is stage;
    }

laid-reached : (s : List ℕ) (calls : List Call) → Laid s (reached s calls)
laid-reached s calls = laid_calls (subst (Laid s) (laid-nothing s) (laid_out untouched (omega arith))) calls

pub any_calls : (s : List ℕ) (calls : List Call) → Written s (reached s calls)
any_calls s calls = laid-written (laid-reached s calls)

-- ---- and so

stage_sound : {b : Listing} {text : List ℕ} → Stage true b text → BookSays text b
stage_sound (finished {b} w) = written_read b w

stage_ends : {b : Listing} {text : List ℕ} → Stage false b text → ¬ (b.version ≡ 0) → BookSays (text ++ field_bytes tag.End []) b
unfolding book_bytes
stage_ends untouched some = absurd (some refl)
stage_ends (unfinished {b} w) some = written_read b w

module _ (s : List ℕ) (calls : List Call) where
  abbrev d : Desk
  d = reached s calls

  abbrev so : Written s d
  so = any_calls s calls

  pub closed_sound : (reached s calls).writer.closed ≡ true → BookSays (text_in (reached s calls)) (reached s calls).listing
  closed_sound e = stage_sound (subst (λ (x : Bool). Stage x d.listing (text_in d)) e so.stage)

  -- where something was begun
  pub open_ends : (reached s calls).writer.closed ≡ false → ¬ ((reached s calls).writer.state.version ≡ 0)
      → BookSays (text_in (reached s calls) ++ field_bytes tag.End []) (reached s calls).listing
  open_ends e some =
      stage_ends (subst (λ (x : Bool). Stage x d.listing (text_in d)) e so.stage) (λ none. some (ap (λ (w : Writer). w.state.version) so.writer_is ∙ none))

  pub begins_sound : (rest : List ℕ) × (c : Contents) × (read_book (text_in (reached s calls) ++ rest) ≡ sound c)
  begins_sound =
      let p = begins so.stage in
      let r = written_read p.book p.well in
      (p.rest, r.0, ap read_book p.whole ∙ r.1)

-- ---- the calls that write a book

module _ (s : List ℕ) (end : Desk) where
  -- all are taken, and lead to the end
  record Goes (d : Desk) (calls : List Call) : Type 0 where
    taken : AllTaken d calls
    to : after_calls d calls ≡ end

  -- one call, and then the others
  goes_on : (closed : Bool) (b : Listing) (text : List ℕ) (call : Call) → Passes (standing closed b text) (length s) call
      → (calls : List Call) → Goes (laid s (closes call) (entered b call) (text ++ call_field call)) calls → Goes (laid s closed b text) (call ∷ calls)
  unfolding AllTaken after_calls
  goes_on closed b text call p calls g =
      let here : Desk = laid s closed b text in
      let answer : (called call here.writer here.buffer).checked ≡ Ok tt =
      ap (λ (x : Called). x.checked) (call_taken call here.writer here.buffer (laid_fault s closed b text call p)).0 in
      let rest : Goes (step here call) calls = subst (λ (d : Desk). Goes d calls) (sym (laid_on s closed b text call p)) g in
      record { taken = (answer, rest.taken); to = rest.to }

  -- a call for each of a list, and then the others
  module _ {A : Type 0} (call : A → Call) (limit : ℕ) (P : A → Type 0) (said : List A → Listing)
      (one : (l : List A) (x : A) (text : List ℕ) → length l < limit → P x → length text + length (call_field (call x)) ≤ length s
      → (calls : List Call) → Goes (laid s false (said (l ++ (x ∷ []))) (text ++ call_field (call x))) calls → Goes (laid s false (said l) text) (call x ∷ calls)) where
    abbrev fields : List A → List ℕ
    fields l = flat_map (λ x. call_field (call x)) l

    every_call : (l m : List A) (text : List ℕ) (calls : List Call) → length l + length m ≤ limit → Forall P m → length text + length (fields m) ≤ length s
        → Goes (laid s false (said (l ++ m)) (text ++ fields m)) calls → Goes (laid s false (said l) text) (map call m ++ calls)
    unfolding flat_map
    every_call l [] text calls few each fits g = subst₂ (λ (k : List A) (t : List ℕ). Goes (laid s false (said k) t) calls) (append-nil l) (append-nil text) g
    every_call l (x ∷ m) text calls few each fits g =
        let both = (Forall-cons P x m).0 each in
        let new : List ℕ = call_field (call x) in
        let more : length (new ++ fields m) ≡ length new + length (fields m) = length-append new (fields m) in
        one l x text (omega (arith, few)) both.0 (omega (arith, fits, more)) (map call m ++ calls)
        (every_call (l ++ (x ∷ [])) m (text ++ new) calls (omega (arith, few, length-append l (x ∷ []))) both.1 (omega (arith, fits, more, length-append text new))
        (subst₂ (λ (k : List A) (t : List ℕ). Goes (laid s false (said k) t) calls) (sym (append_assoc l (x ∷ []) m)) (sym (append_assoc text new (fields m))) g))

module _ (s : List ℕ) (b : Listing) (w : WellListed b) (room : length (book_bytes b) ≤ length s) where
  abbrev end : Desk
  end = laid s true b (book_bytes b)

  abbrev v : ℕ
  v = b.version

  abbrev t₀ : List ℕ
  t₀ = call_field (begin v)

  abbrev t₁ : List ℕ
  t₁ = t₀ ++ curve_fields b.curves

  abbrev t₂ : List ℕ
  t₂ = t₁ ++ claim_fields b.claims

  all_is : t₂ ++ call_field close ≡ book_bytes b
  unfolding book_bytes call_content
  all_is = ap (λ (t : List ℕ). t ++ call_field close) (append_assoc t₀ (curve_fields b.curves) (claim_fields b.claims))

  goes_all : Goes s end (laid s false (begun 0) []) (calls_for b)
  unfolding calls_for in_order full argument_fault call_content AllTaken after_calls
  goes_all =
      let begun-so = begun-on v w.version_known in
      let n₁ = length-append t₀ (curve_fields b.curves) in
      let n₂ = length-append t₁ (claim_fields b.claims) in
      let n₃ = length-append t₂ (call_field close) in
      let fits : length t₂ + length (call_field close) ≤ length s = omega (arith, room, n₃, ap length all_is) in
      let last : List Call = close ∷ [] in
      let claims : List Call = map add_claim b.claims ++ last in
      let at-end : Goes s end (laid s false b t₂) last =
      goes_on s end false b t₂ close (record { still_open = refl; ordered = rw begun-so; few = refl; right = refl; fits = fits }) [] (record { taken = tt; to = ap (laid s true b) all_is }) in
      let at-claims : Goes s end (laid s false (listed v b.curves []) t₁) claims =
      every_call s end add_claim max_claims (WellStated (length b.curves)) (listed v b.curves)
      (λ l c text few well fits. goes_on s end false (listed v b.curves l) text (add_claim c)
      (record { still_open = refl; ordered = rw begun-so; few = lt-leb _ _ few; right = (well_stated (length b.curves) c).1 well; fits = fits }))
      [] b.claims t₁ last (omega (arith, w.claims-fit)) w.each_claim (omega (arith, fits, n₂)) at-end in
      let at-curves : Goes s end (laid s false (begun v) t₀) (map add_curve b.curves ++ claims) =
      every_call s end add_curve max_curves WellFormed (λ l. listed v l [])
      (λ l f text few well fits. goes_on s end false (listed v l []) text (add_curve f)
      (record { still_open = refl; ordered = rw begun-so; few = lt-leb _ _ few; right = (listed_well f).1 well; fits = fits }))
      [] b.curves t₀ claims (omega (arith, w.curves-fit)) w.each_curve (omega (arith, fits, n₁, n₂)) at-claims in
      goes_on s end false (begun 0) [] (begin v)
      (record { still_open = refl; ordered = refl; few = refl; right = rw w.version_known; fits = omega (arith, fits, n₁, n₂) }) (map add_curve b.curves ++ claims) at-curves

  pub calls_write : AllTaken (opened s) (calls_for b)
      × (reached s (calls_for b) ≡ record { writer = standing true b (book_bytes b); buffer = put s 0 (book_bytes b); listing = b })
  calls_write = let g = subst (λ (d : Desk). Goes s end d (calls_for b)) (laid-nothing s) goes_all in (g.taken, g.to)

  pub written_and_read : BookSays (take (length (book_bytes b)) (reached s (calls_for b)).buffer) b
  written_and_read =
      subst (λ (t : List ℕ). BookSays t b) (sym (ap (λ (d : Desk). take (length (book_bytes b)) d.buffer) calls_write.1 ∙ take-laid s (book_bytes b))) (written_read b w)

pub read_and_written : (s : List ℕ) (c : Contents) → Bytes s → read_book s ≡ sound c → (buffer : List ℕ) → length s ≤ length buffer
    → (reached buffer (calls_for (listing_in s c))).buffer ≡ put buffer 0 s
read_and_written s c small e buffer room =
    let same : book_bytes (listing_in s c) ≡ s = read_written s c small e in
    ap (λ (d : Desk). d.buffer) (calls_write buffer (listing_in s c) (read_well s c e) (omega (arith, room, ap length same))).1 ∙ ap (put buffer 0) same

-- whatever the calls were: what stands once the book is closed, its own calls leave too
pub closed_same : (s : List ℕ) (calls : List Call) → (reached s calls).writer.closed ≡ true → reached s calls ≡ reached s (calls_for (reached s calls).listing)
closed_same s calls = go (laid-reached s calls)
  where
    go : {d : Desk} → Laid s d → d.writer.closed ≡ true → d ≡ reached s (calls_for d.listing)
    go (laid_out untouched room) e = never e
    go (laid_out (unfinished w) room) e = never e
    go (laid_out (finished {b} w) room) e = sym (calls_write s b w room).1
