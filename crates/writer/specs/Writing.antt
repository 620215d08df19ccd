-- One call of a writer. Document 01: "Writing goes by begin, add curve, add claim, close. Each call may refuse with 3,
-- 4, then 7, 6 (the list isn't T+d values), 8, 9 for a curve or 10, 11, 12 for a claim, and last 14, given exactly when
-- too few bytes remain for this field; bytes and state then stay. A writer's refusal is a number without a place. A
-- call that is taken writes the field's bytes after those before and no others. An unknown kind is 10. Closed books
-- take nothing more: 3."
--
--     Call             the four calls with their arguments; call_tag, call_content, call_field: the field that one
--                      writes
--     fresh            a writer before it has begun
--     call_fault       why a call is refused, in that order: the first of order_fault, argument_fault and room_fault
--     moved_by         where a writer stands after a call that is taken (version_of, closes)
--     called           the answer and the writer after it (Called)
--     written          every byte of the buffer after it
--     Passes           a call is taken exactly when (proofs/Tests: passes)
--     call_taken       what a call leaves that is taken (of one that is refused, proofs/Tests: call_refused)
use Rattle.std.specs.Prelude.{ℕ, ◌+◌, ◌≤◌, ◌≡◌, Bool, true, false, not, List, [], length, ltb, Ok, Err}
use Rattle.std.proofs.Math.Path.{ap}
use Rattle.minplus.specs.Curve.{Curve}
use Rattle.numbers.specs.Put.{put, bytes_of}
use Rattle.content.specs.declared.Refusal.TheVariants.{OutOfOrder, TooMany, WrongVersion, NoRoom}
use Rattle.content.specs.declared.Statement.{Statement}
use Rattle.content.specs.Layout.{curve_bytes, claim_bytes}
use Rattle.content.specs.Refusals.{Checked, on, listed_fault, statement_fault}
use Rattle.field.specs.declared.Tag.{Tag}
use Rattle.field.specs.declared.Tag.TheVariants as tag
use Rattle.field.specs.Fields.{field_bytes}
use Rattle.field.specs.Steps.{is_version, in_order, full, after}
use Rattle.book.specs.Reading.{start}
use Rattle.writer.specs.declared.Writer.{Writer}

-- begin is given the version that it writes
pub data Call : Type 0 where
  begin : (version : ℕ) → Call
  add_curve : Curve → Call
  add_claim : Statement → Call
  close : Call

abbrev pub call_tag : Call → Tag
call_tag (begin v) = tag.Version
call_tag (add_curve f) = tag.Curve
call_tag (add_claim c) = tag.Claim
call_tag close = tag.End

unfoldable pub call_content : Call → List ℕ
unfolding curve_bytes claim_bytes
call_content (begin v) = bytes_of 1 v
call_content (add_curve f) = curve_bytes f
call_content (add_claim c) = claim_bytes c
call_content close = []

abbrev pub call_field : Call → List ℕ
call_field call = field_bytes (call_tag call) (call_content call)

abbrev pub fresh : Writer
fresh = record { state = start; closed = false }

-- ---- why a call is refused

-- the first refusal of two
abbrev pub first : Checked → Checked → Checked
first (Err x) later = Err x
first (Ok u) later = later

-- "3" out of order, or closed, or begun twice, or not begun; "4" a 17th curve or a 257th claim
unfoldable pub order_fault : Writer → Tag → Checked
unfolding in_order full
order_fault w t =
    on w.closed OutOfOrder
    (on (not (in_order t w.state.version w.state.claims)) OutOfOrder
    (on (full t w.state.curves w.state.claims) TooMany
    (Ok tt)))

-- "then 7, 6, 8, 9 for a curve or 10, 11, 12 for a claim"
unfoldable pub argument_fault : ℕ → Call → Checked
unfolding listed_fault statement_fault
argument_fault curves (begin v) = on (not (is_version v)) WrongVersion (Ok tt)
argument_fault curves (add_curve f) = listed_fault f
argument_fault curves (add_claim c) = statement_fault curves c
argument_fault curves close = Ok tt

-- "last 14, given exactly when too few bytes remain for this field"
unfoldable pub room_fault : ℕ → ℕ → ℕ → Checked
room_fault room place size = on (ltb room (place + size)) NoRoom (Ok tt)

unfoldable pub call_fault : Writer → ℕ → Call → Checked
unfolding order_fault argument_fault room_fault call_content field_bytes
call_fault w room call =
    first (order_fault w (call_tag call))
    (first (argument_fault w.state.curves call)
    (room_fault room w.state.place (length (call_field call))))

-- ---- what a call answers and writes

abbrev pub version_of : Call → ℕ
version_of (begin v) = v
version_of (add_curve f) = 0
version_of (add_claim c) = 0
version_of close = 0

abbrev pub closes : Call → Bool
closes (begin v) = false
closes (add_curve f) = false
closes (add_claim c) = false
closes close = true

-- where a writer stands after a call that is taken: where a reader stands after its field
abbrev pub moved_by : Call → Writer → Writer
moved_by call w = record { state = after (call_tag call) w.state (version_of call) (w.state.place + length (call_field call)); closed = closes call }

-- a call's answer, and where the writer stands after it
pub record Called : Type 0 where
  pub checked : Checked
  pub writer : Writer

-- "bytes and state then stay"
abbrev pub called_on : Checked → Call → Writer → Called
called_on (Err x) call w = record { checked = Err x; writer = w }
called_on (Ok u) call w = record { checked = Ok tt; writer = moved_by call w }

-- "A call that is taken writes the field's bytes after those before and no others."
abbrev pub written_on : Checked → Call → Writer → List ℕ → List ℕ
written_on (Err x) call w s = s
written_on (Ok u) call w s = put s w.state.place (call_field call)

unfoldable pub called : Call → Writer → List ℕ → Called
unfolding call_fault after
called call w s = called_on (call_fault w (length s) call) call w

unfoldable pub written : Call → Writer → List ℕ → List ℕ
unfolding call_fault put
written call w s = written_on (call_fault w (length s) call) call w s

-- ---- laws

pub record Passes (w : Writer) (room : ℕ) (call : Call) : Type 0 where
  pub still_open : w.closed ≡ false
  pub ordered : in_order (call_tag call) w.state.version w.state.claims ≡ true
  pub few : full (call_tag call) w.state.curves w.state.claims ≡ false
  pub right : argument_fault w.state.curves call ≡ Ok tt
  pub fits : w.state.place + length (call_field call) ≤ room

module _ (call : Call) (w : Writer) (s : List ℕ) where
  pub call_taken : call_fault w (length s) call ≡ Ok tt
      → (called call w s ≡ record { checked = Ok tt; writer = moved_by call w }) × (written call w s ≡ put s w.state.place (call_field call))
  unfolding called written
  call_taken e = (ap (λ (y : Checked). called_on y call w) e, ap (λ (y : Checked). written_on y call w s) e)
