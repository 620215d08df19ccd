-- Calls of a writer one after the other: any calls whatever, taken or refused, and those that write a book. The
-- definitions; what is proved of them stands in proofs/Sequence.
--
--     Desk             where the writing of a book stands: the writer, the lent bytes, and what the calls that were
--                      taken have said (entered, entered_on)
--     step, after_calls     one call and a list of them, by Writing's `called` and `written`; opened, reached: from a
--                      writer that has not begun
--     text_in          the bytes before the writer's place; BookSays: they are a sound book that says this
--     AllTaken         no call of the list is refused
--     calls_for        the calls that write a book: begin, each curve, each claim, close
--     Stage            what is written and what is said go together: nothing yet, a book without its end, a book
--     Written          what holds after any calls whatever, of a writer that stands after a text (standing, counted)
--     w8_stands, w8_short     document 01's book, computed, with room and with one byte too few
use Prim.Native.Nat.{ℕ, ◌≤◌}
use Rattle.std.specs.Prelude.{◌≡◌, refl, Bool, take, drop, replicate, Ok, Err}
use Rattle.std.proofs.Math.Bool.{true, false}
use mathlib.Core.List.{List, [], ◌∷◌, ◌++◌, map}
use Rattle.std.proofs.Math.ListN.{length}
use Rattle.minplus.specs.Claim.{kind_by}
use Rattle.numbers.specs.Put.{bytes_of}
use Rattle.content.specs.Refusals.{Checked}
use Rattle.field.specs.declared.State.{State}
use Rattle.book.specs.Reading.{Contents, sound, read_book}
use Rattle.book.specs.Ground.{w8}
use Rattle.book.specs.Listing.{Listing, listed, open_bytes, book_bytes, begun, with_curve, with_claim, WellListed, listing_in}
use Rattle.book.specs.RoundTrip.{w8_listing}
use Rattle.writer.specs.declared.Writer.{Writer}
use Rattle.writer.specs.Writing.{Call, begin, add_curve, add_claim, close, fresh, called, written}

pub record Desk : Type 0 where
  pub writer : Writer
  pub buffer : List ℕ
  pub listing : Listing

-- what is said with one call more. A version is taken only where nothing is said yet
abbrev pub entered : Listing → Call → Listing
entered b (begin v) = listed v b.curves b.claims
entered b (add_curve f) = with_curve b f
entered b (add_claim c) = with_claim b c
entered b close = b

-- a call that is refused says nothing
abbrev pub entered_on : Checked → Listing → Call → Listing
entered_on (Err x) b call = b
entered_on (Ok u) b call = entered b call

unfoldable pub step : Desk → Call → Desk
unfolding called written
step d call = record {
  writer = (called call d.writer d.buffer).writer;
  buffer = written call d.writer d.buffer;
  listing = entered_on (called call d.writer d.buffer).checked d.listing call;
}

unfoldable pub after_calls : Desk → List Call → Desk
unfolding step
after_calls d [] = d
after_calls d (call ∷ calls) = after_calls (step d call) calls

abbrev pub opened : List ℕ → Desk
opened s = record { writer = fresh; buffer = s; listing = begun 0 }

abbrev pub reached : List ℕ → List Call → Desk
reached s calls = after_calls (opened s) calls

-- what is written
abbrev pub text_in : Desk → List ℕ
text_in d = take d.writer.state.place d.buffer

abbrev pub BookSays : List ℕ → Listing → Type 0
BookSays text b = (c : Contents) × (read_book text ≡ sound c) × (listing_in text c ≡ b)

unfoldable pub AllTaken : Desk → List Call → Type 0
unfolding step
AllTaken d [] = Unit {0}
AllTaken d (call ∷ calls) = ((called call d.writer d.buffer).checked ≡ Ok tt) × AllTaken (step d call) calls

unfoldable pub calls_for : Listing → List Call
calls_for b = begin b.version ∷ (map add_curve b.curves ++ (map add_claim b.claims ++ (close ∷ [])))

-- ---- a desk on which a text stands

abbrev pub counted : Listing → ℕ → State
counted b place = record { version = b.version; curves = length b.curves; claims = length b.claims; place = place }

-- a writer that has counted what is said and stands after the text. With nothing said and no text it is fresh
abbrev pub standing : Bool → Listing → List ℕ → Writer
standing closed b text = record { state = counted b (length text); closed = closed }

-- ---- any calls

-- a writer that is open or closed, what is said, and what is written
pub data Stage : Bool → Listing → List ℕ → Type 0 where
  untouched : Stage false (begun 0) []
  unfinished : {b : Listing} → WellListed b → Stage false b (open_bytes b)
  finished : {b : Listing} → WellListed b → Stage true b (book_bytes b)

-- where the bytes were s: from the place on they still are, and before it stands what is said
pub record Written (s : List ℕ) (d : Desk) : Type 0 where
  pub same_length : length d.buffer ≡ length s
  pub inside : d.writer.state.place ≤ length s
  pub short : d.writer.state.place ≤ 19_127
  pub kept : drop d.writer.state.place d.buffer ≡ drop d.writer.state.place s
  pub writer_is : d.writer ≡ standing d.writer.closed d.listing (text_in d)
  pub stage : Stage d.writer.closed d.listing (text_in d)

-- ---- document 01's book in full

pub w8_stands : reached (replicate 60 0) (calls_for w8_listing)
    ≡ record { writer = record { state = record { version = 1; curves = 2; claims = 1; place = 59 }; closed = true }; buffer = w8 ++ (0 ∷ []); listing = w8_listing }
unfolding after_calls calls_for w8_listing w8 kind_by bytes_of
w8_stands = refl

-- the end has no room: it is refused, and the book stays open
pub w8_short : (reached (replicate 58 0) (calls_for w8_listing)).writer ≡ record { state = record { version = 1; curves = 2; claims = 1; place = 56 }; closed = false }
unfolding after_calls calls_for w8_listing kind_by bytes_of
w8_short = refl
