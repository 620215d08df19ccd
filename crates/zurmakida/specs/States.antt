-- A writer's state as one number, for C.
--
--     state_of       bytes written + 2^16 * claims + 2^32 * curves + 2^40 * version + 2^47 if it is closed
--     writer_of      the writer of any number: one with a bit above those, or with more bytes than a book can have,
--                    takes nothing more (takes_nothing)
--     answered       a call's answer as C gets it: "A writer's refusal is a number without a place", and the state
--                    stays (answered_on)
--     Kept           a writer whose parts have room in the number; state_back: it is the writer of its number
--     fresh_back     0 is the state before the first call
use Rattle.std.specs.Prelude.{ℕ, ◌+◌, ◌*◌, ◌/◌, ◌%◌, ◌^◌, ◌≤◌, ◌<◌, ◌≡◌, Bool, true, ◌||◌, Ok, Err}
use Rattle.std.proofs.Math.Path.{refl}
use Rattle.std.proofs.Common.{sym, ap, ◌∙◌}
use Rattle.std.proofs.Math.Bool.{false}
use native.Mathlib.Omega.{arith}
use Rattle.std.proofs.Math.Dec.{leb, ltb}
use borrow.Author.Tests.{le-leb, lt-leb, le-ltb}
use Rattle.content.specs.Refusals.{Checked, number_of}
use Rattle.field.specs.declared.State.{State}
use Rattle.book.specs.Reading.{max_bytes}
use Rattle.writer.specs.declared.Writer.{Writer}
use Rattle.writer.specs.Writing.{fresh, Called}
use Rattle.zurmakida.specs.declared.BookCall.{BookCall}

abbrev closed_bit : Bool → ℕ
closed_bit true = 2 ^ 47
closed_bit false = 0

abbrev open_part : State → ℕ
open_part st = st.place % 2 ^ 16 + 2 ^ 16 * (st.claims % 2 ^ 16) + 2 ^ 32 * (st.curves % 2 ^ 8) + 2 ^ 40 * (st.version % 2 ^ 7)

unfoldable pub state_of : Writer → ℕ
state_of w = open_part w.state + closed_bit w.closed

-- a bit above 2^47 is no part of a state, and no book has more bytes
unfoldable pub takes_nothing : ℕ → Bool
takes_nothing n = ltb max_bytes (n % 2 ^ 16) || leb (2 ^ 47) n

unfoldable pub writer_of : ℕ → Writer
unfolding takes_nothing
writer_of n = record {
  state = record { version = n / 2 ^ 40 % 2 ^ 7; curves = n / 2 ^ 32 % 2 ^ 8; claims = n / 2 ^ 16 % 2 ^ 16; place = n % 2 ^ 16 };
  closed = takes_nothing n;
}

abbrev pub answered_on : Checked → ℕ → Writer → BookCall
answered_on (Err x) n w = record { refusal = number_of x; state = n }
answered_on (Ok u) n w = record { refusal = 0; state = state_of w }

unfoldable pub answered : ℕ → Called → BookCall
unfolding state_of number_of
answered n c = answered_on c.checked n c.writer

-- ---- laws

pub record Kept (w : Writer) : Type 0 where
  pub place_fits : w.state.place ≤ max_bytes
  pub claims-fit : w.state.claims < 2 ^ 16
  pub curves-fit : w.state.curves < 2 ^ 8
  pub version_fits : w.state.version < 2 ^ 7

module _ (w : Writer) (kept : Kept w) where
  -- the parts of a number, by what stands above them
  parts : (n top : ℕ) → n ≡ open_part w.state + 2 ^ 47 * top → top ≤ 1
      → (n % 2 ^ 16 ≡ w.state.place) × (n / 2 ^ 16 % 2 ^ 16 ≡ w.state.claims) × (n / 2 ^ 32 % 2 ^ 8 ≡ w.state.curves) × (n / 2 ^ 40 % 2 ^ 7 ≡ w.state.version)
  parts n top e small =
      let p = kept.place_fits in
      let k = kept.claims-fit in
      let c = kept.curves-fit in
      let v = kept.version_fits in
      (omega arith, omega arith, omega arith, omega arith)

  back : (n top : ℕ) → n ≡ open_part w.state + 2 ^ 47 * top → top ≤ 1 → leb (2 ^ 47) n ≡ w.closed → writer_of n ≡ w
  unfolding writer_of
  back n top e small closes =
      let told = parts n top e small in
      let short : ltb max_bytes (n % 2 ^ 16) ≡ false = le-ltb max_bytes (n % 2 ^ 16) (omega (arith, told.0, kept.place_fits)) in
      λ i. record {
        state = record { version = told.3 i; curves = told.2 i; claims = told.1 i; place = told.0 i };
        closed = (ap (λ (b : Bool). b || leb (2 ^ 47) n) short ∙ closes) i;
      }

  pub state_back : writer_of (state_of w) ≡ w
  unfolding state_of
  state_back = by_bit w.closed refl
    where
      below : open_part w.state < 2 ^ 47
      below = let v = kept.version_fits in let c = kept.curves-fit in let k = kept.claims-fit in let p = kept.place_fits in omega arith

      by_bit : (b : Bool) → w.closed ≡ b → writer_of (open_part w.state + closed_bit b) ≡ w
      by_bit true is = back _ 1 (omega arith) (omega arith) (le-leb (2 ^ 47) (open_part w.state + 2 ^ 47) (omega arith) ∙ sym is)
      by_bit false is = back _ 0 (omega arith) (omega arith) (lt-leb (2 ^ 47) (open_part w.state + 0) (omega (arith, below)) ∙ sym is)

pub fresh_back : (state_of fresh ≡ 0) × (writer_of 0 ≡ fresh)
unfolding state_of writer_of
fresh_back = (refl, refl)
