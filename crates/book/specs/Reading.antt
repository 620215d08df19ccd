-- The whole book. Document 01, 'Refusal numbers': "First, 15: the book is over 32,768 bytes (place 0). Then field by
-- field".
--
--     Contents         a sound book: its version, and at which byte the field of each curve and each claim begins
--     Read             what any list of bytes is
--     read_on, read_from     field by field, from a state on
--     read_book        a book: of at most max_bytes, from start on
use Rattle.std.specs.Prelude.{ℕ, zero, suc, true, false, List, [], ◌∷◌, ◌++◌, length, ltb, Ok, Err}
use Rattle.content.specs.declared.Refusal.{Refusal}
use Rattle.content.specs.declared.Refusal.TheVariants.{Torn, BookTooLong}
use Rattle.field.specs.declared.Tag.TheVariants as tag
use Rattle.field.specs.declared.State.{State}
use Rattle.field.specs.Steps.{Field, step_at}

pub record Contents : Type 0 where
  pub version : ℕ
  pub curves : List ℕ
  pub claims : List ℕ

pub data Read : Type 0 where
  sound : Contents → Read
  refused : Refusal → (place : ℕ) → Read

abbrev pub max_bytes : ℕ
max_bytes = 32_768

abbrev pub start : State
start = record { version = 0; curves = 0; claims = 0; place = 0 }

-- a field's answer, with how the book is read on from a state. The lists are the places of the curves and of the claims
-- before the field
abbrev pub read_on : (State → List ℕ → List ℕ → Read) → Field → State → List ℕ → List ℕ → Read
read_on on (Err r) st curves claims = refused r.refusal r.place
read_on on (Ok taken) st curves claims =
    elim taken.tag as (λ _. Read) [
      | tag.Version ↦ on taken.state curves claims
      | tag.Curve ↦ on taken.state (curves ++ (st.place ∷ [])) claims
      | tag.Claim ↦ on taken.state curves (claims ++ (st.place ∷ []))
      | tag.End ↦ sound (record { version = st.version; curves = curves; claims = claims })
    ]

-- field by field. A field has three bytes or more, so that as many steps as there are bytes left are enough
-- (read_steps)
unfoldable pub read_from : ℕ → List ℕ → State → List ℕ → List ℕ → Read
unfolding step_at
read_from zero s st curves claims = refused Torn st.place
read_from (suc k) s st curves claims = read_on (read_from k s) (step_at s st) st curves claims

unfoldable pub read_book : List ℕ → Read
unfolding read_from
read_book s = elim (ltb max_bytes (length s)) [ true ↦ refused BookTooLong 0 | false ↦ read_from (suc (length s)) s start [] [] ]
