-- A curve's value, asked of a book. Document 01: "A curve's value is asked of a book by curve number and tick. A bad
-- book gives its refusal; then a number that names no curve is 11, a tick above 2,000,000,000 is 12, both with place 0
-- and no value."
--
--     curve_named      curve k of a book whose curves' fields begin at those places (named_array); of a sound book it
--                      is well formed (named_well)
--     value_asked      the answer, by asked_of; max_tick: the largest tick; asked_refused, asked_none, asked_far,
--                      asked_value: by what the book is
--     told             the answer for C; asked_near: its place fits
use Rattle.std.specs.Prelude.{ℕ, ◌≤◌, ◌<◌, ◌≡◌, Bool, true, false, List, length, get_or, leb, ltb, Result, Ok, Err}
use Rattle.std.proofs.Math.Path.{refl}
use Rattle.std.proofs.Common.{ap, arith}
use borrow.Author.Tests.{le-leb, lt-leb, lt-ltb, le-ltb}
use Rattle.minplus.specs.Curve.{Curve, WellFormed, value}
use Rattle.curve.specs.declared.Units.{Units}
use Rattle.curve.specs.Filled.{in_array, array_at}
use Rattle.numbers.specs.Lists.{forall_at}
use Rattle.content.specs.declared.Refusal.{Refusal}
use Rattle.content.specs.declared.Refusal.TheVariants.{NoSuchCurve, TooLarge}
use Rattle.content.specs.Layout.{curve_in}
use Rattle.field.specs.Fields.{content_at}
use Rattle.content.specs.Sound.{curve_well_formed}
use Rattle.field.specs.declared.Refused.{Refused}
use Rattle.field.specs.Steps as field
use Rattle.field.specs.Steps.{max_curves, refusal_word, refused_same}
use Rattle.book.specs.declared.CurveValue.{CurveValue}
use Rattle.book.specs.Reading.{Contents, Read, sound, refused, max_bytes, read_book}
use Rattle.book.specs.Sound.{SoundCurve, SoundBook, refused_inside}

abbrev max_tick : ℕ
max_tick = 2_000_000_000

abbrev pub curve_named : List ℕ → List ℕ → ℕ → Curve
curve_named s places k = curve_in (content_at s (get_or places k 0))

-- a value, or a refusal with its place
abbrev pub Asked : Type 0
Asked = Result Units Refused

unfoldable asked_of : List ℕ → Read → ℕ → ℕ → Asked
unfolding value
asked_of s (refused x p) k n = field.refused x p
asked_of s (sound c) k n =
    elim (leb (length c.curves) k) [
      | true ↦ field.refused NoSuchCurve 0
      | false ↦ elim (ltb max_tick n) [ true ↦ field.refused TooLarge 0 | false ↦ Ok (record { 0 = value (curve_named s c.curves k) n }) ]
    ]

unfoldable pub value_asked : List ℕ → ℕ → ℕ → Asked
unfolding read_book asked_of
value_asked s k n = asked_of s (read_book s) k n

abbrev pub told : Asked → CurveValue
told (Ok v) = record { refusal = 0; value = v.0 }
told (Err r) = record { refusal = refusal_word r.refusal r.place; value = 0 }

-- ---- laws

-- the places may stand in an array
pub named_array : (s places : List ℕ) (k : ℕ) → k < length places → curve_named s (in_array max_curves places) k ≡ curve_named s places k
named_array s places k lt = ap (λ (p : ℕ). curve_in (content_at s p)) (array_at max_curves places k lt)

pub named_well : {s : List ℕ} {c : Contents} → SoundBook s c → (k : ℕ) → k < length c.curves → WellFormed (curve_named s c.curves k)
named_well {s} {c} book k lt = curve_well_formed (content_at s (get_or c.curves k 0)) (forall_at (SoundCurve s) c.curves 0 book.each_curve k lt)

-- the answer, by what the book is
module _ (s : List ℕ) (k n : ℕ) where
  pub asked_refused : (x : Refusal) (p : ℕ) → read_book s ≡ refused x p → value_asked s k n ≡ field.refused x p
  unfolding value_asked
  asked_refused x p e = rw e

  module _ (c : Contents) (e : read_book s ≡ sound c) where
    pub asked_none : length c.curves ≤ k → value_asked s k n ≡ field.refused NoSuchCurve 0
    unfolding value_asked
    asked_none few = rw (e, le-leb _ _ few, asked_of)

    module _ (named : k < length c.curves) where
      pub asked_far : max_tick < n → value_asked s k n ≡ field.refused TooLarge 0
      unfolding value_asked
      asked_far far = rw (e, lt-leb _ _ named, lt-ltb _ _ far, asked_of)

      pub asked_value : n ≤ max_tick → value_asked s k n ≡ Ok (record { 0 = value (curve_named s c.curves k) n })
      unfolding value_asked
      asked_value near = rw (e, lt-leb _ _ named, le-ltb _ _ near, asked_of)

module _ (s : List ℕ) (k n : ℕ) (x : Refusal) (p : ℕ) where
  within : (c : Contents) (b b' : Bool)
      → elim b as (λ _. Asked) [
        | true ↦ field.refused NoSuchCurve 0
        | false ↦ elim b' as (λ _. Asked) [ true ↦ field.refused TooLarge 0 | false ↦ Ok (record { 0 = value (curve_named s c.curves k) n }) ]
      ] ≡ field.refused x p
      → p ≤ max_bytes
  within c true b' e = let at : 0 ≡ p = (refused_same e).1 in omega (arith, at)
  within c false true e = let at : 0 ≡ p = (refused_same e).1 in omega (arith, at)
  within c false false e = let at : p ≡ 0 = cc in omega (arith, at)

  -- the place of a refusal fits 16 bits
  pub asked_near : value_asked s k n ≡ field.refused x p → p ≤ max_bytes
  unfolding value_asked
  asked_near e = go (read_book s) refl e
    where
      go : (r : Read) → read_book s ≡ r → asked_of s r k n ≡ field.refused x p → p ≤ max_bytes
      go (refused y q) is e = let at : q ≡ p = (refused_same e).1 in rw (← at) (refused_inside s y q is).1
      go (sound c) is e = within c (leb (length c.curves) k) (ltb max_tick n) e
