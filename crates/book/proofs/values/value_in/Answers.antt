use Prim.Native.Nat.{ℕ, ◌≤◌, ◌<◌}
use mathlib.Core.List.{List}
use mathlib.Core.Path.{◌≡◌, sym, ap, ◌∙◌, subst}
use native.Mathlib.Omega.{arith}
use lib.ListN.{length}
use Rattle.std.specs.Prelude.{Result, Ok}
use Rattle.std.proofs.lemmas.Result.{err_from_is_err_and}
use Rattle.minplus.specs.Curve.{Curve, WellFormed, value}
use Rattle.curve.specs.Held.{curve_of, holding, holding_back, steps_in}
use Rattle.curve.specs.Walks.{value-held}
use Rattle.field.specs.declared.Refused.{Refused}
use Rattle.book.specs.Held.{book_of, reading_of, read_refused, read_sound}
use Rattle.book.specs.Sound.{sound_book}
use Rattle.book.specs.Values.{Asked, curve_named, named_array, named_well, asked_refused, asked_none, asked_far, asked_value}
use Rattle.book.specs.Reading.{Contents, sound, read_book}
use Rattle.book.specs.declared.Book.{Book}
use Rattle.book.proofs.values.value_in.Goals as goal

pub returns-in_err-sound : goal.returns-in_err-sound
returns-in_err-sound c =
    let a = c.args in
    let passed = err_from_is_err_and c.from_residual.result c.from_residual.ensures.1 in
    rw (passed.1, passed.2) (sym (asked_refused a.book.now a.curve a.tick _ _ (read_refused a.book.now c.read.ensures c.in_err-sound.was)))

-- what is known of a book that was read
record Told (s : List ℕ) (b : Book) : Type 0 where
  contents : Contents
  is : read_book s ≡ sound contents
  held : b ≡ book_of contents
  count : b.curves ≡ length contents.curves
  fits : length contents.curves ≤ 16

told : (s : List ℕ) (r : Result Book Refused) (b : Book) → r ≡ reading_of (read_book s) → r ≡ Ok b → Told s b
told s r b is ok =
    let so = read_sound s is ok in
    record { contents = so.0; is = so.1; held = so.2; count = ap (λ (b : Book). b.curves) so.2; fits = (sound_book s so.0 so.1).curves-fit }

pub returns-then-sound-curve : goal.returns-then-sound-curve
returns-then-sound-curve c =
    let a = c.args in
    let so = told a.book.now _ _ c.read.ensures c.in_ok-sound.was in
    sym (asked_none a.book.now a.curve a.tick so.contents so.is (omega (arith, so.count)))

pub returns-then-tick-gt-MAX_TICK : goal.returns-then-tick-gt-MAX_TICK
returns-then-tick-gt-MAX_TICK c =
    let a = c.args in
    let so = told a.book.now _ _ c.read.ensures c.in_ok-sound.was in
    sym (asked_far a.book.now a.curve a.tick so.contents so.is (omega (arith, so.count)) (omega arith))

pub offset_bounds-sound-curve : goal.offset_bounds-sound-curve
offset_bounds-sound-curve c =
    let so = told c.args.book.now _ _ c.read.ensures c.in_ok-sound.was in
    omega (arith, so.count, so.fits)

pub bounds-sound-curve : goal.bounds-sound-curve
bounds-sound-curve c =
    let so = told c.args.book.now _ _ c.read.ensures c.in_ok-sound.was in
    omega (arith, so.count, so.fits)

pub returns : goal.returns
returns c =
    let a = c.args in
    let s = a.book.now in
    let so = told s _ _ c.read.ensures c.in_ok-sound.was in
    let named : a.curve < length so.contents.curves = omega (arith, so.count) in
    let f = c.curve_at-f.result in
    let is : f ≡ holding (curve_named s so.contents.curves a.curve) = c.curve_at-f.ensures
    ∙ ap (λ (b : Book). holding (curve_named s b.places.curves a.curve)) so.held
    ∙ ap holding (named_array s so.contents.curves a.curve named) in
    let well : WellFormed (curve_named s so.contents.curves a.curve) = named_well (sound_book s so.contents so.is) a.curve named in
    let back : curve_of f ≡ curve_named s so.contents.curves a.curve = ap curve_of is ∙ holding_back (curve_named s so.contents.curves a.curve) well in
    let told : ℕ → Asked = λ v. Ok (record { 0 = v }) in
    ap told
    (rw c.held.ensures.steps at c.value_at.ensures ∙ value-held (steps_in f) (subst WellFormed (sym back) well) a.tick (omega arith) ∙ ap (λ (g : Curve). value g a.tick) back)
    ∙ sym (asked_value s a.curve a.tick so.contents so.is named (omega arith))
