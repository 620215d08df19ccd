use mathlib.Core.Path.{◌≡◌, sym, ap, ◌∙◌}
use native.Mathlib.Omega.{arith}
use Rattle.std.specs.Prelude.{ℕ, ◌%◌}
use Rattle.field.specs.Steps.{refusal_word}
use Rattle.book.specs.declared.CurveValue.{CurveValue}
use Rattle.book.specs.Values.{told, asked_near}
use Rattle.book.proofs.values.curve_value.Goals as goal

pub returns-in-Err : goal.returns-in-Err
returns-in-Err c =
    let r = c.in-Err.refused in
    let near = asked_near _ _ _ _ _ (sym c.value_in.ensures ∙ c.in-Err.is) in
    let whole : r.place % 65536 ≡ r.place = omega (arith, near) in
    let said : ℕ → CurveValue = λ n. record { refusal = n; value = 0 } in
    ap said (c.word.ensures ∙ ap (refusal_word r.refusal) whole) ∙ ap told c.in-Err.ensures
