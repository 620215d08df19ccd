use Rattle.std.specs.Prelude.{ℕ, ◌≡◌}
use Rattle.std.proofs.Common.{sym, ap, ◌∙◌, arith}
use Rattle.numbers.specs.Numbers.{number_at}
use Rattle.content.specs.Layout.{third_width, third_small}
use Rattle.content.specs.Refusals.{statement_field, claim_odd, claim_whole}
use Rattle.content.proofs.claims.claim_in.Goals as goal

pub overflow_add-third_width : goal.overflow_add-third_width
overflow_add-third_width c = omega (arith, third_small c.number-kind.result)

pub returns-then-content-third_width : goal.returns-then-content-third_width
returns-then-content-third_width c =
    let wide : c.third_width.result ≡ third_width (number_at 1 c.args.content.now 0) = c.third_width.ensures ∙ ap third_width c.number-kind.ensures.value in
    sym (claim_odd c.args.curves c.args.content.now (λ e. omega (arith, e, wide, c.if-content-third_width.true)))

pub returns : goal.returns
returns c =
    let content = c.args.content.now in
    let kind = c.number-kind.ensures.value in
    let wide : c.third_width.result ≡ third_width (number_at 1 content 0) = c.third_width.ensures ∙ ap third_width kind in
    let third = c.third_in.ensures ∙ ap (λ (k : ℕ). number_at (third_width k) content 3) kind in
    c.statement.ensures
    ∙ (λ i. statement_field c.args.curves (record { kind = kind i; left = c.number.ensures.value i; right = c.number-2.ensures.value i; third = third i }))
    ∙ sym (claim_whole c.args.curves content (omega (arith, wide, c.if-content-third_width.false)))
