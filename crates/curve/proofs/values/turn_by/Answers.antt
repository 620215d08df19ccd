use Prim.Native.Nat.{ℕ, ◌-◌, ◌/◌, ◌%◌}
use mathlib.Core.Path.{◌≡◌, sym, ap, ap₂, ◌∙◌}
use native.Mathlib.Omega.{arith}
use native.Mathlib.Nat.{mod-zero, div-zero}
use Rattle.curve.specs.Stepped.{place_early, turns_none}
use Rattle.curve.proofs.values.turn_by.Goals as goal
use Rattle.curve.proofs.values.turn_by.Goals.{then-d-eq0-via-then-d-eq0, then-d-eq0-via-else-d-eq0+then-n-t}

pub returns-then-d-eq0 : goal.returns-then-d-eq0
returns-then-d-eq0 c =
    let T : ℕ = c.args.form.rank.0 in
    let d : ℕ = c.args.form.period.0 in
    let n : ℕ = c.args.tick.0 in
    elim c.then-d-eq0.branch [
      | then-d-eq0-via-then-d-eq0 w ↦
          let whole : (n - T) % d ≡ n - T = ap (λ (k : ℕ). (n - T) % k) w.if-d-eq0.true ∙ mod-zero (n - T) in
          let none : (n - T) / d ≡ 0 = ap (λ (k : ℕ). (n - T) / k) w.if-d-eq0.true ∙ div-zero (n - T) in
          ap₂ (λ (p q : ℕ). record { place = p; turns = q }) (omega (arith, whole)) (sym none)
      | then-d-eq0-via-else-d-eq0+then-n-t w ↦
          ap₂ (λ (p q : ℕ). record { place = p; turns = q }) (sym (place_early T d n w.if-n-t.true)) (sym (turns_none T d n w.if-n-t.true))
    ]
