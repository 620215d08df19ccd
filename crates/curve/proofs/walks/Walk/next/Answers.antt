use Prim.Native.Nat.{ℕ}
use mathlib.Core.Path.{◌≡◌, sym, ap₂, ◌∙◌}
use native.Mathlib.Omega.{arith}
use native.Mathlib.Numerals.{add-one}
use Rattle.curve.specs.Steps.{place_after}
use Rattle.curve.specs.Stepped.{after_in, after_last_lem}
use Rattle.curve.proofs.walks.Walk.next.Goals as goal
use Rattle.curve.proofs.walks.Walk.next.Goals.{then-next-count, else-next-count}

pub returns : goal.returns
returns c =
    let T : ℕ = c.args.curve.form.rank.0 in
    let d : ℕ = c.args.curve.form.period.0 in
    let at : ℕ = c.args.self.place in
    let place : c.if-next-count.result ≡ place_after T d at = elim c.if-next-count.branch [
      | then-next-count w ↦ w.result-is ∙ add-one at ∙ sym (after_in T d at (omega arith))
      | else-next-count w ↦ w.result-is ∙ sym (after_last_lem T d at (omega arith))
    ] in
    ap₂ (λ (p v : ℕ). record { place = p; value = record { 0 = v } }) place (omega (arith, c.requires.fits))
