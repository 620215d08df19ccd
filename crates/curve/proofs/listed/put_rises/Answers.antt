use Prim.Native.Nat.{ℕ, ◌+◌, ◌-◌, ◌<◌, min}
use mathlib.Core.Path.{◌≡◌, sym, ap, ap₂, ◌∙◌}
use mathlib.Core.List.{List}
use native.Mathlib.Omega.{arith}
use lib.ListN.{length, get_or, set}
use Rattle.minplus.specs.Curve.{Curve}
use Rattle.curve.specs.Filled.{over, over_none, over-length, over_past}
use Rattle.curve.specs.Rises.{rise, rise_of, rise_within, after_last, rises-last}
use Rattle.curve.proofs.listed.put_rises.Goals as goal

-- all but the last are rises now, and the last still stands
inside : (l l' : List ℕ) (held most : ℕ) → l' ≡ over (rise_within l) (held - 1) l → held ≡ min most (length l) → 0 < held → held - 1 < length l'
inside l l' held most inner is some =
    omega (arith, ap length inner, over-length (rise_within l) (held - 1) l (omega arith))

pub returns-then-held-eq0 : goal.returns-then-held-eq0
returns-then-held-eq0 c =
    let a = c.args in
    let l = a.values.now in
    let held : c.min-held.result ≡ min (a.rank.0 + a.period.0) (length l) = omega arith in
    let none : 0 ≡ min (a.rank.0 + a.period.0) (length l) = omega (arith, held, c.if-held-eq0.true) in
    let F : ℕ → ℕ = rise_of (record { rank = a.rank.0; period = a.period.0; increment = a.increment; listed = l }) in
    sym (over_none F l) ∙ ap (λ (k : ℕ). over F k l) none

pub bounds-values-last : goal.bounds-values-last
bounds-values-last c =
    let a = c.args in
    let held : c.min-held.result ≡ min (a.rank.0 + a.period.0) (length a.values.now) = omega arith in
    inside a.values.now c.put_inner.new.values c.min-held.result (a.rank.0 + a.period.0) c.put_inner.ensures held (omega (arith, c.if-held-eq0.false))

pub returns : goal.returns
returns c =
    let a = c.args in
    let l = a.values.now in
    let held : c.min-held.result ≡ min (a.rank.0 + a.period.0) (length l) = omega arith in
    let last : ℕ = c.min-held.result - 1 in
    let f : Curve = record { rank = a.rank.0; period = a.period.0; increment = a.increment; listed = l } in
    let here : get_or c.put_inner.new.values last 0 ≡ get_or l last 0 =
    ap (λ (s : List ℕ). get_or s last 0) c.put_inner.ensures ∙ over_past (rise_within l) last l last (omega arith) in
    let stored : c.rise.result ≡ rise (get_or l last 0) (after_last f) = c.rise.ensures ∙ ap₂ rise here c.after_last-after.ensures in
    ap₂ (λ (s : List ℕ) (x : ℕ). set s last x) c.put_inner.ensures stored
    ∙ rises-last f last (omega (arith, held, c.if-held-eq0.false))
