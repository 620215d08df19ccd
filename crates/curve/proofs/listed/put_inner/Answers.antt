use Prim.Native.Nat.{ℕ, suc, ◌+◌}
use mathlib.Core.Path.{◌≡◌, refl, sym, ap, ap₂, ◌∙◌}
use mathlib.Core.List.{List}
use native.Mathlib.Omega.{arith}
use native.Mathlib.Numerals.{add-one}
use lib.ListN.{get_or, length-set}
use Rattle.curve.specs.Filled.{over_none, over-more, over_past}
use Rattle.curve.specs.Rises.{rise, rise_within}
use Rattle.curve.proofs.listed.put_inner.Goals as goal

pub loop-n-init : goal.loop-n-init
loop-n-init c = (refl, sym (over_none _ _))

pub loop-n-preserved : goal.loop-n-preserved
loop-n-preserved c =
    let t = c.loop-n in
    let l = c.args.values.now in
    let here : get_or t.values t.n 0 ≡ get_or l t.n 0 =
    ap (λ (s : List ℕ). get_or s t.n 0) t.invariant.1 ∙ over_past (rise_within l) t.n l t.n (omega arith) in
    let next : get_or t.values (t.n + 1) 0 ≡ get_or l (suc t.n) 0 =
    ap (λ (s : List ℕ). get_or s (t.n + 1) 0) t.invariant.1 ∙ over_past (rise_within l) t.n l (t.n + 1) (omega arith) ∙ ap (λ (n : ℕ). get_or l n 0) (add-one t.n) in
    let stored : c.rise.result ≡ rise_within l t.n = c.rise.ensures ∙ ap₂ rise here next in (
      simp length-set t.invariant.0,
      rw (stored, t.invariant.1) (over-more (rise_within l) t.n l (omega arith)),
    )
