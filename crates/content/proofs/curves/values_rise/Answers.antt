use Rattle.std.specs.Prelude.{ℕ, suc, ◌≡◌, ◌-◌, ◌+◌, length, get_or, refl, Bool, ◌&&◌, leb}
use Rattle.std.proofs.Common.{sym, ap, ◌∙◌, arith}
use Rattle.minplus.specs.Search.{all_below}
use Rattle.content.specs.Refusals.{values_rise}
use Rattle.content.proofs.Laws.{rises, all_next}
use Rattle.content.proofs.curves.values_rise.Goals as goal

pub loop-n-init : goal.loop-n-init
unfolding all_below
loop-n-init c = record { inside = omega arith; told = refl }

pub loop-n-preserved : goal.loop-n-preserved
loop-n-preserved c =
    let l = c.loop-n in
    let values = c.args.values.now in
    let here : suc (l.n - 1) ≡ l.n = omega arith in
    let next : l.n + 1 - 1 ≡ l.n - 1 + 1 = omega arith in
    record {
      inside = omega arith;
      told = ap (λ (k : ℕ). l.rise && leb (get_or values (l.n - 1) 0) (get_or values k 0)) (sym here)
          ∙ ap (λ (b : Bool). b && rises values (l.n - 1)) l.invariant.told ∙ all_next (rises values) (l.n - 1) ∙ ap (all_below (rises values)) (sym next);
    }

pub returns : goal.returns
unfolding values_rise
returns c =
    let e : length c.args.values.now - 1 ≡ c.loop-n.n - 1 = omega arith in
    rw e c.loop-n.invariant.told
