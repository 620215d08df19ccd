use Prim.Native.Nat.{ℕ, ◌*◌, min}
use mathlib.Core.Path.{◌≡◌, ap, ◌∙◌}
use native.Mathlib.Omega.{arith}
use Rattle.minplus.specs.Curve.{value, rank_fits}
use Rattle.curve.specs.Steps.{Steps, Lent, curve_from, value_by}
use Rattle.curve.specs.Walks.{most, value-held}
use Rattle.horizon.specs.Reach.{begun_fits}
use Rattle.horizon.proofs.crossing.begun.Goals as goal

begins : {s : Steps} {v : ℕ} → Lent s → v ≡ min (value_by s s.rank) most → v ≡ value (curve_from s) s.rank
begins {s} lent is = is ∙ value-held s lent.well s.rank (omega (arith, rank_fits lent.well))

pub overflow_mul-result : goal.overflow_mul-result
overflow_mul-result c = rw (begins c.args.g.lent c.value_at.ensures) (omega (arith, (begun_fits c.requires c.args.g.lent).0))

pub returns : goal.returns
returns c =
    let a = c.args in
    let is = begins c.args.g.lent c.value_at.ensures in
    let fits = begun_fits c.requires c.args.g.lent in record {
      result_value = ap (λ (v : ℕ). record { plus = a.f.period.0 * v; minus = a.f.increment * a.g.held.form.rank.0 }) is;
      small = record { plus_fits = rw is fits.0; minus_fits = fits.1 };
    }
