-- Curves that are lent, as the search of kind 3 has them: their values in what it works in.
--
--     work_of f g w           f's values up to the settled tick, and g's listed ones
--     apart_foldable          these can be searched
use Rattle.std.specs.Prelude.{ℕ, ◌≤◌, ◌<◌, ◌≡◌, Bool, true, length, get_or, take}
use Rattle.std.proofs.Math.Path.{sym, ap}
use Rattle.std.proofs.Common.{◌∙◌}
use native.Mathlib.Omega.{arith}
use Rattle.minplus.specs.Curve.{value, value_at_most}
use Rattle.curve.specs.Steps.{Steps, curve_from, step_count, stepped}
use Rattle.curve.specs.Table.{table_at}
use Rattle.search.specs.Break.{Searched}
use Rattle.splits.specs.declared.Work.{Work}
use Rattle.splits.specs.Parts.{Whole, listed_over, part_length, listed-length, listed_inside}
use Rattle.splits.specs.Splits.{Foldable, settled_of}

abbrev pub work_of : Steps → Steps → Work → Work
work_of f g w = record {
  left = listed_over (stepped f) (settled_of (curve_from f) (curve_from g)) w.left;
  right = listed_over (stepped g) (step_count g) w.right;
  near = w.near;
  last = w.last;
  carried = w.carried;
}

-- ---- laws

module _ {itself : Bool} {f g h : Steps} {tried : ℕ} (a : Searched f g h tried) (told : itself ≡ true → f ≡ g) (w : Work) (whole : Whole w) where
  few : settled_of (curve_from f) (curve_from g) ≤ 511
  few = omega (arith, a.left.well.count_fits, a.right.well.count_fits)

  left_at_lem : (n : ℕ) → n < settled_of (curve_from f) (curve_from g) → get_or (work_of f g w).left n 0 ≡ value (curve_from f) n
  left_at_lem n lt =
      let settled : ℕ = settled_of (curve_from f) (curve_from g) in
      let room : settled ≤ length w.left = omega (arith, few, whole.left_long) in
      listed_inside (stepped f) settled w.left room n lt
      ∙ table_at f a.left.well (take settled w.left) n (omega (arith, part_length (stepped f) settled w.left room, lt)) (omega (arith, few, lt))

  right_at_lem : (v : ℕ) → v < step_count g → get_or (work_of f g w).right v 0 ≡ value (curve_from g) v
  right_at_lem v lt =
      let room : step_count g ≤ length w.right = omega (arith, a.right.well.count_fits, whole.right_long) in
      listed_inside (stepped g) (step_count g) w.right room v lt
      ∙ table_at g a.right.well (take (step_count g) w.right) v
      (omega (arith, part_length (stepped g) (step_count g) w.right room, lt)) (omega (arith, a.right.well.count_fits, lt))

  pub apart_foldable : Foldable itself (curve_from f) (curve_from g) (work_of f g w) tried
  apart_foldable = record {
    one_curve = λ e. record { rank_same = ap (λ (x : Steps). x.rank) (sym (told e)); value_same = λ n. ap (λ (x : Steps). value (curve_from x) n) (told e) };
    left_period = a.left.well.period_positive;
    right_period = a.right.well.period_positive;
    left-count = a.left.well.count_fits;
    right_count = a.right.well.count_fits;
    gain_fits = a.left.well.increment_fits;
    whole = record {
      left_long = listed-length (stepped f) (settled_of (curve_from f) (curve_from g)) w.left (omega (arith, few, whole.left_long)) ∙ whole.left_long;
      right_long = listed-length (stepped g) (step_count g) w.right (omega (arith, a.right.well.count_fits, whole.right_long)) ∙ whole.right_long;
      near_long = whole.near_long;
      last_long = whole.last_long;
      carried_long = whole.carried_long;
    };
    left-listed = left_at_lem;
    right_listed = right_at_lem;
    within = a.within;
    sums = λ u v lt. omega (arith, a.within, value_at_most (curve_from f) a.left.well u, value_at_most (curve_from g) a.right.well v);
  }
