use Prim.Native.Nat.{ℕ, ◌+◌, ◌*◌, ◌≤◌}
use mathlib.Core.Bool.{false}
use mathlib.Core.Path.{◌≡◌, sym, ap, ap₂, ◌∙◌}
use native.Mathlib.Omega.{arith}
use lib.ListN.{length, take}
use lib.Dec.{ltb}
use borrow.Author.Tests.{eq-eqb, ne_eqb, lt-ltb, le-ltb}
use Rattle.minplus.specs.Curve.{max_listed}
use Rattle.curve.specs.Filled.{list_of, filled, length-list_of, filled-length, filled_taken}
use Rattle.content.specs.Layout.{rank_in, period_in, count_in, value_in, curve_head}
use Rattle.content.specs.Sound.{span_fits}
use Rattle.content.specs.Refusals.{no_span, limit_fault, curve_fault}
use Rattle.content.proofs.curves.curve_fault.Goals as goal

pub returns-then-content-lt-HEAD : goal.returns-then-content-lt-HEAD
unfolding curve_fault
returns-then-content-lt-HEAD c = rw (lt-ltb (length c.args.content.now) curve_head c.if-content-lt-HEAD.true)

pub returns-then-no_span : goal.returns-then-no_span
unfolding curve_fault
returns-then-no_span c =
    let long : ltb (length c.args.content.now) curve_head ≡ false = le-ltb (length c.args.content.now) curve_head c.if-content-lt-HEAD.false in
    let spans : c.no_span.result ≡ no_span (rank_in c.args.content.now) (period_in c.args.content.now) = rw (← c.number-rank.ensures.value, ← c.number-period.ensures.value) c.no_span.ensures in
    rw (long, sym spans ∙ c.if-no_span.true)

pub returns-then-content-count : goal.returns-then-content-count
unfolding curve_fault
returns-then-content-count c =
    let long : ltb (length c.args.content.now) curve_head ≡ false = le-ltb (length c.args.content.now) curve_head c.if-content-lt-HEAD.false in
    let spans : c.no_span.result ≡ no_span (rank_in c.args.content.now) (period_in c.args.content.now) = rw (← c.number-rank.ensures.value, ← c.number-period.ensures.value) c.no_span.ensures in
    let count : c.number-rank.result + c.number-period.result ≡ count_in c.args.content.now = rw (c.number-rank.ensures.value, c.number-period.ensures.value) in
    let bytes = c.args.content.now in
    rw (long, sym spans ∙ c.if-no_span.false, ne_eqb (length bytes) (curve_head + 4 * count_in bytes) (λ e. omega (arith, e, count, c.if-content-count.true)))

pub values_in-values-requires : goal.values_in-values-requires
values_in-values-requires c =
    let spans : c.no_span.result ≡ no_span (rank_in c.args.content.now) (period_in c.args.content.now) = rw (← c.number-rank.ensures.value, ← c.number-period.ensures.value) c.no_span.ensures in
    let count : c.number-rank.result + c.number-period.result ≡ count_in c.args.content.now = rw (c.number-rank.ensures.value, c.number-period.ensures.value) in
    let fits : count_in c.args.content.now ≤ max_listed = let bytes = c.args.content.now in (span_fits (rank_in bytes) (period_in bytes) (sym spans ∙ c.if-no_span.false)).1 in
    omega (arith, count, fits)

pub slice_bounds-values-end : goal.slice_bounds-values-end
slice_bounds-values-end c =
    let spans : c.no_span.result ≡ no_span (rank_in c.args.content.now) (period_in c.args.content.now) = rw (← c.number-rank.ensures.value, ← c.number-period.ensures.value) c.no_span.ensures in
    let count : c.number-rank.result + c.number-period.result ≡ count_in c.args.content.now = rw (c.number-rank.ensures.value, c.number-period.ensures.value) in
    let fits : count_in c.args.content.now ≤ max_listed = let bytes = c.args.content.now in (span_fits (rank_in bytes) (period_in bytes) (sym spans ∙ c.if-no_span.false)).1 in
    let array : c.values_in-values.result ≡ filled (value_in c.args.content.now) max_listed (count_in c.args.content.now) = c.values_in-values.ensures ∙ ap (filled (value_in c.args.content.now) max_listed) count in
    let bytes = c.args.content.now in
    rw (array, filled-length (value_in bytes) max_listed (count_in bytes) fits, count) fits

pub slice_bounds-limit_fault-end : goal.slice_bounds-limit_fault-end
slice_bounds-limit_fault-end c =
    let count : c.number-rank.result + c.number-period.result ≡ count_in c.args.content.now = rw (c.number-rank.ensures.value, c.number-period.ensures.value) in
    let array : c.values_in-values.result ≡ filled (value_in c.args.content.now) max_listed (count_in c.args.content.now) = c.values_in-values.ensures ∙ ap (filled (value_in c.args.content.now) max_listed) count in
    let taken : take (c.number-rank.result + c.number-period.result) c.values_in-values.result
    ≡ list_of (value_in c.args.content.now) (count_in c.args.content.now) = let bytes = c.args.content.now in
    ap₂ take count array ∙ filled_taken (value_in bytes) max_listed (count_in bytes) in
    let taken-all : let n : ℕ = c.number-rank.result + c.number-period.result in length (take n c.values_in-values.result) ≡ n = let bytes = c.args.content.now in
    ap length taken ∙ length-list_of (value_in bytes) (count_in bytes) ∙ sym count in
    sym taken-all

pub returns : goal.returns
unfolding curve_fault
returns c =
    let long : ltb (length c.args.content.now) curve_head ≡ false = le-ltb (length c.args.content.now) curve_head c.if-content-lt-HEAD.false in
    let spans : c.no_span.result ≡ no_span (rank_in c.args.content.now) (period_in c.args.content.now) = rw (← c.number-rank.ensures.value, ← c.number-period.ensures.value) c.no_span.ensures in
    let count : c.number-rank.result + c.number-period.result ≡ count_in c.args.content.now = rw (c.number-rank.ensures.value, c.number-period.ensures.value) in
    let array : c.values_in-values.result ≡ filled (value_in c.args.content.now) max_listed (count_in c.args.content.now) = c.values_in-values.ensures ∙ ap (filled (value_in c.args.content.now) max_listed) count in
    let taken : take (c.number-rank.result + c.number-period.result) c.values_in-values.result
    ≡ list_of (value_in c.args.content.now) (count_in c.args.content.now) = let bytes = c.args.content.now in
    ap₂ take count array ∙ filled_taken (value_in bytes) max_listed (count_in bytes) in
    let bytes = c.args.content.now in
    rw (long, sym spans ∙ c.if-no_span.false, eq-eqb (length bytes) (curve_head + 4 * count_in bytes) (omega (arith, count, c.if-content-count.false)))
    (c.limit_fault.ensures
    ∙ (λ i. limit_fault (record {
      rank = c.number-rank.ensures.value i;
      period = c.number-period.ensures.value i;
      increment = c.number-increment.ensures.value i;
      listed = taken i;
    })))
