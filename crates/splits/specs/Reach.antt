-- Which splits u + v = n of a tick are tried, and the least sums over them.
--
-- Folded.antt of the crate minplus has the laws behind it: those with v below T'+d' are enough, and of a curve with
-- itself those with v up to n/2.
--
--     reach_of itself n       how far v goes, never past n (reach_inside)
--     late_of itself t        the first tick at which it comes to t (late_first, late_inside)
--     near_of, last_of, carried_of     the least over the splits with v < T', over those with T' <= v < T'+d', and over
--                             all from T' on
--     OneCurve f g            f and g are one curve: what is asked where it is said to be a curve with itself
--     near_gains, last_gains, late_soon     one period before the settled tick the first two gain c over d, and splits
--                             from T' on are tried
--     due_early, due_late     the convolution from these
use Rattle.std.specs.Prelude.{ℕ, ◌+◌, ◌-◌, ◌*◌, ◌/◌, ◌≤◌, ◌<◌, min, ◌≡◌, refl, Bool, true, false, ◌↔◌}
use Rattle.std.proofs.Common.{sym, subst, arith}
use Rattle.std.proofs.Math.Path.{fun_ext}
use Rattle.std.proofs.Math.Logic.Iff.{rfl}
use Rattle.minplus.specs.Conv.{conv}
use Rattle.minplus.specs.Gains.{Gains}
use Rattle.minplus.specs.Folded.{Reached, least_from, carried, first_half, from_gains, half_gains}
use Rattle.minplus.proofs.Folded.{conv_early, conv_folded, reached_all, reached_half}
use Rattle.minplus.specs.Curve.{Curve, value, value_gains}

-- document 02, A8: "Try only u up to n/2, rounded down."
abbrev pub reach_of : Bool → ℕ → ℕ
reach_of true n = n / 2
reach_of false n = n

abbrev pub late_of : Bool → ℕ → ℕ
late_of true t = 2 * t
late_of false t = t

abbrev pub near_of : Bool → Curve → Curve → ℕ → ℕ
near_of itself f g n = least_from (value f) (value g) 0 (g.rank - 1) (reach_of itself n) n

abbrev pub last_of : Bool → Curve → Curve → ℕ → ℕ
last_of itself f g n = least_from (value f) (value g) g.rank (g.period - 1) (reach_of itself n) n

abbrev pub carried_of : Bool → Curve → Curve → ℕ → ℕ
carried_of itself f g n = carried (last_of itself f g) (late_of itself g.rank) g.period g.increment n

pub record OneCurve (f g : Curve) : Type 0 where
  pub rank_same : g.rank ≡ f.rank
  pub value_same : (n : ℕ) → value f n ≡ value g n

-- ---- laws

pub late_first : (itself : Bool) (t m : ℕ) → (late_of itself t ≤ m) ↔ (t ≤ reach_of itself m)
late_first true t m = first_half t m
late_first false t m = rfl

pub reach_inside : (itself : Bool) (n : ℕ) → reach_of itself n ≤ n
reach_inside true n = omega arith
reach_inside false n = omega arith

pub late_inside : (itself : Bool) (t n : ℕ) → late_of itself t ≤ n → t ≤ n
late_inside itself t n late = omega (arith, (late_first itself t n).0 late, reach_inside itself n)

module _ {f g : Curve} where
  reached : (itself : Bool) → (itself ≡ true → OneCurve f g) → Reached (value f) (value g) (reach_of itself)
  reached true told = subst (λ (x : ℕ → ℕ). Reached (value f) x (reach_of true)) (fun_ext (told refl).value_same) (reached_half (value f))
  reached false told = reached_all (value f) (value g)

  -- of a curve with itself by the mirrors, which are tried if low is not above its rank
  least_gains : (itself : Bool) → (itself ≡ true → OneCurve f g) → 1 ≤ f.period → (low k : ℕ) → (itself ≡ true → low ≤ f.rank)
      → Gains (λ n. least_from (value f) (value g) low k (reach_of itself n) n) (f.rank + (low + k)) f.period f.increment
  least_gains true told positive low k soon =
      subst (λ (x : ℕ → ℕ). Gains (λ n. least_from (value f) x low k (n / 2) n) (f.rank + (low + k)) f.period f.increment)
      (fun_ext (told refl).value_same) (half_gains (value_gains f positive) low k (soon refl))
  least_gains false told positive low k soon = from_gains (value_gains f positive) (value g) low k

  module _ {itself : Bool} (told : itself ≡ true → OneCurve f g) where
    pub near_gains : 1 ≤ f.period → Gains (near_of itself f g) (f.rank + (0 + (g.rank - 1))) f.period f.increment
    near_gains positive = least_gains itself told positive 0 (g.rank - 1) (λ e. omega arith)

    pub last_gains : 1 ≤ f.period → Gains (last_of itself f g) (f.rank + (g.rank + (g.period - 1))) f.period f.increment
    last_gains positive = least_gains itself told positive g.rank (g.period - 1) (λ e. omega (arith, (told e).rank_same))

    pub late_soon : 1 ≤ g.period → late_of itself g.rank ≤ f.rank + (g.rank + (g.period - 1))
    late_soon positive = go itself told
      where
        go : (b : Bool) → (b ≡ true → OneCurve f g) → late_of b g.rank ≤ f.rank + (g.rank + (g.period - 1))
        go true said = omega (arith, (said refl).rank_same)
        go false said = omega arith

    pub due_late : 1 ≤ g.period → (n : ℕ) → late_of itself g.rank ≤ n → min (near_of itself f g n) (carried_of itself f g n) ≡ conv (value f) (value g) n
    due_late positive n late = sym (conv_folded (value_gains g positive) positive (reached itself told) (late_first itself g.rank) n late)

    pub due_early : (n : ℕ) → n < late_of itself g.rank → near_of itself f g n ≡ conv (value f) (value g) n
    due_early n early = sym (conv_early (reached itself told) n (first itself g.rank n early))
      where
        first : (b : Bool) (t m : ℕ) → m < late_of b t → reach_of b m < t
        first true t m lt = omega arith
        first false t m lt = lt
