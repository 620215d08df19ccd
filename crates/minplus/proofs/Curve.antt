-- What follows from the laws of a value (specs/Curve.antt).
--
--     value_repeats     from T on it gains k*c over k*d
--     value_only        nothing else has the listed values and the gain: the first two sentences of document 01,
--                       'Curves', leave one function
use Rattle.std.specs.Prelude.{ℕ, ◌+◌, ◌*◌, ◌≤◌, ◌<◌, ◌≡◌}
use Rattle.std.proofs.Common.{sym, ap, ◌∙◌}
use Rattle.minplus.specs.Gains.{Gains, every_period, gains_many}
use Rattle.minplus.specs.Curve.{Curve, count, listed_at, value, value_gains, value-listed}

pub value_repeats : (f : Curve) → 1 ≤ f.period → (n k : ℕ) → f.rank ≤ n → value f (n + k * f.period) ≡ value f n + k * f.increment
value_repeats f positive n k le = (gains_many (value_gains f positive) k).gain n le

pub value_only : (f : Curve) → 1 ≤ f.period → (F : ℕ → ℕ) → ((n : ℕ) → n < count f → F n ≡ listed_at f n)
    → Gains F f.rank f.period f.increment → (n : ℕ) → F n ≡ value f n
value_only f positive F listed gains =
    every_period (λ n. F n ≡ value f n) f.rank f.period positive (λ n lt. listed n lt ∙ sym (value-listed f positive n lt))
    (λ n le e. gains.gain n le ∙ ap (λ (x : ℕ). x + f.increment) e ∙ sym ((value_gains f positive).gain n le))
