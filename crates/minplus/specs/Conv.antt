-- The min-plus convolution of two functions of ticks.
--
-- Document 01, 'Claims': "h(n) = the least f(u)+g(n-u), 0 <= u <= n". Source document 000 has it in its section 3,
-- source document 003 as its equation 2. All that is used of it is said with splits u + v = n:
--
--     conv f g n       the least f(u) + g(n-u), u from 0 to n
--     conv_lower       no split gives less
--     conv_attained    some split gives it
--     (conv_above, conv_below, conv_comm, conv_assoc: proofs/Conv.antt)
use Rattle.std.specs.Prelude.{ℕ, ◌+◌, ◌-◌, ◌≤◌, ◌≡◌}
use Rattle.std.proofs.Common.{subst, arith, add-sub_of_le}
use Rattle.std.proofs.Math.Nat.{add-sub_cancel_left}
use Rattle.minplus.specs.Search.{best, least, least_lower, least_attained}

unfoldable pub conv : (ℕ → ℕ) → (ℕ → ℕ) → ℕ → ℕ
unfolding best
conv f g n = least (λ u. f u + g (n - u)) n

pub conv_lower : (f g : ℕ → ℕ) (u v : ℕ) → conv f g (u + v) ≤ f u + g v
unfolding conv
conv_lower f g u v =
    subst (λ (w : ℕ). conv f g (u + v) ≤ f u + g w) (add-sub_cancel_left u v)
    (least_lower (λ (w : ℕ). f w + g (u + v - w)) (u + v) u (omega arith))

pub conv_attained : (f g : ℕ → ℕ) (n : ℕ) → (u : ℕ) × (v : ℕ) × (u + v ≡ n) × (conv f g n ≡ f u + g v)
unfolding conv
conv_attained f g n =
    let t = least_attained (λ (u : ℕ). f u + g (n - u)) n in
    (t.0, n - t.0, add-sub_of_le t.1, t.2)
