-- What a search over a claim's ticks comes to: the first tick that breaks the rule, with its left and its right value,
-- and how many ticks were compared, from 0 on.
--
--     compared_of     the first of the tried ticks that passes a test, with the two values there (at_tick), and how
--                     many ticks there are up to it; where none passes, all that are tried (compared_from)
--     found_at        it is n, if no tick before n passes and n does
--     found_nowhere   there is none, if no tried tick passes
--     ticks_few       no more are compared than are tried
--     found_same      tests and values that agree at every tried tick find the same
use Rattle.std.specs.Prelude.{ℕ, ◌+◌, ◌≤◌, ◌<◌, ◌≡◌, Bool, true, false, Option, Some, None}
use Rattle.std.proofs.Common.{sym, ◌∙◌}
use Rattle.std.proofs.Math.Option as Math
use Rattle.std.proofs.Math.Option.{none, some}
use native.Mathlib.Omega.{arith}
use Rattle.minplus.specs.Search.{IsFirst, first_below, first_at, first_below_lem, first_nowhere, nowhere, somewhere}
use Rattle.search.specs.declared.Compared.{Compared}
use Rattle.search.specs.declared.Break.{Break}

-- a break, of plain numbers
abbrev pub at_tick : ℕ → ℕ → ℕ → Option Break
at_tick n left right = Some (record { tick = record { 0 = n }; left = record { 0 = left }; right = record { 0 = right } })

unfoldable pub compared_from : (ℕ → ℕ) → (ℕ → ℕ) → ℕ → Math.Option ℕ → Compared
compared_from left right tried none = record { found = None; ticks = record { 0 = tried } }
compared_from left right tried (some n) = record { found = at_tick n (left n) (right n); ticks = record { 0 = n + 1 } }

unfoldable pub compared_of : (ℕ → Bool) → (ℕ → ℕ) → (ℕ → ℕ) → ℕ → Compared
unfolding compared_from first_below
compared_of p left right tried = compared_from left right tried (first_below p tried)

module _ (p : ℕ → Bool) (left right : ℕ → ℕ) (tried : ℕ) where
  -- for a loop that stops at n
  pub found_at : (n : ℕ) {l r : ℕ} → l ≡ left n → r ≡ right n
      → ((k : ℕ) → k < n → p k ≡ false) → p n ≡ true → n < tried → record { found = at_tick n l r; ticks = record { 0 = n + 1 } } ≡ compared_of p left right tried
  unfolding compared_of
  found_at n e e' before here lt = rw (first_at p tried n lt here before, e, e')

  -- for a loop that goes on to the end
  pub found_nowhere : (n : ℕ) → tried ≤ n → ((k : ℕ) → k < n → p k ≡ false) → record { found = None; ticks = record { 0 = tried } } ≡ compared_of p left right tried
  unfolding compared_of
  found_nowhere n past all = rw (first_nowhere p tried (λ k lt. all k (omega (arith, lt, past))))

  pub ticks_few : {c : Compared} → c ≡ compared_of p left right tried → c.ticks.0 ≤ tried
  unfolding compared_of
  ticks_few e = rw e (go (first_below p tried) (first_below_lem p tried))
    where
      go : (o : Math.Option ℕ) → IsFirst p tried o → (compared_from left right tried o).ticks.0 ≤ tried
      go none (nowhere all) = omega arith
      go (some _) (somewhere n lt here before) = omega (arith, lt)

pub found_same : (p q : ℕ → Bool) (l r l' r' : ℕ → ℕ) (tried : ℕ)
    → ((n : ℕ) → n < tried → (p n ≡ q n) × (l n ≡ l' n) × (r n ≡ r' n)) → compared_of p l r tried ≡ compared_of q l' r' tried
unfolding compared_of
found_same p q l r l' r' tried same = go (first_below p tried) (first_below_lem p tried)
  where
    go : (o : Math.Option ℕ) → IsFirst p tried o → compared_from l r tried o ≡ compared_of q l' r' tried
    go none (nowhere all) = found_nowhere q l' r' tried tried (omega arith) (λ n lt. sym (same n lt).0 ∙ all n lt)
    go (some _) (somewhere n lt here before) =
        let at = same n lt in
        found_at q l' r' tried n at.1 at.2 (λ k less. sym (same k (omega arith)).0 ∙ before k less) (sym at.0 ∙ here) lt
