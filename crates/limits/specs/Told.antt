-- A test's answer, and what it tells.
--
--     Told P b      true where P holds, false where it does not
--     told_yes, told_no     what is told
--     told_test     so it is what any other test of P gives
--     told-leb      a comparison tells; told_self: a test tells whether it is true
--     told-map      what tells one statement tells another that holds exactly when the first does
use Rattle.std.specs.Prelude.{ℕ, ◌≤◌, ◌≡◌, refl, Bool, true, false, ◌↔◌, leb}
use Rattle.std.proofs.Common.{sym, true≢false, arith, leb-true, leb-false}
use Rattle.std.proofs.lemmas.Bool.{false≢true}

pub data Told (P : Type 0) : Bool → Type 0 where
  yes : P → Told P true
  no : ¬ P → Told P false

pub told_yes : {P : Type 0} {r : Bool} → Told P r → r ≡ true → P
told_yes (yes p) e = p
told_yes (no not) e = absurd (false≢true e)

pub told_no : {P : Type 0} {r : Bool} → Told P r → r ≡ false → ¬ P
told_no (yes p) e = absurd (true≢false e)
told_no (no not) e = not

pub told_test : {P : Type 0} {r : Bool} (b : Bool) → (b ≡ true) ↔ P → Told P r → r ≡ b
told_test b same (yes p) = sym (same.1 p)
told_test true same (no not) = absurd (not (same.0 refl))
told_test false same (no not) = refl

pub told-leb : (a b : ℕ) → Told (a ≤ b) (leb a b)
told-leb a b = go (leb a b) refl
  where
    go : (t : Bool) → leb a b ≡ t → Told (a ≤ b) t
    go true e = yes (leb-true a b e)
    go false e = no (λ le. omega (arith, leb-false a b e))

pub told_self : (b : Bool) → Told (b ≡ true) b
told_self true = yes refl
told_self false = no (λ e. absurd (false≢true e))

pub told-map : {P Q : Type 0} {r : Bool} → (P → Q) → (Q → P) → Told P r → Told Q r
told-map there back (yes p) = yes (there p)
told-map there back (no not) = no (λ q. not (back q))
