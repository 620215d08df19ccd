-- The claim of a kind, by document 01's number.
--
--     kind_of               a claim's kind: its number is minplus's kind_number, and stands there alone
--     limited_by            a claim with an X that may be too large; within: X, where it is not (limited-within)
--     claim_with            the claim of a kind with an X: it has that kind (kind_with)
--     named_as, named_by    the answer for a kind, if there is one, and an X; for a number and an X
--     x_of, named_back      of a claim's own number and X it is that claim
use Rattle.std.specs.Prelude.{ℕ, ◌≤◌, ◌≡◌, refl, Bool, true, false, leb, ltb, Result, Ok, Err}
use Rattle.std.specs.Result.{result_map_both}
use Rattle.std.proofs.Math.Option.{Option, none, some}
use Rattle.std.proofs.Common.{le-ltb, lt-ltb, leb-true, leb-false}
use Rattle.minplus.specs.Claim as M
use Rattle.curve.specs.declared.Operation.TheVariants.{Sum, Minimum, Convolution}
use Rattle.curve.specs.declared.Deviation.TheVariants.{Delay, Backlog}
use Rattle.curve.specs.declared.Claim.{Claim}
use Rattle.curve.specs.declared.Claim.TheVariants.{Equals, AtMost, Exactly}
use Rattle.curve.specs.declared.ClaimError.{ClaimError}
use Rattle.curve.specs.declared.ClaimError.TheVariants.{UnknownKind, XTooLarge}
use Rattle.curve.specs.Claimed.{operation_of, deviation_of, amount_of}

abbrev pub kind_of : Claim → M.Kind
kind_of (Equals o) = M.result (operation_of o)
kind_of (AtMost x) = M.bound (deviation_of x) M.at_most
kind_of (Exactly x) = M.bound (deviation_of x) M.exactly

unfoldable pub limited_by : ℕ → Claim → Result Claim ClaimError
limited_by x c = elim (ltb M.max_x x) [ true ↦ Err XTooLarge | false ↦ Ok c ]

unfoldable pub within : ℕ → Result ℕ ClaimError
within x = elim (leb x M.max_x) [ true ↦ Ok x | false ↦ Err XTooLarge ]

-- the claim of a kind with an X; kinds 1 to 3 have none
abbrev pub claim_with : M.Kind → ℕ → Claim
claim_with (M.result M.sum) x = Equals Sum
claim_with (M.result M.minimum) x = Equals Minimum
claim_with (M.result M.convolution) x = Equals Convolution
claim_with (M.bound M.delay M.at_most) x = AtMost (Delay (record { 0 = x }))
claim_with (M.bound M.delay M.exactly) x = Exactly (Delay (record { 0 = x }))
claim_with (M.bound M.backlog M.at_most) x = AtMost (Backlog (record { 0 = x }))
claim_with (M.bound M.backlog M.exactly) x = Exactly (Backlog (record { 0 = x }))

-- the answer for a kind, if there is one
unfoldable pub named_as : Option M.Kind → ℕ → Result Claim ClaimError
unfolding limited_by
named_as none x = Err UnknownKind
named_as (some (M.result o)) x = Ok (claim_with (M.result o) x)
named_as (some (M.bound δ t)) x = limited_by x (claim_with (M.bound δ t) x)

unfoldable pub named_by : ℕ → ℕ → Result Claim ClaimError
unfolding named_as M.kind_by
named_by kind x = named_as (M.kind_by kind) x

-- X of a claim, 0 where it has none
abbrev pub x_of : Claim → ℕ
x_of (Equals o) = 0
x_of (AtMost x) = amount_of x
x_of (Exactly x) = amount_of x

pub limited-within : (F : ℕ → Claim) (x : ℕ) → result_map_both F (λ e. e) (within x) ≡ limited_by x (F x)
unfolding limited_by within
limited-within F x = go (leb x M.max_x) refl
  where
    go : (b : Bool) → leb x M.max_x ≡ b
        → result_map_both F (λ e. e) (elim b as (λ _. Result ℕ ClaimError) [ true ↦ Ok x | false ↦ Err XTooLarge ]) ≡ limited_by x (F x)
    go true near = rw (le-ltb M.max_x x (leb-true x M.max_x near), limited_by)
    go false far = rw (lt-ltb M.max_x x (leb-false x M.max_x far), limited_by)

pub kind_with : (κ : M.Kind) (x : ℕ) → kind_of (claim_with κ x) ≡ κ
kind_with (M.result M.sum) x = refl
kind_with (M.result M.minimum) x = refl
kind_with (M.result M.convolution) x = refl
kind_with (M.bound M.delay M.at_most) x = refl
kind_with (M.bound M.delay M.exactly) x = refl
kind_with (M.bound M.backlog M.at_most) x = refl
kind_with (M.bound M.backlog M.exactly) x = refl

pub named_back : (c : Claim) → x_of c ≤ M.max_x → named_by (M.kind_number (kind_of c)) (x_of c) ≡ Ok c
unfolding named_by
named_back (Equals Sum) fits = refl
named_back (Equals Minimum) fits = refl
named_back (Equals Convolution) fits = refl
named_back (AtMost (Delay x)) fits = rw (le-ltb M.max_x x.0 fits, limited_by)
named_back (Exactly (Delay x)) fits = rw (le-ltb M.max_x x.0 fits, limited_by)
named_back (AtMost (Backlog x)) fits = rw (le-ltb M.max_x x.0 fits, limited_by)
named_back (Exactly (Backlog x)) fits = rw (le-ltb M.max_x x.0 fits, limited_by)
