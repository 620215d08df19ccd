-- Text in bytes.
--
--     bytes t            a quoted text, a byte for each character
--     digit d            the byte of a digit
--     decimal n          a number's digits in base ten, as few as hold it
--     value_of n s       digits as one number, after a number that stands before them
--     decimal_digit, decimal-more     decimal, by whether one digit holds the number
--     decimal_back       read again the digits are the number; decimal-first: no 0 stands before them
--     decimal_some, decimal_short     one digit or more; at most k where the number is below 10 ^ k
--     tenth_less, length_more     a number without its last digit, and how long it is
use Rattle.std.specs.Prelude.{ℕ, zero, suc, ◌+◌, ◌-◌, ◌*◌, ◌/◌, ◌%◌, ◌^◌, ◌≤◌, ◌<◌, ◌≡◌, refl, true, false, List, [], ◌∷◌, ◌++◌, length, get_or, ltb}
use Prim.Native.Char.{code}
use Prim.Native.String.{String, [] as no_more, ◌∷◌ as ◌then◌}
use Rattle.std.proofs.Common.{sym, ap, ◌∙◌, arith, div-add-mod', div-lt_iff_lt-mul, mod-lt, length-append, lt-ltb, le-ltb}
use Rattle.std.proofs.Math.Nat.{div-lt_self, pow-succ'}
use Rattle.std.proofs.Math.Decide.{dec_le}
use mathlib.Core.WellFounded.{induction}
use lib.WfN.{lt-wf_rel}
use Rattle.std.proofs.Math.ListN.{get_or-append}

unfoldable pub bytes : String → List ℕ
bytes no_more = []
bytes (c then t) = code c ∷ bytes t

-- 48 is '0'
abbrev pub digit : ℕ → ℕ
digit d = 48 + d

-- A number has fewer digits than it counts, so that one step more than it counts is enough
unfoldable decimal_by : ℕ → ℕ → List ℕ
decimal_by zero n = []
decimal_by (suc k) n = elim (ltb n 10) [ true ↦ digit n ∷ [] | false ↦ decimal_by k (n / 10) ++ (digit (n % 10) ∷ []) ]

unfoldable pub decimal : ℕ → List ℕ
unfolding decimal_by
decimal n = decimal_by (suc n) n

unfoldable pub value_of : ℕ → List ℕ → ℕ
value_of n [] = n
value_of n (c ∷ s) = value_of (n * 10 + (c - 48)) s

-- ---- laws

by-digit : (k n : ℕ) → n < 10 → decimal_by (suc k) n ≡ digit n ∷ []
unfolding decimal_by
by-digit k n low = rw (lt-ltb n 10 low, decimal_by)

by-more : (k n : ℕ) → 10 ≤ n → decimal_by (suc k) n ≡ decimal_by k (n / 10) ++ (digit (n % 10) ∷ [])
unfolding decimal_by
by-more k n high = rw (le-ltb n 10 high, decimal_by)

pub tenth_less : (n : ℕ) → 10 ≤ n → n / 10 < n
tenth_less n high = div-lt_self (omega (arith, high)) (omega arith)

-- any number of steps that is enough gives the same
enough : (k j n : ℕ) → n < k → n < j → decimal_by k n ≡ decimal_by j n
enough zero j n lt lt' = elim lt [ ]
enough (suc k) zero n lt lt' = elim lt' [ ]
enough (suc k) (suc j) n lt lt' = elim (dec_le 10 n) [
  | yes high ↦
      by-more k n high
      ∙ ap (λ (s : List ℕ). s ++ (digit (n % 10) ∷ [])) (enough k j (n / 10) (omega (arith, lt, tenth_less n high)) (omega (arith, lt', tenth_less n high)))
      ∙ sym (by-more j n high)
  | no low ↦ by-digit k n (omega (arith, low)) ∙ sym (by-digit j n (omega (arith, low)))
]

pub decimal_digit : (n : ℕ) → n < 10 → decimal n ≡ digit n ∷ []
unfolding decimal
decimal_digit n low = by-digit n n low

pub decimal-more : (n : ℕ) → 10 ≤ n → decimal n ≡ decimal (n / 10) ++ (digit (n % 10) ∷ [])
unfolding decimal
decimal-more n high =
    by-more n n high ∙ ap (λ (s : List ℕ). s ++ (digit (n % 10) ∷ [])) (enough n (suc (n / 10)) (n / 10) (tenth_less n high) (omega arith))

pub length_more : (n : ℕ) → 10 ≤ n → length (decimal n) ≡ length (decimal (n / 10)) + 1
length_more n high = ap length (decimal-more n high) ∙ length-append (decimal (n / 10)) (digit (n % 10) ∷ [])

module _ (S : ℕ → Type 0) (one : (n : ℕ) → n < 10 → S n) (more : (n : ℕ) → 10 ≤ n → S (n / 10) → S n) where
  -- a fact of every number, from the numbers of one digit and from the number without its last digit
  each_number : (n : ℕ) → S n
  each_number n = induction lt-wf_rel.wf {C = S} n (λ m below. elim (dec_le 10 m) [
    | yes high ↦ more m high (below (m / 10) (tenth_less m high))
    | no low ↦ one m (omega (arith, low))
  ])

value-append : (n : ℕ) (s t : List ℕ) → value_of n (s ++ t) ≡ value_of (value_of n s) t
unfolding value_of
value-append n [] t = refl
value-append n (c ∷ s) t = value-append (n * 10 + (c - 48)) s t

pub decimal_back : (n : ℕ) → value_of 0 (decimal n) ≡ n
unfolding value_of
decimal_back = each_number (λ n. value_of 0 (decimal n) ≡ n)
    (λ n low. rw (decimal_digit n low) (omega arith))
    (λ n high back. rw (decimal-more n high, value-append 0 (decimal (n / 10)) (digit (n % 10) ∷ []), back) (omega (arith, div-add-mod' n 10)))

pub decimal_some : (n : ℕ) → 1 ≤ length (decimal n)
decimal_some = each_number (λ n. 1 ≤ length (decimal n))
    (λ n low. rw (decimal_digit n low) (omega arith))
    (λ n high some. rw (length_more n high) (omega arith))

pub decimal-first : (n : ℕ) → 1 ≤ n → digit 1 ≤ get_or (decimal n) 0 0
decimal-first = each_number (λ n. 1 ≤ n → digit 1 ≤ get_or (decimal n) 0 0)
    (λ n low positive. rw (decimal_digit n low) (omega (arith, positive)))
    (λ n high first positive.
    rw (decimal-more n high, get_or-append (decimal (n / 10)) (digit (n % 10) ∷ []) 0 0 (decimal_some (n / 10)))
    (first (omega (arith, high, div-add-mod' n 10, mod-lt n {m = 10} (omega arith)))))

pub decimal_short : (k n : ℕ) → n < 10 ^ suc k → length (decimal n) ≤ suc k
decimal_short zero n lt = rw (decimal_digit n (omega (arith, lt))) (omega arith)
decimal_short (suc k) n lt = elim (dec_le 10 n) [
  | no low ↦ rw (decimal_digit n (omega (arith, low))) (omega arith)
  | yes high ↦
      let less : n / 10 < 10 ^ suc k = (div-lt_iff_lt-mul {k = 10} {x = n} {y = 10 ^ suc k} (omega arith)).1 (omega (arith, lt, pow-succ' 10 (suc k))) in
      omega (arith, length_more n high, decimal_short k (n / 10) less)
]
