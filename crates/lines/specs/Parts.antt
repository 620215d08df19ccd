-- The parts of a line of text: what the functions of src/ answer for any bytes.
--
--     is_case s             whether the line s asks something
--     Ends r s              r ends a front of s
--     place_from b s i      the first place of b in s from i on; the end where there is none
--     past_space s i        the place after a space at i
--     number_from n s i     the digits of s from i on, after the number n (with_digit), and the place after them
--     place_end, place_here, place_on     place_from, by what stands at i
--     number_end, number_low, number_high, number_more     number_from, likewise
use Rattle.std.specs.Prelude.{ℕ, suc, ◌+◌, ◌-◌, ◌*◌, ◌≤◌, ◌<◌, min, ◌≡◌, Bool, true, false, not, ◌&&◌, ltb, List, [], ◌∷◌, length, take, drop, get_or, leb, eqb}
use Rattle.std.proofs.Common.{arith, drop_of_length-le}
use Rattle.std.proofs.Math.Numerals.{add-one}
use Rattle.std.proofs.Math.Seq.{drop-cons}
use borrow.Author.Tests.{eq-eqb, ne_eqb, le-leb, lt-leb}
use Rattle.lines.specs.declared.Number.{Number}

-- The second part follows from the first. Both are stated so that the proof that Rattle makes of `&s[..r]` finds them.
abbrev pub Ends : ℕ → List ℕ → Type 0
Ends r s = (r ≤ length s) × (r ≡ length (take r s))

-- A byte stands there, and the first is no '#'.
abbrev pub is_case : List ℕ → Bool
is_case s = ltb 0 (length s) && not (eqb (get_or s 0 0) 35)

unfoldable first_in : ℕ → List ℕ → ℕ
first_in b [] = 0
first_in b (c ∷ s) = elim (eqb c b) [ true ↦ 0 | false ↦ suc (first_in b s) ]

unfoldable pub place_from : ℕ → List ℕ → ℕ → ℕ
unfolding first_in
place_from b s i = min i (length s) + first_in b (drop i s)

abbrev pub past_space : List ℕ → ℕ → ℕ
past_space s i = elim (eqb (get_or s i 0) 32) [ true ↦ i + 1 | false ↦ i ]

-- 48 is '0'. Past 64 bits the number stays the largest that they hold.
abbrev pub with_digit : ℕ → ℕ → ℕ
with_digit n digit = min (n * 10 + digit) 18446744073709551615

unfoldable number_in : ℕ → List ℕ → ℕ → Number
number_in n [] i = record { value = n; next = i }
number_in n (c ∷ s) i =
    elim (leb 48 c) [
      | true ↦ elim (leb c 57) [ true ↦ number_in (with_digit n (c - 48)) s (i + 1) | false ↦ record { value = n; next = i } ]
      | false ↦ record { value = n; next = i }
    ]

unfoldable pub number_from : ℕ → List ℕ → ℕ → Number
unfolding number_in
number_from n s i = number_in n (drop i s) i

-- ---- laws

module _ (b : ℕ) (s : List ℕ) (i : ℕ) where
  pub place_end : length s ≤ i → place_from b s i ≡ length s
  unfolding place_from
  place_end past = rw (drop_of_length-le s past) (omega arith)

  pub place_here : i < length s → get_or s i 0 ≡ b → place_from b s i ≡ i
  unfolding place_from
  place_here lt here = rw (drop-cons s i 0 lt, eq-eqb _ _ here, first_in) (omega arith)

  pub place_on : i < length s → (get_or s i 0 ≡ b → ⊥) → place_from b s (i + 1) ≡ place_from b s i
  unfolding place_from
  place_on lt other = rw (add-one i, drop-cons s i 0 lt, ne_eqb _ _ other, first_in) (omega arith)

-- what `find` is proved with
pub ruleset place_laws = (place_end, place_here, place_on)

module _ (n : ℕ) (s : List ℕ) (i : ℕ) where
  pub number_end : length s ≤ i → number_from n s i ≡ record { value = n; next = i }
  unfolding number_from
  number_end past = rw (drop_of_length-le s past)

  pub number_low : i < length s → get_or s i 0 < 48 → number_from n s i ≡ record { value = n; next = i }
  unfolding number_from
  number_low lt low = rw (drop-cons s i 0 lt, lt-leb _ _ low, number_in)

  pub number_high : i < length s → 57 < get_or s i 0 → number_from n s i ≡ record { value = n; next = i }
  unfolding number_from
  number_high lt high = rw (drop-cons s i 0 lt, le-leb 48 (get_or s i 0) (omega arith), lt-leb _ _ high, number_in)

  pub number_more : i < length s → 48 ≤ get_or s i 0 → get_or s i 0 ≤ 57
      → number_from n s i ≡ number_from (with_digit n (get_or s i 0 - 48)) s (i + 1)
  unfolding number_from
  number_more lt low high = rw (drop-cons s i 0 lt, le-leb _ _ low, le-leb _ _ high, number_in, add-one i)

-- what `digits` is proved with
pub ruleset number_laws = (number_end, number_low, number_high, number_more)
