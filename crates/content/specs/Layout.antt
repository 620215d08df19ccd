-- The contents of curves and claims. Document 01, 'The book': "numbers high byte first".
--
--     rank_in, period_in, increment_in     "01: T (2), d (2), c (4), then T+d values (4 each)": read from a content
--     count_in, value_in, curve_in    (curve_head: the bytes of T, d and c; whole_in: how many values are all there;
--                                     value_missing: the others are 0)
--     curve_bytes, values_bytes       the same, written
--     listed_of                       the curve of a list as it is lent
--     claim_in                        "02: kind, left, right (1 each), then h (1) for kinds 1 to 3 or X (4) for 4 to
--                                     7": read from a content
--     third_width, claim_length       (at most 4: third_small; width_of: by the kind, third_in)
--     claim_bytes                     the same, written
--     kind_in, id_in                  a claim's kind and the ids in it
use Rattle.std.specs.Prelude.{ℕ, ◌+◌, ◌-◌, ◌*◌, ◌/◌, ◌≤◌, ◌≡◌, refl, Bool, true, false, length, ltb}
use Rattle.std.proofs.Common.{ap, ◌∙◌, arith}
use mathlib.Core.List.{List, ◌++◌, flat_map}
use Rattle.std.proofs.Math.Option.{Option, some}
use Rattle.minplus.specs.Curve.{Curve}
use Rattle.minplus.specs.Claim.{Kind, at_most, backlog, bound, convolution, delay, exactly, kind_by_lem, kind_by, kind_number, minimum, result, sum}
use Rattle.curve.specs.Filled.{list_of}
use Rattle.numbers.specs.Numbers.{number_at, number_torn}
use Rattle.numbers.specs.Put.{bytes_of}
use Rattle.content.specs.declared.Listed.{Listed}
use Rattle.content.specs.declared.Statement.{Statement}

-- ---- curve

abbrev pub rank_in : List ℕ → ℕ
rank_in content = number_at 2 content 0

abbrev pub period_in : List ℕ → ℕ
period_in content = number_at 2 content 2

abbrev pub increment_in : List ℕ → ℕ
increment_in content = number_at 4 content 4

-- T + d
abbrev pub count_in : List ℕ → ℕ
count_in content = rank_in content + period_in content

-- the bytes of T, d and c
abbrev pub curve_head : ℕ
curve_head = 8

abbrev pub value_in : List ℕ → ℕ → ℕ
value_in content n = number_at 4 content (curve_head + 4 * n)

-- how many values are all there
abbrev pub whole_in : List ℕ → ℕ
whole_in content = (length content - curve_head) / 4

abbrev pub curve_in : List ℕ → Curve
curve_in content = record {
  rank = rank_in content;
  period = period_in content;
  increment = increment_in content;
  listed = list_of (value_in content) (count_in content);
}

-- a list as it is lent
abbrev pub listed_of : Listed → Curve
listed_of f = record { rank = f.rank; period = f.period; increment = f.increment; listed = f.values.now }

abbrev pub values_bytes : List ℕ → List ℕ
values_bytes values = flat_map (bytes_of 4) values

unfoldable pub curve_bytes : Curve → List ℕ
unfolding flat_map
curve_bytes f = bytes_of 2 f.rank ++ (bytes_of 2 f.period ++ (bytes_of 4 f.increment ++ values_bytes f.listed))

-- ---- claim

-- "h (1) for kinds 1 to 3 or X (4) for 4 to 7"
unfoldable pub third_width : ℕ → ℕ
third_width kind = elim (ltb kind 4) [ true ↦ 1 | false ↦ 4 ]

-- the same by the kind itself (third_in)
abbrev pub width_of : Kind → ℕ
width_of (result o) = 1
width_of (bound δ t) = 4

-- the ids: left is the first, right the second, h the third
abbrev pub id_in : List ℕ → ℕ → ℕ
id_in content n = number_at 1 content n

abbrev pub claim_in : List ℕ → Statement
claim_in content = record {
  kind = number_at 1 content 0;
  left = id_in content 1;
  right = id_in content 2;
  third = number_at (third_width (number_at 1 content 0)) content 3;
}

abbrev pub kind_in : List ℕ → Option Kind
kind_in content = kind_by (claim_in content).kind

abbrev pub claim_length : ℕ → ℕ
claim_length kind = 3 + third_width kind

unfoldable pub claim_bytes : Statement → List ℕ
unfolding third_width
claim_bytes c = bytes_of 1 c.kind ++ (bytes_of 1 c.left ++ (bytes_of 1 c.right ++ bytes_of (third_width c.kind) c.third))

-- ---- laws

pub value_missing : (content : List ℕ) (n : ℕ) → whole_in content ≤ n → value_in content n ≡ 0
value_missing content n le = number_torn 4 (curve_head + 4 * n) content (omega (arith, le))

pub third_small : (kind : ℕ) → third_width kind ≤ 4
unfolding third_width
third_small kind = go (ltb kind 4)
  where
    go : (b : Bool) → elim b as (λ _. ℕ) [ true ↦ 1 | false ↦ 4 ] ≤ 4
    go true = omega arith
    go false = omega arith

-- of kinds 1 to 3 the third is an id, as left and right are; of 4 to 7 it has four bytes
pub third_in : (content : List ℕ) (κ : Kind) → kind_in content ≡ some κ → (claim_in content).third ≡ number_at (width_of κ) content 3
unfolding third_width kind_number
third_in content κ is = ap (λ (w : ℕ). number_at w content 3) (ap third_width ((kind_by_lem (claim_in content).kind κ).0 is) ∙ wide κ)
  where
    wide : (κ : Kind) → third_width (kind_number κ) ≡ width_of κ
    wide (result sum) = refl
    wide (result minimum) = refl
    wide (result convolution) = refl
    wide (bound delay at_most) = refl
    wide (bound delay exactly) = refl
    wide (bound backlog at_most) = refl
    wide (bound backlog exactly) = refl
