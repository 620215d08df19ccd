-- Laws that several functions' proofs cite.
--
--     fits, rises           a value that is within the limit, and one that is not above the next
--     all_next              a test that is tried at 0, 1, 2 and so on, after one place more; all_kept, all_lost: after
--                           a place that passes it, and after one that does not
--     filled_on             an array that is filled so far is filled further, where 0 is stored
--     part_number           a number in a part of some bytes that it fills
--     left_over             a sum is above a limit exactly when one part is above what the other leaves of it
use Prim.Native.Nat.{ℕ, zero, suc, ◌+◌, ◌-◌, ◌≤◌, ◌<◌}
use mathlib.Core.Path.{◌≡◌, refl, sym, ap, ◌∙◌}
use mathlib.Core.Bool.{Bool, true, false, ◌&&◌}
use Rattle.std.proofs.Math.Bool.{and-true, and-false}
use native.Mathlib.Omega.{arith}
use native.Mathlib.Numerals.{add-one}
use mathlib.Core.List.{List, [], ◌∷◌, ◌++◌}
use native.Mathlib.Decide.{dec_le}
use lib.ListN.{length, get_or, take, drop, replicate, length-append, length-drop}
use lib.Seq.{append_snoc, length-take-le, take_all}
use lib.Dec.{leb, ltb}
use borrow.Author.Tests.{lt-ltb, le-ltb, ltb-true, ltb-false}
use Rattle.minplus.specs.Curve.{max_units}
use Rattle.minplus.specs.Search.{all_below}
use Rattle.curve.specs.Filled.{list_of, filled, length-list_of}
use Rattle.numbers.specs.Numbers.{number_after, number_at, number_whole}

abbrev pub fits : List ℕ → ℕ → Bool
fits values n = leb (get_or values n 0) max_units

abbrev pub rises : List ℕ → ℕ → Bool
rises values n = leb (get_or values n 0) (get_or values (suc n) 0)

pub all_next : (p : ℕ → Bool) (n : ℕ) → all_below p n && p n ≡ all_below p (n + 1)
unfolding all_below
all_next p n = rw (add-one n)

pub all_kept : (p : ℕ → Bool) (n : ℕ) → p n ≡ true → all_below p (n + 1) ≡ all_below p n
all_kept p n here = sym (all_next p n) ∙ rw here (and-true (all_below p n))

pub all_lost : (p : ℕ → Bool) (n : ℕ) → p n ≡ false → all_below p (n + 1) ≡ false
all_lost p n here = sym (all_next p n) ∙ rw here (and-false (all_below p n))

pub left_over : (limit a b : ℕ) → a ≤ limit → ltb (limit - a) b ≡ ltb limit (a + b)
left_over limit a b le = go (ltb (limit - a) b) refl
  where
    go : (t : Bool) → ltb (limit - a) b ≡ t → t ≡ ltb limit (a + b)
    go true e = sym (lt-ltb limit (a + b) (omega (arith, ltb-true (limit - a) b e, le)))
    go false e = sym (le-ltb limit (a + b) (omega (arith, ltb-false (limit - a) b e, le)))

filled_zero : (F : ℕ → ℕ) (room k : ℕ) → k < room → F k ≡ 0 → filled F room (suc k) ≡ filled F room k
unfolding filled
filled_zero F room k lt none =
    let rest : ℕ = room - suc k in
    let e : room - length (list_of F k) ≡ suc rest = omega (arith, length-list_of F k) in
    let e' : room - length (list_of F k ++ (F k ∷ [])) ≡ rest = simp length-append (omega (arith, length-list_of F k)) in
    rw (e, e', none) (append_snoc (list_of F k) 0 (replicate {A = ℕ} rest 0))

pub filled_on : (F : ℕ → ℕ) (room k count : ℕ) → k ≤ count → count ≤ room → ((n : ℕ) → k ≤ n → n < count → F n ≡ 0) → filled F room k ≡ filled F room count
filled_on F room k zero le fits none = let e : k ≡ 0 = omega (arith, le) in ap (filled F room) e
filled_on F room k (suc count) le fits none = elim (dec_le k count) [
  | yes less ↦
      filled_on F room k count less (omega (arith, fits)) (λ n le lt. none n le (omega (arith, lt)))
      ∙ sym (filled_zero F room count (omega (arith, fits)) (none count less (omega arith)))
  | no more ↦ let e : k ≡ suc count = omega (arith, le, more) in ap (filled F room) e
]

pub part_number : (w i : ℕ) (s : List ℕ) → i + w ≤ length s → number_at w (take w (drop i s)) 0 ≡ number_at w s i
part_number w i s fits =
    let long : length (take w (drop i s)) ≡ w = length-take-le w (drop i s) (rw (length-drop i s) (omega (arith, fits))) in
    number_whole w 0 (take w (drop i s)) (omega (arith, long)) ∙ ap (number_after 0) (take_all w (take w (drop i s)) (omega (arith, long)))
    ∙ sym (number_whole w i s fits)
