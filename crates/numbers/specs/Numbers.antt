-- Numbers in bytes. Document 01, 'The book': "numbers high byte first".
--
--     number_after      a list of bytes as one number, after a number that stands before it
--     number_at w s i   the number in the w bytes from place i of s; 0 where they are not all there
--     number_within w s i           the same of at most eight bytes, which 64 bits have room for (number_fits); of more
--                                   it is 0
--     number_whole, number_torn     number_at, by whether they are all there
--     number_split      w + v bytes are w bytes and v bytes after them (after-append); number_byte: one byte
use Rattle.std.specs.Prelude.{ℕ, ◌+◌, ◌*◌, ◌^◌, ◌≤◌, ◌<◌, ◌≡◌, refl, true, false, List, [], ◌∷◌, ◌++◌, length, take, drop, get_or, leb}
use Rattle.std.proofs.Common.{ap, ◌∙◌, arith, zero-add, length-drop, take-add, drop-drop, drop-cons, length-take-le, le-leb}
use Rattle.std.proofs.Math.Nat.{pow-succ'}
use Rattle.std.proofs.lemmas.Bool.{lt-leb}

unfoldable pub number_after : ℕ → List ℕ → ℕ
number_after n [] = n
number_after n (b ∷ s) = number_after (n * 256 + b) s

unfoldable pub number_at : ℕ → List ℕ → ℕ → ℕ
unfolding number_after
number_at w s i = elim (leb (i + w) (length s)) [ true ↦ number_after 0 (take w (drop i s)) | false ↦ 0 ]

abbrev pub number_within : ℕ → List ℕ → ℕ → ℕ
number_within w s i = elim (leb w 8) [ true ↦ number_at w s i | false ↦ 0 ]

-- ---- laws

pub number_fits : (w i : ℕ) (s : List ℕ) → w ≤ 8 → number_within w s i ≡ number_at w s i
number_fits w i s fits = rw (le-leb w 8 fits, number_within)

pub number_whole : (w i : ℕ) (s : List ℕ) → i + w ≤ length s → number_at w s i ≡ number_after 0 (take w (drop i s))
unfolding number_at
number_whole w i s fits = rw (le-leb _ _ fits, number_at)

pub number_torn : (w i : ℕ) (s : List ℕ) → length s < i + w → number_at w s i ≡ 0
unfolding number_at
number_torn w i s short = rw (lt-leb _ _ short, number_at)

pub after-append : (n : ℕ) (s t : List ℕ) → number_after n (s ++ t) ≡ number_after (number_after n s) t
unfolding number_after
after-append n [] t = refl
after-append n (b ∷ s) t = after-append (n * 256 + b) s t

after_scaled : (n : ℕ) (s : List ℕ) → number_after n s ≡ n * 256 ^ length s + number_after 0 s
unfolding number_after
after_scaled n [] = omega arith
after_scaled n (b ∷ s) =
    after_scaled (n * 256 + b) s ∙ sum n b (256 ^ length s) (number_after 0 s) ∙ rw (pow-succ' 256 (length s), after_scaled (0 * 256 + b) s) (omega arith)
  where
    sum : (n b p x : ℕ) → (n * 256 + b) * p + x ≡ n * (256 * p) + (b * p + x)
    sum n b p x = omega arith

-- a number is its first bytes, and the rest after them
pub number_split : (w v i : ℕ) (s : List ℕ) → i + (w + v) ≤ length s → number_at (w + v) s i ≡ number_at w s i * 256 ^ v + number_at v s (i + w)
number_split w v i s fits =
    let rest : take v (drop w (drop i s)) ≡ take v (drop (i + w) s) = ap (take v) (drop-drop w i s) in
    let long : length (take v (drop (i + w) s)) ≡ v = length-take-le v (drop (i + w) s) (rw (length-drop (i + w) s) (omega arith)) in
    number_whole (w + v) i s fits ∙ ap (number_after 0) (take-add w v (drop i s) ∙ ap (λ (t : List ℕ). take w (drop i s) ++ t) rest)
    ∙ after-append 0 (take w (drop i s)) (take v (drop (i + w) s))
    ∙ after_scaled (number_after 0 (take w (drop i s))) (take v (drop (i + w) s))
    ∙ rw (long, number_whole w i s (omega arith), number_whole v (i + w) s (omega arith))

pub number_byte : (i : ℕ) (s : List ℕ) → i < length s → number_at 1 s i ≡ get_or s i 0
unfolding number_after
number_byte i s lt =
    number_whole 1 i s (omega arith) ∙ ap (λ (t : List ℕ). number_after 0 (take 1 t)) (drop-cons s i 0 lt) ∙ zero-add (get_or s i 0)
