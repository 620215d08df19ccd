-- What stands in lent bytes after something was written into them.
--
--     put s at t          s with t over it from place at on
--     put_whole s at t    the same where all of t has room (put_fits), else s as it was (put_short)
--     bytes_of w n        the w bytes of a number, high byte first; of a larger number its last w (length-bytes: they
--                         are w; read again they are the number, and they may be written from the last one on:
--                         proofs/HighFirst)
--     put-nothing, put_last, put-put     nothing, one byte more, one after the other
--     length-put, drop-put     as many bytes as before, and those after it as they were
use Prim.Native.Nat.{ℕ, zero, suc, ◌+◌, ◌/◌, ◌%◌, ◌≤◌, ◌<◌}
use Rattle.std.specs.Prelude.{◌≡◌, refl, true, false, set, leb}
use Rattle.std.proofs.Math.Path.{sym, ap}
use Rattle.std.proofs.Common.{◌∙◌, arith, add-zero, add-one, take-append-drop, length-take-le, le-leb}
use mathlib.Core.List.{List, [], ◌∷◌, ◌++◌, append-nil, append_assoc}
use Rattle.std.proofs.Math.ListN.{length, take, drop, length-append, length-drop}
use Rattle.std.proofs.Math.Seq.{append_snoc, take_at, drop_at, drop-drop, take-set-le}
use Rattle.std.proofs.lemmas.List.{set_split}
use Rattle.std.proofs.lemmas.Bool.{lt-leb}

unfoldable pub put : List ℕ → ℕ → List ℕ → List ℕ
put s at t = (take at s ++ t) ++ drop (at + length t) s

unfoldable pub put_whole : List ℕ → ℕ → List ℕ → List ℕ
unfolding put
put_whole s at t = elim (leb (at + length t) (length s)) [ true ↦ put s at t | false ↦ s ]

unfoldable pub bytes_of : ℕ → ℕ → List ℕ
bytes_of zero n = []
bytes_of (suc w) n = bytes_of w (n / 256) ++ (n % 256 ∷ [])

-- ---- laws

pub put_fits : (s : List ℕ) (at : ℕ) (t : List ℕ) → at + length t ≤ length s → put_whole s at t ≡ put s at t
unfolding put_whole
put_fits s at t fits = rw (le-leb _ _ fits, put_whole)

pub put_short : (s : List ℕ) (at : ℕ) (t : List ℕ) → length s < at + length t → put_whole s at t ≡ s
unfolding put_whole
put_short s at t short = rw (lt-leb _ _ short, put_whole)

pub put-nothing : (s : List ℕ) (at : ℕ) → put s at [] ≡ s
unfolding put
put-nothing s at =
    ap (λ (k : ℕ). (take at s ++ []) ++ drop k s) (add-zero at) ∙ ap (λ (r : List ℕ). r ++ drop at s) (append-nil (take at s)) ∙ take-append-drop at s

module _ (s : List ℕ) (at : ℕ) (t : List ℕ) where
  head : at ≤ length s → length (take at s ++ t) ≡ at + length t
  head fits = length-append (take at s) t ∙ ap (λ (k : ℕ). k + length t) (length-take-le at s fits)

  pub length-put : at + length t ≤ length s → length (put s at t) ≡ length s
  unfolding put
  length-put fits =
      length-append (take at s ++ t) (drop (at + length t) s)
      ∙ rw (head (omega (arith, fits)), length-drop (at + length t) s) (omega (arith, fits))

  pub drop-put : at + length t ≤ length s → drop (at + length t) (put s at t) ≡ drop (at + length t) s
  unfolding put
  drop-put fits = drop_at (take at s ++ t) (drop (at + length t) s) (at + length t) (head (omega (arith, fits)))

  -- the last byte may be written first
  pub put_last : (b : ℕ) → at + length t < length s → put s at (t ++ (b ∷ [])) ≡ put (set s (at + length t) b) at t
  unfolding put
  put_last b fits =
      let k : ℕ = at + length t in
      let all : at + length (t ++ (b ∷ [])) ≡ suc k = rw (length-append t (b ∷ [])) (omega arith) in
      let kept : take at (set s k b) ≡ take at s = take-set-le at s k b (omega arith) in
      let cut : drop k (set s k b) ≡ b ∷ drop (suc k) s =
      ap (drop k) (set_split s k b fits) ∙ drop_at (take k s) (b ∷ drop (suc k) s) k (length-take-le k s (omega (arith, fits))) in
      sym (rw (kept, cut, all)
      (sym (append_snoc (take at s ++ t) b (drop (suc k) s)) ∙ ap (λ (r : List ℕ). r ++ drop (suc k) s) (append_assoc (take at s) t (b ∷ []))))

  pub put-put : (u : List ℕ) → at + length t + length u ≤ length s → put (put s at t) (at + length t) u ≡ put s at (t ++ u)
  unfolding put
  put-put u fits =
      let k : ℕ = at + length t in
      let front : length (take at s ++ t) ≡ k = head (omega (arith, fits)) in
      let both : at + length (t ++ u) ≡ k + length u = rw (length-append t u) (omega arith) in
      let before : take k ((take at s ++ t) ++ drop k s) ≡ take at s ++ t = take_at (take at s ++ t) (drop k s) k front in
      let after : drop (k + length u) ((take at s ++ t) ++ drop k s) ≡ drop (k + length u) s =
      sym (drop-drop (length u) k ((take at s ++ t) ++ drop k s)) ∙ ap (drop (length u)) (drop_at (take at s ++ t) (drop k s) k front)
      ∙ drop-drop (length u) k s in
      rw (before, after, both) (ap (λ (r : List ℕ). r ++ drop (k + length u) s) (append_assoc (take at s) t u))

pub length-bytes : (w n : ℕ) → length (bytes_of w n) ≡ w
unfolding bytes_of
length-bytes zero n = refl
length-bytes (suc w) n = simp (length-append, length-bytes w (n / 256), add-one w)
