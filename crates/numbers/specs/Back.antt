-- Reading and writing a number undo each other.
--
--     Bytes s         every member of s is below 256: bytes_take, bytes_drop, bytes_none, bytes-append, bytes_flat;
--                     proofs/HighFirst: a number's bytes are
--     length_then     how long a number's bytes are with a list after them
--     number_on       what is read after a list is read of the rest; proofs/HighFirst: a number is read where its bytes
--                     stand, and the bytes of a number that is read are those that stand there
use Rattle.std.specs.Prelude.{ℕ, ◌+◌, ◌<◌, ◌≡◌, refl, Bool, true, false, length, take, drop, leb}
use Rattle.std.proofs.Common.{sym, ap, subst, ◌∙◌, arith, length-append, take-append-drop, drop_at, drop-drop, leb-true, leb-false}
use mathlib.Core.List.{List, [], ◌∷◌, ◌++◌, flat_map}
use mathlib.Mathlib.Data.List.Defs.{Forall}
use mathlib.Mathlib.Data.List.Basic.{Forall-append}
use Rattle.numbers.specs.Numbers.{number_at, number_after, number_whole, number_torn}
use Rattle.numbers.specs.Put.{bytes_of, length-bytes}

abbrev pub Byte : ℕ → Type 0
Byte b = b < 256

abbrev pub Bytes : List ℕ → Type 0
Bytes s = Forall Byte s

-- ---- bytes

module _ (k : ℕ) (s : List ℕ) (small : Bytes s) where
  split : Bytes (take k s) × Bytes (drop k s)
  split = (Forall-append Byte (take k s) (drop k s)).0 (subst Bytes (sym (take-append-drop k s)) small)

  pub bytes_take : Bytes (take k s)
  bytes_take = split.0

  pub bytes_drop : Bytes (drop k s)
  bytes_drop = split.1

pub bytes_none : Bytes []
unfolding Forall
bytes_none = tt

pub bytes-append : (s t : List ℕ) → Bytes s → Bytes t → Bytes (s ++ t)
bytes-append s t small small' = (Forall-append Byte s t).1 (small, small')

pub bytes_flat : {A : Type 0} (f : A → List ℕ) → ((x : A) → Bytes (f x)) → (l : List A) → Bytes (flat_map f l)
unfolding flat_map
bytes_flat f small [] = bytes_none
bytes_flat f small (x ∷ l) = bytes-append (f x) (flat_map f l) (small x) (bytes_flat f small l)

pub length_then : (w n : ℕ) (s : List ℕ) → length (bytes_of w n ++ s) ≡ w + length s
length_then w n s = length-append (bytes_of w n) s ∙ ap (λ (k : ℕ). k + length s) (length-bytes w n)

-- ---- a number that was written, read

pub number_on : (w j k : ℕ) (pre s : List ℕ) → length pre ≡ k → number_at w (pre ++ s) (k + j) ≡ number_at w s j
number_on w j k pre s long = go (leb (j + w) (length s)) refl
  where
    all : length (pre ++ s) ≡ k + length s
    all = length-append pre s ∙ ap (λ (n : ℕ). n + length s) long

    rest : drop (k + j) (pre ++ s) ≡ drop j s
    rest = sym (drop-drop j k (pre ++ s)) ∙ ap (drop j) (drop_at pre s k long)

    go : (b : Bool) → leb (j + w) (length s) ≡ b → number_at w (pre ++ s) (k + j) ≡ number_at w s j
    go true e =
        let fits = leb-true _ _ e in
        number_whole w (k + j) (pre ++ s) (omega (arith, fits, all)) ∙ ap (λ (t : List ℕ). number_after 0 (take w t)) rest ∙ sym (number_whole w j s fits)
    go false e =
        let short = leb-false _ _ e in
        number_torn w (k + j) (pre ++ s) (omega (arith, short, all)) ∙ sym (number_torn w j s short)
