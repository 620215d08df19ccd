-- A byte written, and what is written from the first byte on.
--
--     IsPrefixLen      so many bytes are a front of the bytes
--     wrote_byte, wrote_words     one byte; bytes that are copied
--     wrote_first      the place after it is its length
use Rattle.std.specs.Prelude.{ℕ, suc, ◌+◌, ◌≤◌, ◌<◌, ◌≡◌, refl, List, [], ◌∷◌, ◌++◌, length, take, drop, set}
use borrow.Rule.Slice.PartMut.{put_mid}
use Rattle.std.proofs.Common.{sym, ap, append_assoc, ◌∙◌, arith, zero-add, add-one, length-take-le}
use Rattle.std.proofs.Math.Seq.{append_snoc, drop-drop}
use Rattle.std.proofs.lemmas.List.{set_split}
use Rattle.numbers.specs.Put.{put}
use Rattle.numbers.specs.Written.{Wrote, wrote_length}

-- The second part follows from the first, and says what the proof that Rattle makes of `&s[..n]` asks.
abbrev pub IsPrefixLen : ℕ → List ℕ → Type 0
IsPrefixLen n s = (n ≤ length s) × (n ≡ length (take n s))

pub wrote_byte : (s : List ℕ) (at b : ℕ) → at < length s → Wrote s at (b ∷ []) (set s at b) (at + 1)
unfolding put
wrote_byte s at b inside = record {
  fits = omega (arith, inside);
  held = rw (add-one at) (set_split s at b inside ∙ sym (append_snoc (take at s) b (drop (suc at) s)));
  past = refl;
}

pub wrote_first : {s t s' u : List ℕ} {next : ℕ} → Wrote s 0 t s' next → u ≡ t → IsPrefixLen next s' × ((next ≡ length u) × (s' ≡ put s 0 u))
wrote_first {s} {t} {s'} {next = next} w e =
    let inside : next ≤ length s' = omega (arith, w.past, w.fits, wrote_length w) in
    ((inside, sym (length-take-le next s' inside)), rw e (w.past ∙ zero-add (length t), w.held))

pub wrote_words : (s : List ℕ) (at : ℕ) (t : List ℕ) (k : ℕ) → k ≡ length t → at + length t ≤ length s → Wrote s at t (put_mid at k s t) (at + length t)
unfolding put
wrote_words s at t k e fits = record {
  fits = fits;
  held = rw e (sym (append_assoc (take at s) t (drop (at + length t) s) ∙ ap (λ (r : List ℕ). take at s ++ (t ++ r)) (sym (drop-drop (length t) at s))));
  past = refl;
}
