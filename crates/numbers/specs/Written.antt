-- What is written from a place of lent bytes on, and the place after it.
--
--     Wrote s at t s' next     s' is s with t over it from at on, where t has room, and next is the place after t
--     wrote_nothing, wrote_number, wrote_on     nothing; a number; one text after the other
--     wrote_length             as many bytes as before
use Rattle.std.specs.Prelude.{ℕ, ◌+◌, ◌≤◌, ◌≡◌, List, [], ◌++◌, length}
use Rattle.std.proofs.Common.{sym, ap, ◌∙◌, arith, length-append}
use Rattle.numbers.specs.Put.{put, put_whole, bytes_of, put_fits, put-nothing, put-put, length-put, length-bytes}

pub record Wrote (s : List ℕ) (at : ℕ) (t s' : List ℕ) (next : ℕ) : Type 0 where
  pub fits : at + length t ≤ length s
  pub held : s' ≡ put s at t
  pub past : next ≡ at + length t

pub wrote_nothing : (s : List ℕ) (at : ℕ) → at ≤ length s → Wrote s at [] s at
wrote_nothing s at inside = record { fits = omega (arith, inside); held = sym (put-nothing s at); past = omega arith }

-- a number, by the places before and after it
pub wrote_number : {s s' : List ℕ} (at next w n : ℕ) → at + w ≡ next → next ≤ length s → s' ≡ put_whole s at (bytes_of w n) → Wrote s at (bytes_of w n) s' next
wrote_number {s} at next w n to fits e =
    let long : length (bytes_of w n) ≡ w = length-bytes w n in
    let room : at + length (bytes_of w n) ≤ length s = omega (arith, long, to, fits) in
    record { fits = room; held = e ∙ put_fits s at (bytes_of w n) room; past = omega (arith, long, to) }

module _ {s : List ℕ} {at : ℕ} {t s' : List ℕ} {next : ℕ} where
  pub wrote_length : Wrote s at t s' next → length s' ≡ length s
  wrote_length w = ap length w.held ∙ length-put s at t w.fits

  pub wrote_on : {u s'' : List ℕ} {end : ℕ} → Wrote s at t s' next → Wrote s' next u s'' end → Wrote s at (t ++ u) s'' end
  wrote_on {u} {s''} {end} w v =
      let long : length (t ++ u) ≡ length t + length u = length-append t u in
      let room : at + length t + length u ≤ length s = omega (arith, wrote_length w, v.fits, w.past) in
      record {
        fits = omega (arith, long, room);
        held = v.held ∙ rw (w.held, w.past) (put-put s at t u room);
        past = omega (arith, long, v.past, w.past);
      }
