-- A number's bytes, high byte first: what rests on their order.
--
--     after_byte, room_for_byte     a byte more is read, and the number has room in so many bytes
--     put-bytes       a number's bytes, written from the last one on
--     bytes_back      a number's bytes, read again, are the number
--     bytes_of_lem    a number's bytes are below 256
--     number_front, number_back     a number is read where its bytes stand
--     bytes_again     the bytes of a number that is read are those that stand there; bytes_then: and those after them
--                     go on
use Rattle.std.specs.Prelude.{ℕ, zero, suc, ◌+◌, ◌-◌, ◌*◌, ◌^◌, ◌/◌, ◌%◌, ◌≤◌, ◌<◌, ◌≡◌, refl, length, take, drop, set, get_or}
use Rattle.std.proofs.Common.{sym, ap, ap₂, ◌∙◌, arith, mod-lt, add-one, length-drop, take-add, take_at, drop-drop, take-suc, get_or-drop, div-add-mod', div-lt_iff_lt-mul}
use Rattle.std.proofs.Math.Nat.{pow-succ'}
use mathlib.Core.List.{List, [], ◌∷◌, ◌++◌}
use Rattle.numbers.specs.Lists.{forall_at, forall_more}
use Rattle.numbers.specs.Numbers.{number_at, number_after, after-append, number_whole, number_split, number_byte}
use Rattle.numbers.specs.Put.{put, put_last, bytes_of, length-bytes}
use Rattle.numbers.specs.Back.{Byte, Bytes, bytes_none, length_then, number_on}

-- a byte more is read, and the number still has room in so many bytes
pub after_byte : (k : ℕ) (s : List ℕ) → k < length s → number_after 0 (take (k + 1) s) ≡ number_after 0 (take k s) * 256 + get_or s k 0
unfolding number_after
after_byte k s lt = rw (add-one k, take-suc s k 0 lt) (after-append 0 (take k s) (get_or s k 0 ∷ []))

pub room_for_byte : (k n b : ℕ) → n < 256 ^ k → b < 256 → n * 256 + b < 256 ^ (k + 1)
room_for_byte k n b lt byte = rw (add-one k, pow-succ' 256 k) (omega (arith, lt, byte))

-- the last byte first, for a loop that goes down
pub put-bytes : (s : List ℕ) (at w n : ℕ) → 0 < w → at + w ≤ length s
    → put (set s (at + (w - 1)) (n % 256)) at (bytes_of (w - 1) (n / 256)) ≡ put s at (bytes_of w n)
unfolding bytes_of
put-bytes s at zero n positive fits = absurd (omega (arith, positive))
put-bytes s at (suc w) n positive fits =
    let less : suc w - 1 ≡ w = omega arith in
    let size : length (bytes_of w (n / 256)) ≡ w = length-bytes w (n / 256) in
    rw less (sym (rw size at (put_last s at (bytes_of w (n / 256)) (n % 256) (omega (arith, size, fits)))))

pub bytes_back : (w n : ℕ) → n < 256 ^ w → number_after 0 (bytes_of w n) ≡ n
unfolding bytes_of number_after
bytes_back zero n lt = omega (arith, lt)
bytes_back (suc w) n lt =
    after-append 0 (bytes_of w (n / 256)) (n % 256 ∷ [])
    ∙ rw (bytes_back w (n / 256) ((div-lt_iff_lt-mul (omega arith)).1 (omega (arith, lt, pow-succ' 256 w)))) (div-add-mod' n 256)

pub bytes_of_lem : (w n : ℕ) → Bytes (bytes_of w n)
unfolding bytes_of
bytes_of_lem zero n = bytes_none
bytes_of_lem (suc w) n = forall_more Byte (bytes_of w (n / 256)) (n % 256) (bytes_of_lem w (n / 256)) (mod-lt n (omega arith))

-- ---- a number that was written, read

pub number_front : (w n : ℕ) (post : List ℕ) → n < 256 ^ w → number_at w (bytes_of w n ++ post) 0 ≡ n
number_front w n post fits =
    let room : 0 + w ≤ length (bytes_of w n ++ post) = omega (arith, length_then w n post) in
    number_whole w 0 (bytes_of w n ++ post) room ∙ ap (number_after 0) (take_at (bytes_of w n) post w (length-bytes w n)) ∙ bytes_back w n fits

pub number_back : (w n : ℕ) (pre post : List ℕ) (i : ℕ) → i ≡ length pre → n < 256 ^ w → number_at w (pre ++ (bytes_of w n ++ post)) i ≡ n
number_back w n pre post i at fits =
    let e : i ≡ i + 0 = omega arith in
    ap (number_at w (pre ++ (bytes_of w n ++ post))) e ∙ number_on w 0 i pre (bytes_of w n ++ post) (sym at) ∙ number_front w n post fits

-- ---- a number that was read, written

pub bytes_again : (w i : ℕ) (s : List ℕ) → Bytes s → i + w ≤ length s → bytes_of w (number_at w s i) ≡ take w (drop i s)
unfolding bytes_of
bytes_again zero i s small fits = refl
bytes_again (suc w) i s small fits =
    let b : ℕ = get_or s (i + w) 0 in
    let below : b < 256 = forall_at Byte s 0 small (i + w) (omega (arith, fits)) in
    let whole : number_at (suc w) s i ≡ number_at w s i * 256 + b =
    ap (λ (k : ℕ). number_at k s i) (sym (add-one w)) ∙ number_split w 1 i s (omega (arith, fits))
    ∙ ap (λ (x : ℕ). number_at w s i * 256 + x) (number_byte (i + w) s (omega (arith, fits))) in
    let high : (number_at w s i * 256 + b) / 256 ≡ number_at w s i = omega (arith, below) in
    let low : (number_at w s i * 256 + b) % 256 ≡ b = omega (arith, below) in
    let last : get_or (drop i s) w 0 ≡ b = get_or-drop i s w 0 in
    rw (whole, high, low, bytes_again w i s small (omega (arith, fits)), ← last) (sym (take-suc (drop i s) w 0 (omega (arith, fits, length-drop i s))))

pub bytes_then : (w v i : ℕ) (s : List ℕ) → Bytes s → i + w ≤ length s → bytes_of w (number_at w s i) ++ take v (drop (i + w) s) ≡ take (w + v) (drop i s)
bytes_then w v i s small fits =
    ap₂ (λ (x y : List ℕ). x ++ y) (bytes_again w i s small fits) (ap (take v) (sym (drop-drop w i s))) ∙ sym (take-add w v (drop i s))
