-- The records as bytes. Document 01, 'Verdicts': "code, tick (4 bytes), left value (8), right value (8), high byte
-- first"; document 02, A3: "two bytes at the end with the number of ticks tried".
--
--     record_bytes                a record's bytes (record_parts); length_record: there are as many as record_size
--                                 says; put_record: written number after number
--     records_to f n              those of f(0) to f(n-1), one after the other (length_records); records_more: one more
--                                 is written
use Rattle.std.specs.Prelude.{ℕ, zero, suc, ◌+◌, ◌*◌, ◌≤◌, ◌≡◌, refl, List, [], ◌++◌, length}
use Rattle.std.proofs.Common.{sym, ap, ◌∙◌, arith, add-one, length-append}
use Rattle.minplus.specs.Verdict.{Record}
use Rattle.judge.specs.Answer.{record_size}
use Rattle.numbers.specs.Put.{put, put_whole, bytes_of, put-put}
use Rattle.numbers.specs.Written.{Wrote, wrote_number, wrote_length, wrote_on}

unfoldable pub record_bytes : Record → List ℕ
unfolding bytes_of
record_bytes r = (((bytes_of 1 r.code ++ bytes_of 4 r.tick) ++ bytes_of 8 r.left) ++ bytes_of 8 r.right) ++ bytes_of 2 r.tried

unfoldable pub records_to : (ℕ → Record) → ℕ → List ℕ
unfolding record_bytes
records_to f zero = []
records_to f (suc n) = records_to f n ++ record_bytes (f n)

-- ---- laws

pub record_parts : (r : Record) → record_bytes r
    ≡ (((bytes_of 1 r.code ++ bytes_of 4 r.tick) ++ bytes_of 8 r.left) ++ bytes_of 8 r.right) ++ bytes_of 2 r.tried
unfolding record_bytes
record_parts r = refl

length_record : (r : Record) → length (record_bytes r) ≡ record_size
unfolding record_bytes
length_record r = refl

pub length_records : (f : ℕ → Record) (n : ℕ) → length (records_to f n) ≡ record_size * n
unfolding records_to
length_records f zero = refl
length_records f (suc n) = length-append (records_to f n) (record_bytes (f n)) ∙ rw (length_records f n, length_record (f n)) (omega arith)

-- a record after those that are written
pub records_more : (b : List ℕ) (f : ℕ → Record) (k : ℕ) → record_size * k + record_size ≤ length b
    → put (put b 0 (records_to f k)) (record_size * k) (record_bytes (f k)) ≡ put b 0 (records_to f (k + 1))
unfolding records_to
records_more b f k room =
    let size : length (records_to f k) ≡ record_size * k = length_records f k in
    let end : 0 + length (records_to f k) ≡ record_size * k = omega (arith, size) in
    rw (add-one k) (rw end at (put-put b 0 (records_to f k) (record_bytes (f k)) (omega (arith, size, length_record (f k), room))))

-- its five numbers, one after the other
pub put_record : {s₁ s₂ s₃ s₄ s₅ : List ℕ} (s : List ℕ) (at : ℕ) (r : Record) → at + record_size ≤ length s
    → s₁ ≡ put_whole s at (bytes_of 1 r.code) → s₂ ≡ put_whole s₁ (at + 1) (bytes_of 4 r.tick) → s₃ ≡ put_whole s₂ (at + 5) (bytes_of 8 r.left)
    → s₄ ≡ put_whole s₃ (at + 13) (bytes_of 8 r.right) → s₅ ≡ put_whole s₄ (at + 21) (bytes_of 2 r.tried) → s₅ ≡ put s at (record_bytes r)
put_record {s₁} {s₂} {s₃} {s₄} {s₅} s at r room e₁ e₂ e₃ e₄ e₅ =
    let w₁ : Wrote s at (bytes_of 1 r.code) s₁ (at + 1) = wrote_number at (at + 1) 1 r.code refl (omega (arith, room)) e₁ in
    let w₂ : Wrote s₁ (at + 1) (bytes_of 4 r.tick) s₂ (at + 5) = wrote_number (at + 1) (at + 5) 4 r.tick (omega arith) (omega (arith, room, wrote_length w₁)) e₂ in
    let w₃ : Wrote s₂ (at + 5) (bytes_of 8 r.left) s₃ (at + 13) =
    wrote_number (at + 5) (at + 13) 8 r.left (omega arith) (omega (arith, room, wrote_length w₁, wrote_length w₂)) e₃ in
    let w₄ : Wrote s₃ (at + 13) (bytes_of 8 r.right) s₄ (at + 21) =
    wrote_number (at + 13) (at + 21) 8 r.right (omega arith) (omega (arith, room, wrote_length w₁, wrote_length w₂, wrote_length w₃)) e₄ in
    let w₅ : Wrote s₄ (at + 21) (bytes_of 2 r.tried) s₅ (at + record_size) =
    wrote_number (at + 21) (at + record_size) 2 r.tried (omega arith) (omega (arith, room, wrote_length w₁, wrote_length w₂, wrote_length w₃, wrote_length w₄)) e₅ in
    (wrote_on (wrote_on (wrote_on (wrote_on w₁ w₂) w₃) w₄) w₅).held ∙ ap (put s at) (sym (record_parts r))
