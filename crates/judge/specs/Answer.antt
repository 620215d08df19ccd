-- The answer and the verdict buffer, taken apart. Document 01: "as one 64-bit number: refusal number + 2^8 * place +
-- 2^24 * accepted + 2^36 * refuted + 2^48 * not judged"; of a record "code, tick (4 bytes), left value (8), right value
-- (8), high byte first". Document 02, A3: "from 21 to 23 bytes: two bytes at the end with the number of ticks tried".
--
--     answer_with                                     an answer from its parts
--     refusal_in, place_in, accepted_in, refuted_in, unjudged_in     the parts of an answer (answer_parts)
--     claims_in                                       the three totals together
--     certified                                       over the totals: "yes exactly when there is at least one claim
--                                                     and all are accepted"
--     record_size, code_in, tick_in, left_in, right_in, tried_in     the record of a claim in a buffer; record_in: the
--                                                     five numbers together
use Rattle.std.specs.Prelude.{ℕ, ◌+◌, ◌*◌, ◌/◌, ◌%◌, ◌^◌, ◌<◌, ◌≡◌, Bool, ◌&&◌, List, leb, eqb}
use Rattle.std.proofs.Common.{arith}
use Rattle.minplus.specs.Verdict.{Record}
use Rattle.numbers.specs.Numbers.{number_at}

abbrev pub answer_with : ℕ → ℕ → ℕ → ℕ → ℕ → ℕ
answer_with refusal place accepted refuted unjudged =
    refusal + 2 ^ 8 * place + 2 ^ 24 * accepted + 2 ^ 36 * refuted + 2 ^ 48 * unjudged

abbrev pub refusal_in : ℕ → ℕ
refusal_in answer = answer % 2 ^ 8

abbrev pub place_in : ℕ → ℕ
place_in answer = answer / 2 ^ 8 % 2 ^ 16

abbrev pub accepted_in : ℕ → ℕ
accepted_in answer = answer / 2 ^ 24 % 2 ^ 12

abbrev pub refuted_in : ℕ → ℕ
refuted_in answer = answer / 2 ^ 36 % 2 ^ 12

abbrev pub unjudged_in : ℕ → ℕ
unjudged_in answer = answer / 2 ^ 48

-- "accepted, refuted and not judged add up to the claims counted in the book"
abbrev pub claims_in : ℕ → ℕ
claims_in answer = accepted_in answer + refuted_in answer + unjudged_in answer

abbrev pub certified : (claims accepted : ℕ) → Bool
certified claims accepted = leb 1 claims && eqb accepted claims

abbrev pub record_size : ℕ
record_size = 23

abbrev pub code_in : List ℕ → ℕ → ℕ
code_in verdicts k = number_at 1 verdicts (record_size * k)

abbrev pub tick_in : List ℕ → ℕ → ℕ
tick_in verdicts k = number_at 4 verdicts (record_size * k + 1)

abbrev pub left_in : List ℕ → ℕ → ℕ
left_in verdicts k = number_at 8 verdicts (record_size * k + 5)

abbrev pub right_in : List ℕ → ℕ → ℕ
right_in verdicts k = number_at 8 verdicts (record_size * k + 13)

abbrev pub tried_in : List ℕ → ℕ → ℕ
tried_in verdicts k = number_at 2 verdicts (record_size * k + 21)

abbrev pub record_in : List ℕ → ℕ → Record
record_in verdicts k = record {
  code = code_in verdicts k;
  tick = tick_in verdicts k;
  left = left_in verdicts k;
  right = right_in verdicts k;
  tried = tried_in verdicts k;
}

-- ---- laws

pub answer_parts : (n p a r u : ℕ) → n < 2 ^ 8 → p < 2 ^ 16 → a < 2 ^ 12 → r < 2 ^ 12
    → (refusal_in (answer_with n p a r u) ≡ n) × (place_in (answer_with n p a r u) ≡ p)
    × (accepted_in (answer_with n p a r u) ≡ a) × (refuted_in (answer_with n p a r u) ≡ r) × (unjudged_in (answer_with n p a r u) ≡ u)
answer_parts n p a r u hn hp ha hr = (omega arith, omega arith, omega arith, omega arith, omega arith)
