-- Document 01's lines for an answer of the judge and its verdict buffer.
--
--     part w n            words and the number after them; last_part: and the end of the line
--     claim_line, total_line, certified_line, refused_line     the lines; claim_lines: those of the first claims
--     verdict_words       a claim's line after `claim K`, by its record's numbers; words_in: by its record; refuted_at:
--                         code 2
--     words_of            the same by the code's enum (words_by, words_read)
--     report_of           the whole text
--     report_in           the same where the lent bytes have room for it, else nothing
--     max_line, max_words     the length of the longest line, and of the longest verdict_words
--     totals_in           the totals of an answer; TotalsFit: what they can be
--     refuted_short, total_short     how many digits the numbers of a line can have
--     report_short, report_refused, report_judged     report_in, by its tests
use Rattle.std.specs.Prelude.{ℕ, zero, suc, ◌+◌, ◌*◌, ◌^◌, ◌≤◌, ◌<◌, ◌≡◌, refl, cond, Bool, true, false, List, [], ◌++◌, length, ltb, eqb, Result, Ok, Err}
use Rattle.std.specs.Result.{result_unwrap_or}
use Rattle.verdict.specs.declared.Code.{Code}
use Rattle.verdict.specs.declared.Code.TheVariants as code
use Rattle.verdict.specs.declared.UnknownCode.{UnknownCode}
use Rattle.verdict.specs.Codes.{code_by}
use Prim.Native.String.{String}
use Rattle.std.proofs.Common.{sym, ap, ◌∙◌, arith}
use borrow.Author.Tests.{lt-ltb, le-ltb, eq-eqb, ne_eqb}
use Rattle.judge.specs.declared.Totals.{Totals}
use Rattle.judge.specs.Answer.{refusal_in, place_in, accepted_in, refuted_in, unjudged_in, claims_in, certified, code_in, tick_in, left_in, right_in}
use Rattle.report.specs.Text.{bytes, decimal, decimal_short}

-- where a line is opened its numbers stay shut
unfoldable pub part : String → ℕ → List ℕ
unfolding bytes
part words n = bytes words ++ decimal n

-- the last of a line
unfoldable last_part : String → ℕ → List ℕ
unfolding part bytes
last_part words n = part words n ++ bytes "\n"

-- "claim K refuted at N left V right W", after `claim K`
unfoldable pub refuted_at : ℕ → ℕ → ℕ → List ℕ
unfolding part last_part
refuted_at tick left right = part " refuted at " tick ++ part " left " left ++ last_part " right " right

-- the words after `claim K`, by the record's code: 5, and a code that no verdict has, are not judged
unfoldable pub verdict_words : ℕ → ℕ → ℕ → ℕ → List ℕ
unfolding bytes refuted_at
verdict_words code tick left right =
    cond (eqb code 1) (bytes " accepted\n")
    (cond (eqb code 2) (refuted_at tick left right)
    (cond (eqb code 3) (bytes " refuted by rate\n")
    (cond (eqb code 4) (bytes " refuted not least\n")
    (bytes " not judged\n"))))

abbrev pub words_in : List ℕ → ℕ → List ℕ
words_in verdicts k = verdict_words (code_in verdicts k) (tick_in verdicts k) (left_in verdicts k) (right_in verdicts k)

-- the same, by the code as the code's enum has it
unfoldable pub words_of : Code → ℕ → ℕ → ℕ → List ℕ
unfolding bytes refuted_at
words_of code.Accepted tick left right = bytes " accepted\n"
words_of code.RefutedAt tick left right = refuted_at tick left right
words_of code.RefutedByRate tick left right = bytes " refuted by rate\n"
words_of code.NotLeast tick left right = bytes " refuted not least\n"
words_of code.NotJudged tick left right = bytes " not judged\n"

unfoldable pub claim_line : List ℕ → ℕ → List ℕ
unfolding part verdict_words
claim_line verdicts k = part "claim " k ++ words_in verdicts k

unfoldable pub claim_lines : List ℕ → ℕ → List ℕ
unfolding claim_line
claim_lines verdicts zero = []
claim_lines verdicts (suc k) = claim_lines verdicts k ++ claim_line verdicts k

unfoldable pub total_line : ℕ → ℕ → ℕ → List ℕ
unfolding part last_part
total_line accepted refuted unjudged =
    part "total " (accepted + refuted + unjudged) ++ part " accepted " accepted ++ part " refuted " refuted ++ last_part " unjudged " unjudged

-- "yes exactly when there is at least one claim and all are accepted"
unfoldable pub certified_line : ℕ → ℕ → List ℕ
unfolding bytes
certified_line claims accepted = cond (certified claims accepted) (bytes "certified yes\n") (bytes "certified no\n")

unfoldable pub refused_line : ℕ → ℕ → List ℕ
unfolding part last_part
refused_line refusal place = part "refused " refusal ++ last_part " at " place

unfoldable pub report_of : ℕ → List ℕ → List ℕ
unfolding claim_lines total_line certified_line refused_line
report_of answer verdicts =
    cond (eqb (refusal_in answer) 0)
    (claim_lines verdicts (claims_in answer)
    ++ total_line (accepted_in answer) (refuted_in answer) (unjudged_in answer)
    ++ certified_line (claims_in answer) (accepted_in answer))
    (refused_line (refusal_in answer) (place_in answer))

-- `claim K refuted at N left V right W` with K of 5 digits, N of 10, V and W of 20
abbrev pub max_line : ℕ
max_line = 87

abbrev pub max_words : ℕ
max_words = 76

unfoldable pub report_in : ℕ → ℕ → List ℕ → List ℕ
unfolding report_of
report_in room answer verdicts = cond (ltb room (max_line * (claims_in answer + 2))) [] (report_of answer verdicts)

abbrev pub totals_in : ℕ → Totals
totals_in answer = record { accepted = accepted_in answer; refuted = refuted_in answer; unjudged = unjudged_in answer }

-- the totals of any answer of 64 bits
pub record TotalsFit (accepted refuted unjudged : ℕ) : Type 0 where
  pub few_accepted : accepted < 2 ^ 12
  pub few_refuted : refuted < 2 ^ 12
  pub few_unjudged : unjudged < 2 ^ 16

-- ---- laws

-- how many digits the numbers of a line can have
pub refuted_short : (tick left right : ℕ) → tick < 2 ^ 32 → left < 2 ^ 64 → right < 2 ^ 64
    → (length (decimal tick) ≤ 10) × (length (decimal left) ≤ 20) × (length (decimal right) ≤ 20)
refuted_short tick left right lt lt' lt'' = (decimal_short 9 tick (omega (arith, lt)), decimal_short 19 left (omega (arith, lt')), decimal_short 19 right (omega (arith, lt'')))

pub total_short : {accepted refuted unjudged : ℕ} → TotalsFit accepted refuted unjudged
    → (length (decimal (accepted + refuted + unjudged)) ≤ 5) × (length (decimal accepted) ≤ 4) × (length (decimal refuted) ≤ 4) × (length (decimal unjudged) ≤ 5)
total_short {accepted} {refuted} {unjudged} few = (
  decimal_short 4 (accepted + refuted + unjudged) (omega arith),
  decimal_short 3 accepted (omega arith),
  decimal_short 3 refuted (omega arith),
  decimal_short 4 unjudged (omega arith),
)

-- what is no code reads as the last one
pub words_by : (n tick left right : ℕ) → verdict_words n tick left right ≡ words_of (result_unwrap_or (code_by n) code.NotJudged) tick left right
unfolding verdict_words code_by words_of
words_by n tick left right = go (eqb n 1) (eqb n 2) (eqb n 3) (eqb n 4) (eqb n 5)
  where
    go : (is-1 is-2 is-3 is-4 is-5 : Bool)
        → cond is-1 (bytes " accepted\n") (cond is-2 (refuted_at tick left right) (cond is-3 (bytes " refuted by rate\n") (cond is-4 (bytes " refuted not least\n") (bytes " not judged\n"))))
        ≡ words_of (result_unwrap_or (elim is-1 as (λ _. Result Code UnknownCode) [
          | true ↦ Ok code.Accepted
          | false ↦ elim is-2 as (λ _. Result Code UnknownCode) [
            | true ↦ Ok code.RefutedAt
            | false ↦ elim is-3 as (λ _. Result Code UnknownCode) [
              | true ↦ Ok code.RefutedByRate
              | false ↦
                  elim is-4 as (λ _. Result Code UnknownCode) [ true ↦ Ok code.NotLeast | false ↦ elim is-5 as (λ _. Result Code UnknownCode) [ true ↦ Ok code.NotJudged | false ↦ Err (record {}) ] ]
            ]
          ]
        ]) code.NotJudged) tick left right
    go true b c d e = refl
    go false true c d e = refl
    go false false true d e = refl
    go false false false true e = refl
    go false false false false true = refl
    go false false false false false = refl

-- the words of a record, by the code that its first byte is read as
pub words_read : (verdicts : List ℕ) (k : ℕ) {n : ℕ} {read : Result Code UnknownCode} {c : Code}
    → n ≡ code_in verdicts k → read ≡ code_by n → c ≡ result_unwrap_or read code.NotJudged
    → words_in verdicts k ≡ words_of c (tick_in verdicts k) (left_in verdicts k) (right_in verdicts k)
words_read verdicts k {read = read} e e' e'' =
    let is : read ≡ code_by (code_in verdicts k) = e' ∙ ap code_by e in
    words_by (code_in verdicts k) (tick_in verdicts k) (left_in verdicts k) (right_in verdicts k)
    ∙ ap (λ (c : Code). words_of c (tick_in verdicts k) (left_in verdicts k) (right_in verdicts k))
    (sym (e'' ∙ ap (λ (r : Result Code UnknownCode). result_unwrap_or r code.NotJudged) is))

module _ (room answer : ℕ) (verdicts : List ℕ) where
  pub report_short : room < max_line * (claims_in answer + 2) → report_in room answer verdicts ≡ []
  unfolding report_in
  report_short short = rw (lt-ltb _ _ short, report_in)

  module _ (roomy : max_line * (claims_in answer + 2) ≤ room) where
    pub report_refused : (refusal_in answer ≡ 0 → ⊥) → report_in room answer verdicts ≡ refused_line (refusal_in answer) (place_in answer)
    unfolding report_in
    report_refused refused = rw (le-ltb _ _ roomy, ne_eqb _ _ refused, report_in)

    pub report_judged : refusal_in answer ≡ 0
        → report_in room answer verdicts
        ≡ claim_lines verdicts (claims_in answer) ++ total_line (accepted_in answer) (refuted_in answer) (unjudged_in answer) ++ certified_line (claims_in answer) (accepted_in answer)
    unfolding report_in
    report_judged judged = rw (le-ltb _ _ roomy, eq-eqb _ _ judged, report_in)
