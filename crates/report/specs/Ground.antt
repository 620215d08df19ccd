-- Document 01's lines, by the definitions.
--
--     w8_lines          W8: "The program writes three lines"
--     empty_lines       "An empty input is refusal 1 at 0."
--     no_claims         a book with no claim
--     each_verdict      a claim of each verdict, one after the other: W8, W5, W12, W10, and one not judged
--     other_code        a code that no verdict has
--     longest_line      max_line is a line's length
use Rattle.std.specs.Prelude.{ℕ, ◌+◌, ◌-◌, ◌*◌, ◌^◌, ◌≡◌, refl, List, [], ◌∷◌, ◌++◌, length, replicate}
use Rattle.minplus.specs.Verdict.{Verdict, accepted, refuted_at, refuted_by_rate, not_least, not_judged, record_with}
use Rattle.numbers.specs.Numbers.{number_at}
use Rattle.judge.specs.Answer.{answer_with}
use Rattle.judge.specs.Records.{record_bytes}
use Rattle.report.specs.Text.{bytes, decimal}
use Rattle.report.specs.Lines.{part, verdict_words, claim_line, report_of, max_line}

-- with so many ticks tried, which no line says
abbrev record_on_lem : Verdict → ℕ → List ℕ
record_on_lem v count = record_bytes (record_with v count)

pub w8_lines : report_of (answer_with 0 0 1 0 0) (1 ∷ (replicate 21 0 ++ (3 ∷ []))) ≡ bytes "claim 0 accepted\ntotal 1 accepted 1 refuted 0 unjudged 0\ncertified yes\n"
unfolding report_of decimal number_at
w8_lines = refl

pub empty_lines : report_of (answer_with 1 0 0 0 0) [] ≡ bytes "refused 1 at 0\n"
unfolding report_of decimal
empty_lines = refl

pub no_claims : report_of (answer_with 0 0 0 0 0) [] ≡ bytes "total 0 accepted 0 refuted 0 unjudged 0\ncertified no\n"
unfolding report_of decimal
no_claims = refl

pub each_verdict : report_of (answer_with 0 0 1 3 1) (record_on_lem accepted 3 ++ record_on_lem (refuted_at 6 7 8) 7 ++ record_on_lem refuted_by_rate 3 ++ record_on_lem not_least 3 ++ record_on_lem not_judged 0)
    ≡ bytes "claim 0 accepted\nclaim 1 refuted at 6 left 7 right 8\nclaim 2 refuted by rate\nclaim 3 refuted not least\nclaim 4 not judged\n"
    ++ bytes "total 5 accepted 1 refuted 3 unjudged 1\ncertified no\n"
unfolding report_of decimal number_at record_bytes record_with
each_verdict = refl

pub other_code : claim_line (record_on_lem accepted 3 ++ record_bytes (record { code = 6; tick = 0; left = 0; right = 0; tried = 0 })) 1 ≡ bytes "claim 1 not judged\n"
unfolding claim_line decimal number_at record_bytes record_with
other_code = refl

pub longest_line : length (part "claim " (2 * (2 ^ 12 - 1) + (2 ^ 16 - 1) - 1) ++ verdict_words 2 (2 ^ 32 - 1) (2 ^ 64 - 1) (2 ^ 64 - 1)) ≡ max_line
unfolding part verdict_words decimal
longest_line = refl
