-- The numbers of the codes.
--
--     number_of     a code's number in its record
--     code_by       the code of a number, or none
--     code_back     of a code's own number it is that code
use Rattle.std.specs.Prelude.{ℕ, ◌≡◌, refl, true, false, eqb, Result, Ok, Err}
use Rattle.verdict.specs.declared.Code.{Code}
use Rattle.verdict.specs.declared.Code.TheVariants.{Accepted, RefutedAt, RefutedByRate, NotLeast, NotJudged}
use Rattle.verdict.specs.declared.UnknownCode.{UnknownCode}

abbrev pub number_of : Code → ℕ
number_of Accepted = 1
number_of RefutedAt = 2
number_of RefutedByRate = 3
number_of NotLeast = 4
number_of NotJudged = 5

unfoldable pub code_by : ℕ → Result Code UnknownCode
code_by n =
    elim (eqb n 1) [
      | true ↦ Ok Accepted
      | false ↦ elim (eqb n 2) [
        | true ↦ Ok RefutedAt
        | false ↦ elim (eqb n 3) [ true ↦ Ok RefutedByRate | false ↦ elim (eqb n 4) [ true ↦ Ok NotLeast | false ↦ elim (eqb n 5) [ true ↦ Ok NotJudged | false ↦ Err (record {}) ] ] ]
      ]
    ]

pub code_back : (c : Code) → code_by (number_of c) ≡ Ok c
unfolding code_by
code_back Accepted = refl
code_back RefutedAt = refl
code_back RefutedByRate = refl
code_back NotLeast = refl
code_back NotJudged = refl
