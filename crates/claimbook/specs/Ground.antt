-- Document 01's book in full and the empty input, from their bytes to the lines.
--
--     w8_text             W8: "The program writes three lines"
--     empty_text          "An empty input is refusal 1 at 0."
use Rattle.std.specs.Prelude.{◌≡◌, refl, []}
use Rattle.minplus.specs.Claim.{kind_by}
use Rattle.curve.specs.Filled.{list_of}
use Rattle.numbers.specs.Numbers.{number_at}
use Rattle.field.specs.Fields.{tag_by}
use Rattle.content.specs.Refusals.{number_of}
use Rattle.book.specs.Ground.{w8}
use Rattle.judge.specs.Run.{answer_of, buffer_of}
use Rattle.report.specs.Text.{bytes, decimal}
use Rattle.claimbook.specs.Answered.{room, text_for}

pub w8_text : text_for room w8 ≡ bytes "claim 0 accepted\ntotal 1 accepted 1 refuted 0 unjudged 0\ncertified yes\n"
unfolding text_for answer_of buffer_of w8 tag_by kind_by number_at list_of decimal
w8_text = refl

pub empty_text : text_for room [] ≡ bytes "refused 1 at 0\n"
unfolding text_for answer_of buffer_of number_of decimal
empty_text = refl
