-- What the program writes for a book.
--
--     blank               the verdict buffer before the judge is called: room for 256 records
--     room                the bytes that the lines are written into
--     text_for n book     document 01's lines for the book, where n bytes have room for them
--     said, verdict_line  a verdict as document 01's words, and the line of claim k; verdict_lines: those of the first
--                         claims
--     text_refused        a refused book: its refusal's number and its place, on one line
--     said-so, roomy      the words are those of the claim's record; the lines have room
--
-- The law of a sound book, text_judged, stands in proofs/Texts.antt. Any book is refused or sound: `inspected` of the
-- judge.
use Prim.Native.Nat.{ℕ, zero, suc, ◌+◌, ◌*◌, ◌≤◌}
use Rattle.std.specs.Prelude.{◌≡◌, replicate}
use Rattle.std.proofs.Math.Path.{refl, ap₂}
use Rattle.std.proofs.Common.{◌∙◌, arith}
use mathlib.Core.List.{List, [], ◌++◌}
use Rattle.std.proofs.Math.Option.{Option, none, some}
use Rattle.minplus.specs.Claim.{Claim}
use Rattle.minplus.specs.Verdict.{Verdict, accepted, refuted_at, refuted_by_rate, not_least, not_judged, record_with, ticks_tried, verdict}
use Rattle.content.specs.Refusals.{number_of}
use Rattle.field.specs.Steps.{max_claims}
use Rattle.judge.specs.Answer.{claims_in, record_size}
use Rattle.judge.specs.Claims.{record_for, verdict_for}
use Rattle.judge.specs.Run.{answer_of, buffer_of}
use Rattle.judge.specs.Inspector.{Refused}
use Rattle.report.specs.Text.{bytes}
use Rattle.report.specs.Lines as lines
use Rattle.report.specs.Lines.{max_line, part, verdict_words, claim_line, claim_lines, total_line, certified_line, refused_line, report_in, report_refused}

abbrev pub blank : List ℕ
blank = replicate (record_size * max_claims) 0

-- a line for each claim and two more
abbrev pub room : ℕ
room = max_line * (max_claims + 2)

unfoldable pub text_for : ℕ → List ℕ → List ℕ
unfolding report_in
text_for n book = report_in n (answer_of book blank) (buffer_of book blank)

-- the words after `claim K`, by the verdict
unfoldable pub said : Verdict → List ℕ
unfolding bytes lines.refuted_at
said accepted = bytes " accepted\n"
said (refuted_at tick left right) = lines.refuted_at tick left right
said refuted_by_rate = bytes " refuted by rate\n"
said not_least = bytes " refuted not least\n"
said not_judged = bytes " not judged\n"

unfoldable pub verdict_line : ℕ → Verdict → List ℕ
unfolding part said
verdict_line k v = part "claim " k ++ said v

unfoldable pub verdict_lines : (ℕ → Verdict) → ℕ → List ℕ
unfolding verdict_line
verdict_lines f zero = []
verdict_lines f (suc k) = verdict_lines f k ++ verdict_line k (f k)

-- ---- laws

pub said-so : (o : Option Claim) → verdict_words (record_for o).code (record_for o).tick (record_for o).left (record_for o).right ≡ said (verdict_for o)
unfolding verdict_words said record_for verdict_for
said-so none = refl
said-so (some c) = go (verdict c) (ticks_tried c (verdict c))
  where
    go : (v : Verdict) (count : ℕ) → let r = record_with v count in verdict_words r.code r.tick r.left r.right ≡ said v
    go accepted count = refl
    go (refuted_at tick left right) count = refl
    go refuted_by_rate count = refl
    go not_least count = refl
    go not_judged count = refl

module _ (book : List ℕ) where
  -- where there are no more claims than a book may have, the lines have room
  pub roomy : (n : ℕ) → claims_in (answer_of book blank) ≡ n → n ≤ max_claims → max_line * (claims_in (answer_of book blank) + 2) ≤ room
  roomy n e few = rw e (omega (arith, few))

  pub text_refused : (w : Refused book blank (answer_of book blank) (buffer_of book blank)) → text_for room book ≡ refused_line (number_of w.refusal) w.place
  unfolding text_for
  text_refused w =
      let none = w.no_totals in
      report_refused room (answer_of book blank) (buffer_of book blank) (roomy 0 (λ i. none.0 i + none.1 i + none.2 i) (omega arith)) w.is_refusal
      ∙ ap₂ refused_line w.number_and_place.0 w.number_and_place.1
