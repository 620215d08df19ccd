use Rattle.std.proofs.Common.{◌≡◌, length, ap, ◌∙◌}
use Rattle.std.proofs.Math.Path.{ap₂}
use Rattle.judge.specs.Run.{answer_of, buffer_of}
use Rattle.numbers.specs.Put.{put}
use Rattle.report.specs.Lines.{report_in}
use Rattle.claimbook.specs.Answered.{blank, text_for}
use Rattle.claimbook.proofs.answered.Goals as goal

pub returns-clause-value : goal.returns-clause-value
unfolding text_for
returns-clause-value c =
    let answer : c.judge-answer.result ≡ answer_of c.args.book.now blank = c.judge-answer.ensures.value in
    let verdicts : c.judge-answer.new.verdicts ≡ buffer_of c.args.book.now blank = c.judge-answer.ensures.verdicts_after in
    c.report.ensures.value ∙ ap length (ap₂ (report_in (length c.args.text.now)) answer verdicts)

pub returns-clause-text_after : goal.returns-clause-text_after
unfolding text_for
returns-clause-text_after c =
    let answer : c.judge-answer.result ≡ answer_of c.args.book.now blank = c.judge-answer.ensures.value in
    let verdicts : c.judge-answer.new.verdicts ≡ buffer_of c.args.book.now blank = c.judge-answer.ensures.verdicts_after in
    c.report.ensures.out_after ∙ ap (put c.args.text.now 0) (ap₂ (report_in (length c.args.text.now)) answer verdicts)
