use mathlib.Core.Path.{◌≡◌}
use Rattle.judge.specs.Answer.{tick_in, left_in, right_in}
use Rattle.report.specs.Lines.{words_of, words_read}
use Rattle.report.proofs.verdict_words.Goals as goal

pub returns-in-Accepted-clause-wrote : goal.returns-in-Accepted-clause-wrote
unfolding words_of
returns-in-Accepted-clause-wrote c =
    rw (words_read c.args.verdicts.now c.args.k c.number.ensures.value c.try_from-code.ensures c.in-Accepted.ensures) c.put_words.ensures

pub returns-in-RefutedAt-clause-wrote : goal.returns-in-RefutedAt-clause-wrote
unfolding words_of
returns-in-RefutedAt-clause-wrote c =
    let tick : c.number-in-RefutedAt.result ≡ tick_in c.args.verdicts.now c.args.k = c.number-in-RefutedAt.ensures.value in
    let left : c.number-in-RefutedAt-2.result ≡ left_in c.args.verdicts.now c.args.k = c.number-in-RefutedAt-2.ensures.value in
    let right : c.number-in-RefutedAt-3.result ≡ right_in c.args.verdicts.now c.args.k = c.number-in-RefutedAt-3.ensures.value in
    rw (words_read c.args.verdicts.now c.args.k c.number.ensures.value c.try_from-code.ensures c.in-RefutedAt.ensures, ← tick, ← left, ← right) c.refuted_at.ensures.wrote

pub returns-in-RefutedByRate-clause-wrote : goal.returns-in-RefutedByRate-clause-wrote
unfolding words_of
returns-in-RefutedByRate-clause-wrote c =
    rw (words_read c.args.verdicts.now c.args.k c.number.ensures.value c.try_from-code.ensures c.in-RefutedByRate.ensures) c.put_words-in-RefutedByRate.ensures

pub returns-in-NotLeast-clause-wrote : goal.returns-in-NotLeast-clause-wrote
unfolding words_of
returns-in-NotLeast-clause-wrote c =
    rw (words_read c.args.verdicts.now c.args.k c.number.ensures.value c.try_from-code.ensures c.in-NotLeast.ensures) c.put_words-in-NotLeast.ensures

pub returns-in-NotJudged-clause-wrote : goal.returns-in-NotJudged-clause-wrote
unfolding words_of
returns-in-NotJudged-clause-wrote c =
    rw (words_read c.args.verdicts.now c.args.k c.number.ensures.value c.try_from-code.ensures c.in-NotJudged.ensures) c.put_words-in-NotJudged.ensures
