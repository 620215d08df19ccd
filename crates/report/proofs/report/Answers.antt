use native.Mathlib.Omega.{arith}
use lib.ListN.{length}
use Rattle.numbers.specs.Written.{wrote_nothing, wrote_on}
use Rattle.report.specs.Written.{wrote_first}
use Rattle.report.specs.Lines.{report_short, report_refused, report_judged}
use Rattle.report.proofs.report.Goals as goal

pub returns-then-out-claims : goal.returns-then-out-claims
returns-then-out-claims c =
    let a = c.args in
    let s = a.out.now in
    let w = wrote_first (wrote_nothing s 0 (omega arith)) (report_short (length s) a.answer a.verdicts.now (rw c.totals_in-totals.ensures at c.if-out-claims.true)) in
    record { prefix_len = w.0; value = w.1.0; out_after = w.1.1 }

pub returns-then-refusal-ne0 : goal.returns-then-refusal-ne0
returns-then-refusal-ne0 c =
    let a = c.args in
    let w = wrote_first c.refused_line.ensures
    (report_refused (length a.out.now) a.answer a.verdicts.now (rw c.totals_in-totals.ensures at c.if-out-claims.false) c.if-refusal-ne0.true) in
    record { prefix_len = w.0; value = w.1.0; out_after = w.1.1 }

pub returns : goal.returns
returns c =
    let a = c.args in
    let w = wrote_first (wrote_on (wrote_on c.claim_lines-after_claims.ensures.wrote c.total_line-after_total.ensures.wrote) c.certified_line.ensures)
    (rw c.totals_in-totals.ensures (report_judged (length a.out.now) a.answer a.verdicts.now (rw c.totals_in-totals.ensures at c.if-out-claims.false) c.if-refusal-ne0.false)) in
    record { prefix_len = w.0; value = w.1.0; out_after = w.1.1 }
