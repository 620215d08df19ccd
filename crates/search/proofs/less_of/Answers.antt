use native.Mathlib.Omega.{arith}
use borrow.Author.Tests.{eq-eqb, ne_eqb}
use Rattle.search.specs.Break.{less_of}
use Rattle.search.proofs.less_of.Goals as goal

pub returns-in_err-less-in-Delay : goal.returns-in_err-less-in-Delay
unfolding less_of
returns-in_err-less-in-Delay c = rw (c.from_residual.ensures, c.in-Delay.is, eq-eqb c.in-Delay.x.0 0 (omega (arith, c.in_err-less-in-Delay.ensures)), less_of)

pub returns-in_err-less-in-Backlog : goal.returns-in_err-less-in-Backlog
unfolding less_of
returns-in_err-less-in-Backlog c =
    rw (c.from_residual-in_err-less-in-Backlog.ensures, c.in-Backlog.is, eq-eqb c.in-Backlog.x.0 0 (omega (arith, c.in_err-less-in-Backlog.ensures)), less_of)

pub returns-in_ok-less-in-Delay : goal.returns-in_ok-less-in-Delay
unfolding less_of
returns-in_ok-less-in-Delay c =
    let less = c.in_ok-less-in-Delay.ensures in
    rw (c.in-Delay.is, less.1, ne_eqb c.in-Delay.x.0 0 (λ e. omega (arith, e, less.0)), less_of)

pub returns-in_ok-less-in-Backlog : goal.returns-in_ok-less-in-Backlog
unfolding less_of
returns-in_ok-less-in-Backlog c =
    let less = c.in_ok-less-in-Backlog.ensures in
    rw (c.in-Backlog.is, less.1, ne_eqb c.in-Backlog.x.0 0 (λ e. omega (arith, e, less.0)), less_of)
