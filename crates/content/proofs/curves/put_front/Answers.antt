use Rattle.std.specs.Prelude.{ℕ, ◌≡◌, ◌+◌, min, length, get_or, set}
use Rattle.std.proofs.Common.{sym, ap, ◌∙◌, arith, add-one}
use Rattle.std.proofs.Math.Seq.{paste, paste-zero, paste-suc}
use Rattle.content.proofs.curves.put_front.Goals as goal

pub loop-n-init : goal.loop-n-init
loop-n-init c = paste-zero c.args.out.now 0 c.args.from.now

pub loop-n-preserved : goal.loop-n-preserved
loop-n-preserved c =
    let a = c.args in
    let l = c.loop-n in
    let at : 0 + l.n ≡ l.n = omega arith in
    rw (l.invariant, add-one l.n)
    (ap (λ (k : ℕ). set (paste a.out.now 0 a.from.now l.n) k (get_or a.from.now l.n 0)) (sym at)
    ∙ paste-suc a.out.now 0 a.from.now l.n 0 (omega arith) (omega (arith, c.requires)))

pub returns : goal.returns
returns c =
    let a = c.args in
    let all : c.loop-n.n ≡ min a.count (length a.out.now) = omega arith in
    c.loop-n.invariant ∙ ap (paste a.out.now 0 a.from.now) all
