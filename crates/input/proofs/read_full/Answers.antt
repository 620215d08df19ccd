use Rattle.std.proofs.Common.{◌≡◌, ℕ, ◌+◌, ◌≤◌, List, ◌++◌, length, take, sym, ap, ◌∙◌, subst, arith, length-append, length-take-le}
use Rattle.std.proofs.KnownBytes.{Consumes-trans}
use Rattle.std.proofs.Math.Seq.{take-append-add}
use Rattle.std.proofs.lemmas.List.{take-append-le}
use Rattle.std.specs.Io.KnownBytes.{Consumes}
use Rattle.input.proofs.read_full.Goals as goal

-- n bytes more, of those that stand after the first i
front : (i n : ℕ) (xs ys zs : List ℕ) → i ≤ length xs → n ≤ length ys → take i xs ++ take n ys ≡ take (i + n) (take i xs ++ (ys ++ zs))
front i n xs ys zs le le' =
    let split : take (length (take i xs) + n) (take i xs ++ (ys ++ zs)) ≡ take i xs ++ take n (ys ++ zs) = take-append-add (take i xs) (ys ++ zs) n in
    let first : take n (ys ++ zs) ≡ take n ys = take-append-le n ys zs le' in
    sym (ap (λ (m : ℕ). take (m + n) (take i xs ++ (ys ++ zs))) (sym (length-take-le i xs le)) ∙ split ∙ ap (λ (t : List ℕ). take i xs ++ t) first)

pub loop-done-preserved : goal.loop-done-preserved
loop-done-preserved g c =
    let held = c.loop-done.invariant in
    let count = c.in_ok-n.ensures.bound in
    let taken = Consumes-trans _ _ _ _ _ held.1 c.in_ok-n.ensures.bytes.0 in (
      omega (arith, length-append {A = ℕ}, length-take-le c.loop-done.done c.loop-done.buf held.0, count.0),
      subst (Consumes (g.R.Read.remaining c.args.from.now) (g.R.Read.remaining c.read.new.self)) (front _ _ _ _ _ held.0 count.0) taken,
    )
