use mathlib.Core.Path.{◌≡◌, refl, sym, ap, ◌∙◌}
use native.Mathlib.Omega.{arith}
use lib.ListN.{length}
use Rattle.std.proofs.Common.{rules}
use Rattle.book.specs.declared.Book.{Book}
use Rattle.book.specs.Sound.{sound_book}
use Rattle.book.specs.Held.{read_refused, read_sound}
use Rattle.judge.specs.Run.{run_refused, run_short, run_sound}
use Rattle.judge.proofs.judged.Goals as goal

pub returns-in_err-sound : goal.returns-in_err-sound
returns-in_err-sound c =
    let book = c.args.book.now in
    let run = run_refused book c.args.verdicts.now _ _ (read_refused book c.in_err-sound.ensures refl) in
    record { value = rw run.2 (search rules); verdicts_after = sym run.1 }

pub overflow_mul-sound : goal.overflow_mul-sound
overflow_mul-sound c =
    let so = read_sound c.args.book.now c.in_ok-sound.ensures refl in
    let count : c.in_ok-sound.sound.claims ≡ length so.0.claims = ap (λ (x : Book). x.claims) so.2 in
    omega (arith, count, (sound_book _ _ so.1).claims-fit)

pub returns-then-verdicts-sound : goal.returns-then-verdicts-sound
returns-then-verdicts-sound c =
    let so = read_sound c.args.book.now c.in_ok-sound.ensures refl in
    let count : c.in_ok-sound.sound.claims ≡ length so.0.claims = ap (λ (x : Book). x.claims) so.2 in
    let run = run_short c.args.book.now c.args.verdicts.now so.0 so.1 (omega (arith, count, c.if-verdicts-sound.true)) in
    record { value = sym run.2; verdicts_after = sym run.1 }

pub run-requires : goal.run-requires
run-requires c =
    let so = read_sound c.args.book.now c.in_ok-sound.ensures refl in
    let count : c.in_ok-sound.sound.claims ≡ length so.0.claims = ap (λ (x : Book). x.claims) so.2 in
    record { contents = so.0; so = so.1; held = so.2; room = omega (arith, count, c.if-verdicts-sound.false) }

pub returns : goal.returns
returns c =
    let so = read_sound c.args.book.now c.in_ok-sound.ensures refl in
    let count : c.in_ok-sound.sound.claims ≡ length so.0.claims = ap (λ (x : Book). x.claims) so.2 in
    let run = run_sound c.args.book.now c.args.verdicts.now so.0 so.1 (omega (arith, count, c.if-verdicts-sound.false)) in
    record { value = rw (run.2, c.run.ensures.value); verdicts_after = c.run.ensures.verdicts_after ∙ sym run.1 }
