use mathlib.Core.Path.{refl}
use native.Mathlib.Omega.{arith}
use Rattle.std.proofs.lemmas.Result.{err_from_is_err_and}
use Rattle.field.specs.Steps.{after}
use Rattle.writer.specs.Writing.{close, argument_fault}
use Rattle.writer.specs.Held.{end_size}
use Rattle.writer.proofs.Tests.{admits, refused_return, taken_return}
use Rattle.writer.proofs.Writer.close.Goals as goal

pub returns-in_err-admitted : goal.returns-in_err-admitted
unfolding argument_fault
returns-in_err-admitted c =
    let told = refused_return close c.args.self.now c.args.out.now end_size refl c.admitted.ensures _ c.in_err-admitted.was in
    let p = err_from_is_err_and c.from_residual.result c.from_residual.ensures.1 in
    record { value = rw (p.1, p.2) told.0; writer_after = told.1; out_after = told.2 }

pub put_end-requires : goal.put_end-requires
unfolding argument_fault
put_end-requires c = (admits close c.args.self.now c.args.out.now end_size refl c.admitted.ensures c.in_ok-admitted.was).fits

pub overflow_add-self : goal.overflow_add-self
unfolding argument_fault
overflow_add-self c =
    let p = admits close c.args.self.now c.args.out.now end_size refl c.admitted.ensures c.in_ok-admitted.was in
    omega (arith, end_size, p.fits)

pub returns : goal.returns
unfolding after argument_fault
returns c =
    let told = taken_return close c.args.self.now c.args.out.now end_size refl c.admitted.ensures c.in_ok-admitted.was refl c.put_end.ensures in
    record { value = told.0; writer_after = told.1; out_after = told.2 }
