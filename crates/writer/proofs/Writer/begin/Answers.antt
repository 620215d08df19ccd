use mathlib.Core.Path.{refl}
use native.Mathlib.Omega.{arith}
use Rattle.std.proofs.lemmas.Result.{err_from_is_err_and}
use Rattle.field.specs.Steps.{after}
use Rattle.writer.specs.Writing.{begin, argument_fault}
use Rattle.writer.specs.Held.{version_size}
use Rattle.writer.proofs.Tests.{admits, refused_return, taken_return}
use Rattle.writer.proofs.Writer.begin.Goals as goal

pub returns-in_err-admitted : goal.returns-in_err-admitted
unfolding argument_fault
returns-in_err-admitted c =
    let told = refused_return (begin 1) c.args.self.now c.args.out.now (version_size 1) refl c.admitted.ensures _ c.in_err-admitted.was in
    let p = err_from_is_err_and c.from_residual.result c.from_residual.ensures.1 in
    record { value = rw (p.1, p.2) told.0; writer_after = told.1; out_after = told.2 }

pub put_version-requires : goal.put_version-requires
unfolding argument_fault
put_version-requires c = (admits (begin 1) c.args.self.now c.args.out.now (version_size 1) refl c.admitted.ensures c.in_ok-admitted.was).fits

pub overflow_add-self : goal.overflow_add-self
unfolding argument_fault
overflow_add-self c =
    let p = admits (begin 1) c.args.self.now c.args.out.now (version_size 1) refl c.admitted.ensures c.in_ok-admitted.was in
    omega (arith, version_size 1, p.fits)

pub returns : goal.returns
unfolding after argument_fault
returns c =
    let p = admits (begin 1) c.args.self.now c.args.out.now (version_size 1) refl c.admitted.ensures c.in_ok-admitted.was in
    let told = taken_return (begin 1) c.args.self.now c.args.out.now (version_size 1) refl c.admitted.ensures c.in_ok-admitted.was p.still_open c.put_version.ensures in
    record { value = told.0; writer_after = told.1; out_after = told.2 }
