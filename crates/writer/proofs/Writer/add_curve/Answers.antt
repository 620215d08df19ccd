use native.Mathlib.Omega.{arith}
use borrow.Author.Tests.{leb-false}
use Rattle.std.proofs.lemmas.Result.{err_from_is_err_and}
use Rattle.content.specs.Layout.{listed_of}
use Rattle.field.specs.Steps.{max_curves, full, after}
use Rattle.writer.specs.Writing.{add_curve, argument_fault}
use Rattle.writer.specs.Held.{curve_size}
use Rattle.writer.proofs.Tests.{admits, refused_return, taken_return}
use Rattle.writer.proofs.Writer.add_curve.Goals as goal

pub returns-in_err-admitted : goal.returns-in_err-admitted
unfolding argument_fault
returns-in_err-admitted c =
    let call = add_curve (listed_of c.args.curve) in
    let told = refused_return call c.args.self.now c.args.out.now (curve_size _) c.listed_fault-fault.ensures c.admitted.ensures _ c.in_err-admitted.was in
    let p = err_from_is_err_and c.from_residual.result c.from_residual.ensures.1 in
    record { value = rw (p.1, p.2) told.0; writer_after = told.1; out_after = told.2 }

pub put_curve-requires : goal.put_curve-requires
unfolding argument_fault
put_curve-requires c =
    let call = add_curve (listed_of c.args.curve) in
    (admits call c.args.self.now c.args.out.now (curve_size _) c.listed_fault-fault.ensures c.admitted.ensures c.in_ok-admitted.was).fits

pub overflow_add-self : goal.overflow_add-self
unfolding full argument_fault
overflow_add-self c =
    let call = add_curve (listed_of c.args.curve) in
    let p = admits call c.args.self.now c.args.out.now (curve_size _) c.listed_fault-fault.ensures c.admitted.ensures c.in_ok-admitted.was in
    omega (arith, leb-false max_curves c.args.self.now.state.curves p.few)

pub overflow_add-self-2 : goal.overflow_add-self-2
unfolding argument_fault
overflow_add-self-2 c =
    let call = add_curve (listed_of c.args.curve) in
    let p = admits call c.args.self.now c.args.out.now (curve_size _) c.listed_fault-fault.ensures c.admitted.ensures c.in_ok-admitted.was in
    omega (arith, curve_size (listed_of c.args.curve), p.fits)

pub returns : goal.returns
unfolding after argument_fault
returns c =
    let call = add_curve (listed_of c.args.curve) in
    let p = admits call c.args.self.now c.args.out.now (curve_size _) c.listed_fault-fault.ensures c.admitted.ensures c.in_ok-admitted.was in
    let told = taken_return call c.args.self.now c.args.out.now (curve_size _) c.listed_fault-fault.ensures c.admitted.ensures c.in_ok-admitted.was p.still_open c.put_curve.ensures in
    record { value = told.0; writer_after = told.1; out_after = told.2 }
