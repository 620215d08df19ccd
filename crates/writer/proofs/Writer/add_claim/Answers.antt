use Prim.Native.Nat.{ℕ, ◌+◌}
use mathlib.Core.Path.{◌≡◌}
use native.Mathlib.Omega.{arith}
use lib.ListN.{length}
use borrow.Author.Tests.{leb-false}
use Rattle.std.proofs.lemmas.Result.{err_from_is_err_and}
use Rattle.content.specs.declared.Statement.{Statement}
use Rattle.content.specs.Layout.{third_width, third_small}
use Rattle.field.specs.Steps.{max_claims, full, after}
use Rattle.writer.specs.Writing.{add_claim, call_field, argument_fault}
use Rattle.writer.specs.Held.{claim_size}
use Rattle.writer.proofs.Tests.{admits, refused_return, taken_return}
use Rattle.writer.proofs.Writer.add_claim.Goals as goal

-- by the width that the code asks for
size : (claim : Statement) {width : ℕ} → width ≡ third_width claim.kind → length (call_field (add_claim claim)) ≡ 6 + width
size claim e = rw e (claim_size claim)

pub overflow_add-size : goal.overflow_add-size
overflow_add-size c = omega (arith, c.third_width-size.ensures, third_small c.args.claim.kind)

pub returns-in_err-admitted : goal.returns-in_err-admitted
unfolding argument_fault
returns-in_err-admitted c =
    let call = add_claim c.args.claim in
    let told = refused_return call c.args.self.now c.args.out.now (size _ c.third_width-size.ensures) c.statement_fault-fault.ensures c.admitted.ensures _ c.in_err-admitted.was in
    let p = err_from_is_err_and c.from_residual.result c.from_residual.ensures.1 in
    record { value = rw (p.1, p.2) told.0; writer_after = told.1; out_after = told.2 }

pub put_claim-requires : goal.put_claim-requires
unfolding argument_fault
put_claim-requires c =
    let call = add_claim c.args.claim in
    (admits call c.args.self.now c.args.out.now (size _ c.third_width-size.ensures) c.statement_fault-fault.ensures c.admitted.ensures c.in_ok-admitted.was).fits

pub overflow_add-self : goal.overflow_add-self
unfolding full argument_fault
overflow_add-self c =
    let call = add_claim c.args.claim in
    let p = admits call c.args.self.now c.args.out.now (size _ c.third_width-size.ensures) c.statement_fault-fault.ensures c.admitted.ensures c.in_ok-admitted.was in
    omega (arith, leb-false max_claims c.args.self.now.state.claims p.few)

pub overflow_add-self-2 : goal.overflow_add-self-2
unfolding argument_fault
overflow_add-self-2 c =
    let call = add_claim c.args.claim in
    let p = admits call c.args.self.now c.args.out.now (size _ c.third_width-size.ensures) c.statement_fault-fault.ensures c.admitted.ensures c.in_ok-admitted.was in
    omega (arith, size c.args.claim c.third_width-size.ensures, p.fits)

pub returns : goal.returns
unfolding after argument_fault
returns c =
    let call = add_claim c.args.claim in
    let p = admits call c.args.self.now c.args.out.now (size _ c.third_width-size.ensures) c.statement_fault-fault.ensures c.admitted.ensures c.in_ok-admitted.was in
    let told = taken_return call c.args.self.now c.args.out.now (size _ c.third_width-size.ensures) c.statement_fault-fault.ensures c.admitted.ensures c.in_ok-admitted.was p.still_open c.put_claim.ensures in
    record { value = told.0; writer_after = told.1; out_after = told.2 }
