use Prim.Native.Nat.{◌<◌}
use mathlib.Core.Path.{sym, ap, ◌∙◌, subst}
use native.Mathlib.Omega.{arith}
use lib.ListN.{length}
use borrow.Author.Tests.{lt-ltb}
use Rattle.std.specs.Prelude.{Ok}
use Rattle.curve.specs.Filled.{in_array}
use Rattle.field.specs.Steps.{max_curves, max_claims}
use Rattle.book.specs.declared.Book.{Book}
use Rattle.book.specs.Reading.{max_bytes, read_book}
use Rattle.book.specs.Held.{reading_of, Reads, held_book, reads_start, reads_refused, reads_end, reads_version, reads_curve, reads_claim, place_inside, curve_room, claim-room}
use Rattle.book.proofs.whole.read.Goals as goal
use Rattle.book.proofs.whole.read.Goals.{in-Version, in-Curve, in-Claim}

pub returns-then-book-gt-MAX_BYTES : goal.returns-then-book-gt-MAX_BYTES
unfolding read_book
returns-then-book-gt-MAX_BYTES c = rw (lt-ltb max_bytes (length c.args.book.now) (omega arith), read_book)

pub loop-taken-init : goal.loop-taken-init
unfolding in_array
loop-taken-init c = reads_start c.args.book.now (omega arith)

pub returns-in_default : goal.returns-in_default
returns-in_default c = ap reading_of (sym (reads_refused c.loop-taken.invariant (sym c.step-answer.ensures ∙ c.unwrap_err.ensures)))

pub offset_bounds-places-state : goal.offset_bounds-places-state
offset_bounds-places-state c =
    let room : c.loop-taken.state.curves < max_curves = curve_room c.loop-taken.invariant (sym c.step-answer.ensures ∙ c.in-Ok.is) c.in-Curve.is in
    omega (arith, room)

pub bounds-places-state : goal.bounds-places-state
bounds-places-state c = curve_room c.loop-taken.invariant (sym c.step-answer.ensures ∙ c.in-Ok.is) c.in-Curve.is

pub offset_bounds-places-state-in-Claim : goal.offset_bounds-places-state-in-Claim
offset_bounds-places-state-in-Claim c =
    let room : c.loop-taken.state.claims < max_claims = claim-room c.loop-taken.invariant (sym c.step-answer.ensures ∙ c.in-Ok.is) c.in-Claim.is in
    omega (arith, room)

pub bounds-places-state-in-Claim : goal.bounds-places-state-in-Claim
bounds-places-state-in-Claim c = claim-room c.loop-taken.invariant (sym c.step-answer.ensures ∙ c.in-Ok.is) c.in-Claim.is

pub returns-in-End : goal.returns-in-End
returns-in-End c =
    let reads = c.loop-taken.invariant in
    ap (λ (b : Book). Ok b) (held_book _ reads.curves reads.claims _ _ _ reads.curve_count reads.claim-count reads.held)
    ∙ ap reading_of (sym (reads_end reads (sym c.step-answer.ensures ∙ c.in-Ok.is) c.in-End.is))

pub loop-taken-smaller : goal.loop-taken-smaller
loop-taken-smaller c =
    let past = place_inside c.loop-taken.invariant (sym c.step-answer.ensures ∙ c.in-Ok.is) in
    omega (arith, past.0, past.1)

pub loop-taken-preserved : goal.loop-taken-preserved
loop-taken-preserved c =
    let reads = c.loop-taken.invariant in
    let taken = sym c.step-answer.ensures ∙ c.in-Ok.is in
    let on = Reads c.args.book.now c.in-Ok.taken.state in
    elim c.match-taken.branch as (λ _. on c.match-taken.places) [
      | in-Version w ↦ subst on (sym w.places-is) (reads_version reads taken w.in-Version.is)
      | in-Curve w ↦ subst on (sym w.places-is) (reads_curve reads taken w.in-Curve.is)
      | in-Claim w ↦ subst on (sym w.places-is) (reads_claim reads taken w.in-Claim.is)
    ]
