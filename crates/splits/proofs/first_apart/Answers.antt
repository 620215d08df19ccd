use native.Mathlib.Omega.{arith}
use Rattle.curve.specs.Held.{steps_of}
use Rattle.search.specs.Break.{Searched}
use Rattle.splits.specs.Parts.{Whole, listed_over}
use Rattle.splits.specs.Apart.{apart_foldable}
use Rattle.splits.proofs.first_apart.Goals as goal

pub first_split-requires : goal.first_split-requires
unfolding listed_over
first_split-requires c =
    let a = c.args in
    let whole : Whole a.work.now = record { left_long = omega arith; right_long = omega arith; near_long = omega arith; last_long = omega arith; carried_long = omega arith } in
    let searched : Searched (steps_of a.f.held) (steps_of a.g.held) (steps_of a.h.held) a.tried = record { left = a.f.lent; right = a.g.lent; claimed = a.h.lent; within = c.requires.within } in
    rw (c.fill.ensures, c.fill-2.ensures) (apart_foldable searched c.requires.one_curve a.work.now whole)
