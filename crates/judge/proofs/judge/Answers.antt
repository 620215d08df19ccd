use mathlib.Core.Path.{◌≡◌, refl, sym, subst, ◌∙◌}
use mathlib.Core.Bool.{Bool, true, false}
use mathlib.Core.List.{List}
use Prim.Native.Nat.{ℕ, ◌*◌, ◌≤◌}
use native.Mathlib.Omega.{arith}
use lib.Dec.{ltb}
use lib.ListN.{length}
use Rattle.std.specs.Prelude.{Result, Ok, Err}
use Rattle.content.specs.declared.Refusal.TheVariants.{NoRoom}
use Rattle.field.specs.declared.Refused.{Refused}
use Rattle.book.specs.Reading.{Read, sound, refused, max_bytes, read_book}
use Rattle.book.specs.Sound.{refused_inside}
use Rattle.judge.specs.declared.Totals.{Totals}
use Rattle.judge.specs.Answer.{record_size}
use Rattle.judge.specs.Totals.{Countable}
use Rattle.judge.specs.Run.{admitted_on, answer_word, outcome_of, outcome_on}
use Rattle.judge.specs.Held.{sound_countable}
use Rattle.judge.proofs.judge.Goals as goal

-- what is asked of an outcome for its number
abbrev Bounded : Result Totals Refused → Type 0
Bounded (Ok t) = Countable t
Bounded (Err r) = r.place ≤ max_bytes

outcome_bounded : (s b : List ℕ) → Bounded (outcome_of s b)
unfolding outcome_of
outcome_bounded s b = go (read_book s) refl
  where
    go : (r : Read) → read_book s ≡ r → Bounded (outcome_on s (admitted_on r (length b)))
    go (refused x p) e = (refused_inside s x p e).1
    go (sound c) e = by_room (ltb (length b) (record_size * length c.claims))
      where
        by_room : (short : Bool) → Bounded (outcome_on s (elim short as (λ _. Read) [ true ↦ refused NoRoom 0 | false ↦ sound c ]))
        by_room true = omega arith
        by_room false = rw e at (sound_countable s c e)

pub word-requires : goal.word-requires
word-requires c = subst Bounded (sym c.in-Ok.ensures.value) (outcome_bounded c.args.book.now c.args.verdicts.now)

pub returns-in-Ok : goal.returns-in-Ok
returns-in-Ok c = record {
  value = rw (answer_word c.args.book.now c.args.verdicts.now, ← c.in-Ok.ensures.value) c.word.ensures;
  verdicts_after = c.judged.ensures.verdicts_after;
}

pub returns-in-Err : goal.returns-in-Err
returns-in-Err c =
    let near : c.in-Err.refused.place ≤ max_bytes = subst Bounded (sym c.in-Err.ensures.value) (outcome_bounded c.args.book.now c.args.verdicts.now) in
    record {
      value = rw (answer_word c.args.book.now c.args.verdicts.now, ← c.in-Err.ensures.value) (c.word-in-Err.ensures ∙ omega (arith, near));
      verdicts_after = c.judged.ensures.verdicts_after;
    }
