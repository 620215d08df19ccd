-- The run over a book: its answer and the lent bytes afterwards. Document 01: "it hands over a book and a verdict
-- buffer and gets back the refusal or the totals, as one 64-bit number: refusal number + 2^8 * place + 2^24 *
-- accepted + 2^36 * refuted + 2^48 * not judged"; "Last, 14: a sound book has more claims than the lent buffer has room
-- for [..], place 0. A refusal gives number and place with all totals 0 and writes nothing. On success number and place
-- are 0, the first [..] bytes per claim are written and the rest stays." Document 02, A3: "Refusal 14 and the unwritten
-- rest of the buffer are now reckoned with 23."
--
--     claim_at s c k       claim k of a sound book; record_at, verdict_at, code_at: the record on it, its verdict and
--                          its code
--     admitted s room      what a book is to a buffer of so many bytes: sound, or refused for itself or for want of
--                          room (admitted_on); Room: there is enough
--     outcome_of s b       the totals, or the refusal with its place, by outcome_on
--     answer_of s b        the answer, by answer_on: refused_word, or the totals (totals_on)
--     buffer_of s b        the lent buffer afterwards, by buffer_on
--     answer_word          the answer is the outcome in one number, by word_of
--     run_refused, run_short, run_sound     both, by what the book is and whether the buffer has room
use Rattle.std.specs.Prelude.{ℕ, ◌*◌, ◌≤◌, ◌<◌, ◌≡◌, true, false, List, length, get_or, ltb, Result, Ok, Err}
use Rattle.std.proofs.Math.Path.{refl, sym, ap}
use Rattle.std.proofs.Common.{◌∙◌}
use Rattle.std.proofs.Math.Option.{Option}
use borrow.Author.Tests.{lt-ltb, le-ltb}
use Rattle.minplus.specs.Claim.{Claim}
use Rattle.minplus.specs.Verdict.{Record, Verdict}
use Rattle.numbers.specs.Put.{put}
use Rattle.content.specs.declared.Refusal.{Refusal}
use Rattle.content.specs.declared.Refusal.TheVariants.{NoRoom}
use Rattle.content.specs.Refusals.{number_of}
use Rattle.book.specs.Reading.{Contents, Read, sound, refused, read_book}
use Rattle.field.specs.declared.Refused.{Refused}
use Rattle.judge.specs.declared.Totals.{Totals}
use Rattle.judge.specs.Claims.{claim_read, record_for, verdict_for}
use Rattle.judge.specs.Answer.{answer_with, record_size}
use Rattle.judge.specs.Records.{records_to}
use Rattle.judge.specs.Totals.{totals_to, totals_word}

unfoldable pub claim_at : List ℕ → Contents → ℕ → Option Claim
unfolding claim_read
claim_at s c k = claim_read s c.curves (length c.curves) (get_or c.claims k 0)

unfoldable pub verdict_at : List ℕ → Contents → ℕ → Verdict
unfolding claim_at verdict_for
verdict_at s c k = verdict_for (claim_at s c k)

abbrev pub record_at : List ℕ → Contents → ℕ → Record
record_at s c k = record_for (claim_at s c k)

abbrev pub code_at : List ℕ → Contents → ℕ → ℕ
code_at s c k = (record_at s c k).code

unfoldable pub admitted_on : Read → ℕ → Read
admitted_on (refused x p) room = refused x p
admitted_on (sound c) room = elim (ltb room (record_size * length c.claims)) [ true ↦ refused NoRoom 0 | false ↦ sound c ]

unfoldable pub admitted : List ℕ → ℕ → Read
unfolding read_book admitted_on
admitted s room = admitted_on (read_book s) room

-- "a refusal gives .. all totals 0"
unfoldable pub totals_on : List ℕ → Read → Totals
unfolding totals_to claim_at record_for
totals_on s (refused x p) = record { accepted = 0; refuted = 0; unjudged = 0 }
totals_on s (sound c) = totals_to (code_at s c) (length c.claims)

abbrev pub refused_word : Refusal → ℕ → ℕ
refused_word x p = answer_with (number_of x) p 0 0 0

unfoldable pub answer_on : List ℕ → Read → ℕ
unfolding totals_on
answer_on s (refused x p) = refused_word x p
answer_on s (sound c) = totals_word (totals_on s (sound c))

unfoldable pub buffer_on : List ℕ → List ℕ → Read → List ℕ
unfolding put records_to claim_at record_for
buffer_on s b (refused x p) = b
buffer_on s b (sound c) = put b 0 (records_to (record_at s c) (length c.claims))

unfoldable pub outcome_on : List ℕ → Read → Result Totals Refused
unfolding totals_on
outcome_on s (refused x p) = Err (record { refusal = x; place = p })
outcome_on s (sound c) = Ok (totals_on s (sound c))

abbrev pub word_of : Result Totals Refused → ℕ
word_of (Ok t) = totals_word t
word_of (Err r) = refused_word r.refusal r.place

unfoldable pub outcome_of : List ℕ → List ℕ → Result Totals Refused
unfolding outcome_on admitted
outcome_of s b = outcome_on s (admitted s (length b))

unfoldable pub answer_of : List ℕ → List ℕ → ℕ
unfolding answer_on admitted
answer_of s b = answer_on s (admitted s (length b))

unfoldable pub buffer_of : List ℕ → List ℕ → List ℕ
unfolding buffer_on admitted
buffer_of s b = buffer_on s b (admitted s (length b))

-- ---- laws

pub answer_word : (s b : List ℕ) → answer_of s b ≡ word_of (outcome_of s b)
unfolding answer_of outcome_of
answer_word s b = go (admitted s (length b))
  where
    go : (r : Read) → answer_on s r ≡ word_of (outcome_on s r)
    go (refused x p) = refl
    go (sound c) = refl

-- a buffer with room for the records of a sound book, and one without
abbrev pub Room : List ℕ → Contents → Type 0
Room b c = record_size * length c.claims ≤ length b

module _ (s b : List ℕ) where
  pub run_refused : (x : Refusal) (p : ℕ) → read_book s ≡ refused x p
      → (answer_of s b ≡ refused_word x p) × (buffer_of s b ≡ b) × (outcome_of s b ≡ Err (record { refusal = x; place = p }))
  unfolding answer_of buffer_of outcome_of
  run_refused x p e =
      let so : admitted s (length b) ≡ refused x p = rw e in
      (ap (answer_on s) so, ap (buffer_on s b) so, ap (outcome_on s) so)

  module _ (c : Contents) (e : read_book s ≡ sound c) where
    pub run_short : length b < record_size * length c.claims
        → (answer_of s b ≡ refused_word NoRoom 0) × (buffer_of s b ≡ b) × (outcome_of s b ≡ Err (record { refusal = NoRoom; place = 0 }))
    unfolding answer_of buffer_of outcome_of
    run_short short =
        let so : admitted s (length b) ≡ refused NoRoom 0 = rw (e, lt-ltb _ _ short, admitted_on) in
        (ap (answer_on s) so, ap (buffer_on s b) so, ap (outcome_on s) so)

    pub run_sound : Room b c
        → (answer_of s b ≡ totals_word (totals_on s (read_book s))) × (buffer_of s b ≡ buffer_on s b (read_book s)) × (outcome_of s b ≡ Ok (totals_on s (read_book s)))
    unfolding answer_of buffer_of outcome_of
    run_sound room =
        let so : admitted s (length b) ≡ read_book s = rw (e, le-ltb _ _ room, admitted_on) in (
          ap (answer_on s) so ∙ ap (answer_on s) e ∙ sym (ap (λ (r : Read). totals_word (totals_on s r)) e),
          ap (buffer_on s b) so,
          ap (outcome_on s) so ∙ ap (outcome_on s) e ∙ sym (ap (λ (r : Read). Ok (totals_on s r)) e),
        )
