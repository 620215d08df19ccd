-- A sound book as the code runs over it.
--
--     Runs s book b              what the loop is given: a sound book as it is held, and a buffer with room for its
--                                records; curves_few, claims_few: its counts are within their limits
--     Ran s book b .. out totals k    where it stands after k claims; ran_none, ran_more, ran_all: as it begins, after
--                                one more, and at the end
--     countable, length-written     how much is counted and written then; sound_countable: of the whole book
--     claim_ready                what is known of the next claim
use Rattle.std.specs.Prelude.{ℕ, ◌+◌, ◌*◌, ◌≤◌, ◌<◌, ◌≡◌, refl, List, length, get_or}
use Rattle.std.proofs.Common.{sym, subst, ◌∙◌, arith}
use Rattle.std.proofs.Math.Path.{ap}
use Rattle.minplus.specs.Verdict.{Record}
use Rattle.curve.specs.declared.Curve.{Curve}
use Rattle.curve.specs.Filled.{array_at}
use Rattle.numbers.specs.Put.{put, put-nothing, length-put}
use Rattle.field.specs.Fields.{content_at}
use Rattle.content.specs.Refusals.{claim_field}
use Rattle.field.specs.Steps.{max_curves, max_claims}
use Rattle.book.specs.declared.Book.{Book}
use Rattle.book.specs.Reading.{Contents, sound, read_book}
use Rattle.book.specs.Held.{book_of}
use Rattle.book.specs.Sound.{SoundBook, sound_book}
use Rattle.judge.specs.declared.Totals.{Totals}
use Rattle.judge.specs.Answer.{record_size}
use Rattle.judge.specs.Claims.{StandsOver, claim_read, record_for, claim_array, stands_array, stands_over}
use Rattle.judge.specs.Records.{record_bytes, records_to, length_records, records_more}
use Rattle.judge.specs.Totals.{Countable, totals_to, counted, totals_more, totals_add_up}
use Rattle.judge.specs.Run.{claim_at, record_at, code_at, totals_on, buffer_on}
use Rattle.judge.specs.Kept.{ClaimReady, Kept, claim_kept, kept_claim, kept_ready}

pub record Runs (s : List ℕ) (book : Book) (b : List ℕ) : Type 0 where
  pub contents : Contents
  pub so : read_book s ≡ sound contents
  pub held : book ≡ book_of contents
  pub room : record_size * length contents.claims ≤ length b

-- where a run stands after k claims
pub record Ran (s : List ℕ) (book : Book) (b : List ℕ) (curves : List Curve) (out : List ℕ) (totals : Totals) (k : ℕ) : Type 0 where
  pub runs : Runs s book b
  pub count : length curves ≡ book.curves
  pub kept : Kept s book.places.curves curves (length curves)
  pub records : out ≡ put b 0 (records_to (record_at s runs.contents) k)
  pub counts : totals ≡ totals_to (code_at s runs.contents) k
  pub done : k ≤ length runs.contents.claims

-- ---- laws

module _ {s : List ℕ} {book : Book} {b : List ℕ} (runs : Runs s book b) where
  abbrev c : Contents
  c = runs.contents

  book_so : SoundBook s c
  book_so = sound_book s c runs.so

  claims_are : book.claims ≡ length c.claims
  claims_are = ap (λ (x : Book). x.claims) runs.held

  curves_are : book.curves ≡ length c.curves
  curves_are = ap (λ (x : Book). x.curves) runs.held

  pub curves_few : book.curves ≤ max_curves
  curves_few = omega (arith, curves_are, book_so.curves-fit)

  pub claims_few : book.claims ≤ max_claims
  claims_few = omega (arith, claims_are, book_so.claims-fit)

  pub ran_none : {curves : List Curve} → length curves ≡ book.curves → Kept s book.places.curves curves (length curves)
      → Ran s book b curves b (record { accepted = 0; refuted = 0; unjudged = 0 }) 0
  unfolding records_to totals_to
  ran_none count kept = record {
    runs = runs;
    count = count;
    kept = kept;
    records = sym (put-nothing b 0);
    counts = refl;
    done = omega arith;
  }

module _ {s : List ℕ} {book : Book} {b : List ℕ} {curves : List Curve} {out : List ℕ} {totals : Totals} {k : ℕ} (ran : Ran s book b curves out totals k) where
  abbrev d : Contents
  d = ran.runs.contents

  sound_so : SoundBook s d
  sound_so = book_so ran.runs

  -- no more are counted than there are claims
  pub countable : Countable totals
  countable = record { few = rw ran.counts (omega (arith, totals_add_up (claim_at s d) k, ran.done, sound_so.claims-fit)) }

  pub length-written : length out ≡ length b
  length-written = rw ran.records (length-put b 0 (records_to (record_at s d) k) (omega (arith, length_records (record_at s d) k, ran.done, ran.runs.room)))

  pub ran_all : book.claims ≤ k → (totals ≡ totals_on s (read_book s)) × (out ≡ buffer_on s b (read_book s))
  unfolding totals_on buffer_on
  ran_all all =
      let last : k ≡ length d.claims = omega (arith, all, claims_are ran.runs, ran.done) in
      (rw ran.runs.so (rw last at ran.counts), rw ran.runs.so (rw last at ran.records))

  -- the next claim
  module _ (next : k < book.claims) where
    here : k < length d.claims
    here = omega (arith, next, claims_are ran.runs)

    place_is : get_or book.places.claims k 0 ≡ get_or d.claims k 0
    place_is = ap (λ (x : Book). get_or x.places.claims k 0) ran.runs.held ∙ array_at max_claims d.claims k here

    count_is : length curves ≡ length d.curves
    count_is = ran.count ∙ curves_are ran.runs

    over : StandsOver s d.curves (length curves) (get_or book.places.claims k 0)
    over =
        subst (λ (n : ℕ). StandsOver s d.curves n (get_or book.places.claims k 0)) (sym count_is)
        (subst (StandsOver s d.curves (length d.curves)) (sym place_is) (stands_over s d sound_so k here))

    stands_held : StandsOver s book.places.curves (length curves) (get_or book.places.claims k 0)
    stands_held = subst (λ (x : Book). StandsOver s x.places.curves (length curves) (get_or book.places.claims k 0)) (sym ran.runs.held) (stands_array over count_is)

    pub claim_ready : ClaimReady curves (claim_field (length curves) (content_at s (get_or book.places.claims k 0)))
    claim_ready = kept_ready stands_held ran.kept

    claim_is : claim_read s book.places.curves (length curves) (get_or book.places.claims k 0) ≡ claim_at s d k
    unfolding claim_at
    claim_is =
        ap (λ (x : Book). claim_read s x.places.curves (length curves) (get_or book.places.claims k 0)) ran.runs.held ∙ claim_array over count_is
        ∙ ap (λ (n : ℕ). claim_read s d.curves n (get_or book.places.claims k 0)) count_is
        ∙ ap (claim_read s d.curves (length d.curves)) place_is

    pub record_room : record_size * k + record_size ≤ length out
    record_room = omega (arith, length-written, ran.runs.room, here)

    pub ran_more : {out' : List ℕ} {totals' : Totals} (r : Record)
        → r ≡ record_for (claim_kept curves (claim_field (length curves) (content_at s (get_or book.places.claims k 0))))
        → out' ≡ put out (record_size * k) (record_bytes r) → totals' ≡ counted totals r.code
        → Ran s book b curves out' totals' (k + 1)
    ran_more r e e' e'' =
        let is : r ≡ record_at s d k = e ∙ ap record_for (kept_claim stands_held ran.kept ∙ claim_is) in
        record {
          runs = ran.runs;
          count = ran.count;
          kept = ran.kept;
          records =
              e' ∙ ap (λ (x : Record). put out (record_size * k) (record_bytes x)) is
              ∙ ap (λ (x : List ℕ). put x (record_size * k) (record_bytes (record_at s d k))) ran.records
              ∙ records_more b (record_at s d) k (omega (arith, here, ran.runs.room));
          counts =
              e'' ∙ ap (λ (x : Record). counted totals x.code) is ∙ ap (λ (x : Totals). counted x (code_at s d k)) ran.counts
              ∙ totals_more (code_at s d) k;
          done = omega (arith, here);
        }

-- the totals of a sound book are no more than it may have claims
pub sound_countable : (s : List ℕ) (c : Contents) → read_book s ≡ sound c → Countable (totals_on s (read_book s))
unfolding totals_on
sound_countable s c e = rw e (record { few = omega (arith, totals_add_up (claim_at s c) (length c.claims), (sound_book s c e).claims-fit) })
