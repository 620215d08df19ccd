-- What the program writes for a sound book, from what the judge leaves.
--
--     text_judged          a sound book: the verdict on each claim, the totals, and whether it is certified
use Prim.Native.Nat.{ℕ, zero, suc, ◌*◌, ◌≤◌, ◌<◌}
use Rattle.std.specs.Prelude.{◌≡◌, length}
use Rattle.std.proofs.Math.Path.{refl, ap, ap₂}
use Rattle.std.proofs.Common.{◌∙◌, arith}
use mathlib.Core.List.{List, ◌++◌}
use Rattle.std.proofs.Math.ListN.{length-replicate}
use Rattle.minplus.specs.Verdict.{Record}
use Rattle.field.specs.Steps.{max_claims}
use Rattle.book.specs.Reading.{Contents, sound, read_book}
use Rattle.book.specs.Sound.{sound_book}
use Rattle.judge.specs.Answer.{accepted_in, refuted_in, unjudged_in, record_size, record_in}
use Rattle.judge.specs.Run.{Room, answer_of, buffer_of, buffer_on, claim_at, verdict_at, record_at, run_sound}
use Rattle.judge.proofs.Inspector.{record_back}
use Rattle.judge.specs.Inspector.{Judged}
use Rattle.report.specs.Lines.{part, verdict_words, claim_line, claim_lines, total_line, certified_line, report_judged}
use Rattle.claimbook.specs.Answered.{blank, room, text_for, verdict_line, verdict_lines, said-so, roomy}

module _ (book : List ℕ) where
  module _ (c : Contents) (e : read_book book ≡ sound c) where
    back : (k : ℕ) → k < length c.claims → record_in (buffer_of book blank) k ≡ record_at book c k
    unfolding buffer_on
    back k lt =
        let holds : Room blank c = omega (arith, (sound_book book c e).claims-fit, length-replicate {A = ℕ} (record_size * max_claims) 0) in
        ap (λ (b : List ℕ). record_in b k) ((run_sound book blank c e holds).1 ∙ ap (buffer_on book blank) e) ∙ record_back book blank c e holds k lt

    line : (k : ℕ) → k < length c.claims → claim_line (buffer_of book blank) k ≡ verdict_line k (verdict_at book c k)
    unfolding claim_line verdict_line verdict_at
    line k lt =
        ap (λ (t : List ℕ). part "claim " k ++ t)
        (ap (λ (r : Record). verdict_words r.code r.tick r.left r.right) (back k lt) ∙ said-so (claim_at book c k))

    each_line : (n : ℕ) → n ≤ length c.claims → claim_lines (buffer_of book blank) n ≡ verdict_lines (verdict_at book c) n
    unfolding claim_lines verdict_lines
    each_line zero le = refl
    each_line (suc n) le = ap₂ (λ (s t : List ℕ). s ++ t) (each_line n (omega (arith, le))) (line n (omega (arith, le)))

  pub text_judged : (w : Judged book blank (answer_of book blank) (buffer_of book blank)) → text_for room book
      ≡ verdict_lines (verdict_at book w.contents) (length w.contents.claims)
      ++ total_line (accepted_in (answer_of book blank)) (refuted_in (answer_of book blank)) (unjudged_in (answer_of book blank))
      ++ certified_line (length w.contents.claims) (accepted_in (answer_of book blank))
  unfolding text_for
  text_judged w =
      let a = answer_of book blank in
      let c = w.contents in
      report_judged room a (buffer_of book blank) (roomy book (length c.claims) w.add_up (sound_book book c w.book_sound).claims-fit) w.no_refusal.0
      ∙ ap (λ (n : ℕ). claim_lines (buffer_of book blank) n ++ total_line (accepted_in a) (refuted_in a) (unjudged_in a) ++ certified_line n (accepted_in a)) w.add_up
      ∙ ap (λ (t : List ℕ). t ++ total_line (accepted_in a) (refuted_in a) (unjudged_in a) ++ certified_line (length c.claims) (accepted_in a))
      (each_line c w.book_sound (length c.claims) (omega arith))
