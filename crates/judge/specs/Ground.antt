-- Document 01's numbers, from a book's bytes to the answer and the verdict buffer, computed. A refusal's number, the
-- power of 2 that its place or a total has in the answer, the order of a record's numbers and that of two tests each
-- stand in one definition, and a law that reads them back or is stated of them would agree whatever they are: so each
-- has a row here.
--
--     table, ground     a book and how many bytes are lent, and the due answer; the test: every answer is the due one
--     inspected_w8      W8, a claim of kind 5, is accepted, and its record is written; short_w8: with a byte too few
--                       for it, it is refused
--     inspected_w4      W4 has a claim of kind 3 that is accepted
--     inspected_w5      the bytes of W5's record: code 2, tick 6, due 7, claimed 8, 7 ticks tried
--     inspected_mixed   one claim accepted, two refuted and three not judged
--     inspected_wide    a count of ticks that needs both of its bytes
use Rattle.std.specs.Prelude.{ℕ, ◌+◌, ◌*◌, ◌/◌, ◌%◌, ◌^◌, ◌≡◌, refl, replicate, take}
use mathlib.Core.List.{List, [], ◌∷◌, ◌++◌, flat_map, map}
use Rattle.std.proofs.Math.Option.{some}
use Rattle.minplus.specs.Claim.{bound, convolution, delay, exactly, kind_by, result}
use Rattle.curve.specs.Filled.{list_of}
use Rattle.content.specs.Layout.{kind_in}
use Rattle.content.specs.Refusals.{number_of}
use Rattle.field.specs.Fields.{tag_by, content_at}
use Rattle.book.specs.Ground.{w8, field_a, field_b, ended}
use Rattle.numbers.specs.Numbers.{number_at}
use Rattle.judge.specs.Answer.{code_in, tried_in}
use Rattle.judge.specs.Run.{answer_of, buffer_of}

-- version; then the rest
begun : List ℕ → List ℕ
begun rest = 16 ∷ 0 ∷ 1 ∷ 1 ∷ rest

-- a curve of rank 0 and period d that is 0 throughout: 11 + 4*d bytes
zeros : ℕ → List ℕ
zeros d = 1 ∷ (8 + 4 * d) / 256 ∷ (8 + 4 * d) % 256 ∷ 0 ∷ 0 ∷ 0 ∷ d ∷ replicate (4 + 4 * d) 0

-- "A conv B", claimed with an increment of c: W4 has 1, W5 has 2
unfoldable pub convolved : ℕ → List ℕ
unfolding begun field_a field_b ended
convolved c =
    begun (field_a ++ field_b
    ++ (1 ∷ 0 ∷ 32 ∷ 0 ∷ 5 ∷ 0 ∷ 1 ∷ 0 ∷ 0 ∷ 0 ∷ c ∷ 0 ∷ 0 ∷ 0 ∷ 0 ∷ 0 ∷ 0 ∷ 0 ∷ 0 ∷ 0 ∷ 0 ∷ 0 ∷ 0 ∷ 0 ∷ 0 ∷ 0 ∷ 2 ∷ 0 ∷ 0 ∷ 0 ∷ 4 ∷ 0 ∷ 0 ∷ 0 ∷ 6 ∷ [])
    ++ (2 ∷ 0 ∷ 4 ∷ 3 ∷ 0 ∷ 1 ∷ 2 ∷ []) ++ ended)

-- W8, W9 and W10, and three times a sum of periods 15 and 16 that is claimed with period 19, whose horizon is 4,560
unfoldable pub mixed : List ℕ
unfolding begun field_a field_b zeros ended
mixed =
    begun (field_a ++ field_b ++ zeros 15 ++ zeros 16 ++ zeros 19
    ++ (2 ∷ 0 ∷ 7 ∷ 5 ∷ 0 ∷ 1 ∷ 0 ∷ 0 ∷ 0 ∷ 3 ∷ []) ++ (2 ∷ 0 ∷ 7 ∷ 4 ∷ 0 ∷ 1 ∷ 0 ∷ 0 ∷ 0 ∷ 2 ∷ []) ++ (2 ∷ 0 ∷ 7 ∷ 5 ∷ 0 ∷ 1 ∷ 0 ∷ 0 ∷ 0 ∷ 4 ∷ [])
    ++ (2 ∷ 0 ∷ 4 ∷ 1 ∷ 2 ∷ 3 ∷ 4 ∷ []) ++ (2 ∷ 0 ∷ 4 ∷ 1 ∷ 2 ∷ 3 ∷ 4 ∷ []) ++ (2 ∷ 0 ∷ 4 ∷ 1 ∷ 2 ∷ 3 ∷ 4 ∷ []) ++ ended)

-- a sum of zero curves of periods 13 and 20 that is claimed as zero with period 1, whose horizon is 260
unfoldable pub wide : List ℕ
unfolding begun zeros ended
wide = begun (zeros 13 ++ zeros 20 ++ zeros 1 ++ (2 ∷ 0 ∷ 4 ∷ 1 ∷ 0 ∷ 1 ∷ 2 ∷ []) ++ ended)

-- document 02, A2: flat 10, the vendor's curve, and the exact delay 19 of the first on the second
vendors : List ℕ
unfolding begun ended
vendors =
    begun ((1 ∷ 0 ∷ 12 ∷ 0 ∷ 0 ∷ 0 ∷ 1 ∷ 0 ∷ 0 ∷ 0 ∷ 0 ∷ 0 ∷ 0 ∷ 0 ∷ 10 ∷ [])
    ++ (1 ∷ 0 ∷ 16 ∷ 0 ∷ 0 ∷ 0 ∷ 2 ∷ 0 ∷ 0 ∷ 0 ∷ 1 ∷ 0 ∷ 0 ∷ 0 ∷ 0 ∷ 0 ∷ 0 ∷ 0 ∷ 10 ∷ [])
    ++ (2 ∷ 0 ∷ 7 ∷ 5 ∷ 0 ∷ 1 ∷ 0 ∷ 0 ∷ 0 ∷ 19 ∷ []) ++ ended)

record Row : Type 0 where
  book : List ℕ
  room : ℕ
  due : ℕ

answers : List ℕ → ℕ → ℕ → Row
answers book room due = record { book = book; room = room; due = due }

sixteen : List ℕ
unfolding zeros
sixteen = let four = zeros 1 ++ zeros 1 ++ zeros 1 ++ zeros 1 in four ++ four ++ four ++ four

table : List Row
unfolding answers begun zeros ended sixteen w8 mixed vendors flat_map
table =
    -- each refusal number, with the place of the field. 1: fewer than 3 bytes are left; content runs past the book
    answers (begun (1 ∷ 0 ∷ [])) 0 (1 + 2 ^ 8 * 4)
    ∷ answers (begun (1 ∷ 0 ∷ 12 ∷ [])) 0 (1 + 2 ^ 8 * 4)
    -- 2, also at a place that needs two bytes
    ∷ answers (begun (3 ∷ 0 ∷ 0 ∷ [])) 0 (2 + 2 ^ 8 * 4)
    ∷ answers (begun (zeros 80 ++ (3 ∷ 0 ∷ 0 ∷ []))) 0 (2 + 2 ^ 8 * 335)
    -- 3: a second version, and no version before a curve, a claim or the end
    ∷ answers (begun (begun ended)) 0 (3 + 2 ^ 8 * 4)
    ∷ answers (zeros 1) 0 3
    ∷ answers (2 ∷ 0 ∷ 4 ∷ 1 ∷ 0 ∷ 0 ∷ 0 ∷ []) 0 3
    ∷ answers ended 0 3
    -- 4: a 17th curve; with 16 the book is sound
    ∷ answers (begun (sixteen ++ zeros 1 ++ ended)) 0 (4 + 2 ^ 8 * 244)
    ∷ answers (begun (sixteen ++ ended)) 0 0
    -- 5: version 2; and one whose length is not 1, the second time in the longest book that is looked at
    ∷ answers (16 ∷ 0 ∷ 1 ∷ 2 ∷ ended) 0 5
    ∷ answers (16 ∷ 0 ∷ 2 ∷ 1 ∷ 0 ∷ ended) 0 5
    ∷ answers (replicate 32_768 16) 0 5
    -- 6: length under 8; length that is not 8+4*(T+d)
    ∷ answers (begun (1 ∷ 0 ∷ 7 ∷ replicate 7 0)) 0 (6 + 2 ^ 8 * 4)
    ∷ answers (begun (1 ∷ 0 ∷ 12 ∷ 0 ∷ 1 ∷ 0 ∷ 1 ∷ replicate 8 0)) 0 (6 + 2 ^ 8 * 4)
    -- 7: d = 0; T = 256 and d = 1
    ∷ answers (begun (1 ∷ 0 ∷ 8 ∷ replicate 8 0)) 0 (7 + 2 ^ 8 * 4)
    ∷ answers (begun (1 ∷ 0 ∷ 8 ∷ 1 ∷ 0 ∷ 0 ∷ 1 ∷ replicate 4 0)) 0 (7 + 2 ^ 8 * 4)
    -- a curve of 256 values of 1,000,000, with that c too, is sound
    ∷ answers (begun (1 ∷ 4 ∷ 8 ∷ 0 ∷ 0 ∷ 1 ∷ 0 ∷ flat_map {A = ℕ} (λ _. 0 ∷ 15 ∷ 66 ∷ 64 ∷ []) (replicate 257 0) ++ ended)) 0 0
    -- 8: c, or a value, is 1,000,001 or 2^24
    ∷ answers (begun (1 ∷ 0 ∷ 12 ∷ 0 ∷ 0 ∷ 0 ∷ 1 ∷ 0 ∷ 15 ∷ 66 ∷ 65 ∷ replicate 4 0)) 0 (8 + 2 ^ 8 * 4)
    ∷ answers (begun (1 ∷ 0 ∷ 12 ∷ 0 ∷ 0 ∷ 0 ∷ 1 ∷ 1 ∷ replicate 7 0)) 0 (8 + 2 ^ 8 * 4)
    ∷ answers (begun (1 ∷ 0 ∷ 12 ∷ 0 ∷ 0 ∷ 0 ∷ 1 ∷ 0 ∷ 0 ∷ 0 ∷ 0 ∷ 0 ∷ 15 ∷ 66 ∷ 65 ∷ [])) 0 (8 + 2 ^ 8 * 4)
    ∷ answers (begun (1 ∷ 0 ∷ 12 ∷ 0 ∷ 0 ∷ 0 ∷ 1 ∷ 0 ∷ 0 ∷ 0 ∷ 0 ∷ 1 ∷ 0 ∷ 0 ∷ 0 ∷ [])) 0 (8 + 2 ^ 8 * 4)
    -- 9: 1, then 0
    ∷ answers (begun (1 ∷ 0 ∷ 16 ∷ 0 ∷ 0 ∷ 0 ∷ 2 ∷ 0 ∷ 0 ∷ 0 ∷ 0 ∷ 0 ∷ 0 ∷ 0 ∷ 1 ∷ replicate 4 0)) 0 (9 + 2 ^ 8 * 4)
    -- 9 at the seam: the vendor's book, the exact delay 19 of flat 10 on the curve 0, 10, 1, 11
    ∷ answers vendors 23 (9 + 2 ^ 8 * 19)
    -- T = 1, d = 2, the values 0 2 5: sound with c = 3, and not with 2
    ∷ answers (begun (1 ∷ 0 ∷ 20 ∷ 0 ∷ 1 ∷ 0 ∷ 2 ∷ 0 ∷ 0 ∷ 0 ∷ 3 ∷ 0 ∷ 0 ∷ 0 ∷ 0 ∷ 0 ∷ 0 ∷ 0 ∷ 2 ∷ 0 ∷ 0 ∷ 0 ∷ 5 ∷ ended)) 0 0
    ∷ answers (begun (1 ∷ 0 ∷ 20 ∷ 0 ∷ 1 ∷ 0 ∷ 2 ∷ 0 ∷ 0 ∷ 0 ∷ 2 ∷ 0 ∷ 0 ∷ 0 ∷ 0 ∷ 0 ∷ 0 ∷ 0 ∷ 2 ∷ 0 ∷ 0 ∷ 0 ∷ 5 ∷ ended)) 0 (9 + 2 ^ 8 * 4)
    -- 10: empty
    ∷ answers (begun (zeros 1 ++ (2 ∷ 0 ∷ 0 ∷ []))) 0 (10 + 2 ^ 8 * 19)
    -- 11: there is one curve, and left, right or h is 1; right of a claim with an X
    ∷ answers (begun (zeros 1 ++ (2 ∷ 0 ∷ 4 ∷ 1 ∷ 1 ∷ 0 ∷ 0 ∷ []))) 0 (11 + 2 ^ 8 * 19)
    ∷ answers (begun (zeros 1 ++ (2 ∷ 0 ∷ 4 ∷ 1 ∷ 0 ∷ 1 ∷ 0 ∷ []))) 0 (11 + 2 ^ 8 * 19)
    ∷ answers (begun (zeros 1 ++ (2 ∷ 0 ∷ 4 ∷ 1 ∷ 0 ∷ 0 ∷ 1 ∷ []))) 0 (11 + 2 ^ 8 * 19)
    ∷ answers (begun (zeros 1 ++ (2 ∷ 0 ∷ 7 ∷ 4 ∷ 0 ∷ 1 ∷ replicate 4 0))) 0 (11 + 2 ^ 8 * 19)
    -- 12: X is 1,000,000,001
    ∷ answers (begun (zeros 1 ++ (2 ∷ 0 ∷ 7 ∷ 4 ∷ 0 ∷ 0 ∷ 59 ∷ 154 ∷ 202 ∷ 1 ∷ []))) 0 (12 + 2 ^ 8 * 19)
    -- 13: a byte follows; length that is not 0
    ∷ answers (begun (ended ++ (0 ∷ []))) 0 (13 + 2 ^ 8 * 4)
    ∷ answers (begun (127 ∷ 0 ∷ 1 ∷ 0 ∷ [])) 0 (13 + 2 ^ 8 * 4)
    -- 14: a byte too few for six records of 23
    ∷ answers mixed 137 14
    -- 15: one byte over 32,768
    ∷ answers (replicate 32_769 16) 0 15
    -- two faults in one field: the one that is looked for first counts. 1 before 2, 2 before 1
    ∷ answers (begun (3 ∷ 0 ∷ [])) 0 (1 + 2 ^ 8 * 4)
    ∷ answers (begun (3 ∷ 0 ∷ 9 ∷ [])) 0 (2 + 2 ^ 8 * 4)
    -- 3 before 4: after a claim a 17th curve; 3 before 1; 4 before 1
    ∷ answers (begun (sixteen ++ (2 ∷ 0 ∷ 4 ∷ 1 ∷ 0 ∷ 0 ∷ 0 ∷ []) ++ zeros 1)) 0 (3 + 2 ^ 8 * 251)
    ∷ answers (begun (16 ∷ 0 ∷ 9 ∷ [])) 0 (3 + 2 ^ 8 * 4)
    ∷ answers (begun (sixteen ++ (1 ∷ 0 ∷ 12 ∷ []))) 0 (4 + 2 ^ 8 * 244)
    -- 1 before what the content is refused for
    ∷ answers (16 ∷ 0 ∷ 2 ∷ 9 ∷ []) 0 1
    ∷ answers (begun (1 ∷ 0 ∷ 7 ∷ [])) 0 (1 + 2 ^ 8 * 4)
    ∷ answers (begun (zeros 1 ++ (2 ∷ 0 ∷ 4 ∷ 9 ∷ []))) 0 (1 + 2 ^ 8 * 19)
    ∷ answers (begun (127 ∷ 0 ∷ 1 ∷ [])) 0 (1 + 2 ^ 8 * 4)
    -- 6 for a length under 8 before 7, 7 before 6 for another length, that before 8, 8 before 9, at the seam too
    ∷ answers (begun (1 ∷ 0 ∷ 4 ∷ replicate 4 0)) 0 (6 + 2 ^ 8 * 4)
    ∷ answers (begun (1 ∷ 0 ∷ 12 ∷ replicate 12 0)) 0 (7 + 2 ^ 8 * 4)
    ∷ answers (begun (1 ∷ 0 ∷ 16 ∷ 0 ∷ 0 ∷ 0 ∷ 1 ∷ 0 ∷ 15 ∷ 66 ∷ 65 ∷ replicate 8 0)) 0 (6 + 2 ^ 8 * 4)
    ∷ answers (begun (1 ∷ 0 ∷ 16 ∷ 0 ∷ 0 ∷ 0 ∷ 2 ∷ 0 ∷ 0 ∷ 0 ∷ 0 ∷ 0 ∷ 15 ∷ 66 ∷ 65 ∷ replicate 4 0)) 0 (8 + 2 ^ 8 * 4)
    ∷ answers (begun (1 ∷ 0 ∷ 16 ∷ 0 ∷ 0 ∷ 0 ∷ 2 ∷ 0 ∷ 0 ∷ 0 ∷ 0 ∷ 0 ∷ 0 ∷ 0 ∷ 0 ∷ 0 ∷ 15 ∷ 66 ∷ 65 ∷ [])) 0 (8 + 2 ^ 8 * 4)
    -- 10 before 11, 11 before 12
    ∷ answers (begun (zeros 1 ++ (2 ∷ 0 ∷ 5 ∷ 1 ∷ 0 ∷ 0 ∷ 9 ∷ 0 ∷ []))) 0 (10 + 2 ^ 8 * 19)
    ∷ answers (begun (zeros 1 ++ (2 ∷ 0 ∷ 7 ∷ 4 ∷ 1 ∷ 0 ∷ 59 ∷ 154 ∷ 202 ∷ 1 ∷ []))) 0 (11 + 2 ^ 8 * 19)
    -- and a book's own refusal before 14
    ∷ answers (take 50 w8) 0 (1 + 2 ^ 8 * 46)
    -- the totals: 1 accepted, 2 refuted, 3 not judged
    ∷ answers mixed 138 (2 ^ 24 * 1 + 2 ^ 36 * 2 + 2 ^ 48 * 3)
    ∷ []

ground : map (λ r. answer_of r.book (replicate r.room 7)) table ≡ map (λ r. r.due) table
unfolding answer_of table tag_by kind_by number_at list_of number_of
ground = refl

-- W8 with a buffer of 26 bytes: an exact delay, accepted with 3 ticks tried, and the last three bytes stay
pub inspected_w8 : (kind_in (content_at w8 46) ≡ some (bound delay exactly))
    × (answer_of w8 (replicate 26 7) ≡ 2 ^ 24) × (buffer_of w8 (replicate 26 7) ≡ 1 ∷ (replicate 21 0 ++ (3 ∷ replicate 3 7)))
unfolding answer_of buffer_of w8 tag_by kind_by number_at list_of
inspected_w8 = (refl, refl, refl)

-- with a byte too few for its record: 14 at place 0, and nothing is written
pub short_w8 : (answer_of w8 (replicate 22 7) ≡ 14) × (buffer_of w8 (replicate 22 7) ≡ replicate 22 7)
unfolding answer_of buffer_of w8 tag_by kind_by number_at list_of number_of
short_w8 = (refl, refl)

-- W4: a claim of kind 3 that is accepted, after the ticks 0 to 6
pub inspected_w4 : (kind_in (content_at (convolved 1) 81) ≡ some (result convolution))
    × (code_in (buffer_of (convolved 1) (replicate 23 0)) 0 ≡ 1) × (tried_in (buffer_of (convolved 1) (replicate 23 0)) 0 ≡ 7)
unfolding convolved buffer_of tag_by kind_by number_at list_of
inspected_w4 = (refl, refl, refl)

-- W5, "refuted at 6, due 7, claimed 8": code (1), tick (4), left (8), right (8), and 7 ticks tried (2); the last three
-- bytes stay
pub inspected_w5 : buffer_of (convolved 2) (replicate 26 9)
    ≡ 2 ∷ 0 ∷ 0 ∷ 0 ∷ 6 ∷ 0 ∷ 0 ∷ 0 ∷ 0 ∷ 0 ∷ 0 ∷ 0 ∷ 7 ∷ 0 ∷ 0 ∷ 0 ∷ 0 ∷ 0 ∷ 0 ∷ 0 ∷ 8 ∷ 0 ∷ 7 ∷ replicate 3 9
unfolding convolved buffer_of tag_by kind_by number_at list_of
inspected_w5 = refl

-- the records stand in the order of the claims, 23 bytes each
pub inspected_mixed : buffer_of mixed (replicate 138 9)
    ≡ (1 ∷ (replicate 21 0 ++ (3 ∷ []))) ++ (2 ∷ 0 ∷ 0 ∷ 0 ∷ 1 ∷ (replicate 7 0 ++ (4 ∷ (replicate 7 0 ++ (2 ∷ 0 ∷ 2 ∷ [])))))
    ++ (4 ∷ (replicate 21 0 ++ (3 ∷ []))) ++ (5 ∷ replicate 22 0) ++ (5 ∷ replicate 22 0) ++ (5 ∷ replicate 22 0)
unfolding mixed buffer_of tag_by kind_by number_at list_of
inspected_mixed = refl

-- 261 ticks tried: of the count too the high byte stands first
pub inspected_wide : buffer_of wide (replicate 23 9) ≡ 1 ∷ (replicate 20 0 ++ (1 ∷ 5 ∷ []))
unfolding wide buffer_of tag_by kind_by number_at list_of
inspected_wide = refl
