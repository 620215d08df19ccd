-- Document 01's book in full, W8, and the empty input, read by the definitions.
--
--     w8, w8_contents     its 59 bytes, and what they hold; field_a, field_b: those of A and of B, ended: of the end
--     w8_read             it is sound; w8-curves, w8-claim: with A, B and the claim of W8
--     w8_values           W1, asked of it
--     w8-told             asked for C, at the largest tick and one above it, of no curve, and of W8 torn in its claim
--     most-claims         256 claims are taken, and no 257th (a 17th curve: the judge's Ground)
--     empty_read          "An empty input is refusal 1 at 0."
use Rattle.std.specs.Prelude.{ℕ, ◌+◌, ◌*◌, ◌^◌, ◌≡◌, refl, false, true, List, [], ◌∷◌, ◌++◌, take, Ok}
use Rattle.minplus.specs.Claim.{kind_by}
use Rattle.curve.specs.declared.Deviation.TheVariants.{Delay}
use Rattle.curve.specs.declared.Claim.TheVariants.{Exactly}
use Rattle.curve.specs.Filled.{list_of}
use Rattle.content.specs.declared.Refusal.TheVariants.{Torn}
use Rattle.numbers.specs.Numbers.{number_at}
use Rattle.field.specs.Fields.{tag_by, content_at}
use Rattle.content.specs.Refusals.{claim_field, number_of}
use Rattle.field.specs.declared.Tag.TheVariants as tag
use Rattle.field.specs.Steps.{full}
use Rattle.book.specs.Reading.{Contents, sound, refused, read_book}
use Rattle.book.specs.Values.{curve_named, value_asked, told}

unfoldable pub field_a : List ℕ
field_a = 1 ∷ 0 ∷ 16 ∷ 0 ∷ 1 ∷ 0 ∷ 1 ∷ 0 ∷ 0 ∷ 0 ∷ 1 ∷ 0 ∷ 0 ∷ 0 ∷ 0 ∷ 0 ∷ 0 ∷ 0 ∷ 4 ∷ []

unfoldable pub field_b : List ℕ
field_b = 1 ∷ 0 ∷ 20 ∷ 0 ∷ 2 ∷ 0 ∷ 1 ∷ 0 ∷ 0 ∷ 0 ∷ 2 ∷ 0 ∷ 0 ∷ 0 ∷ 0 ∷ 0 ∷ 0 ∷ 0 ∷ 0 ∷ 0 ∷ 0 ∷ 0 ∷ 0 ∷ []

unfoldable pub ended : List ℕ
ended = 127 ∷ 0 ∷ 0 ∷ []

-- version; A; B; A's delay on B is exactly 3; end
unfoldable pub w8 : List ℕ
unfolding field_a field_b ended
w8 = (16 ∷ 0 ∷ 1 ∷ 1 ∷ []) ++ field_a ++ field_b ++ (2 ∷ 0 ∷ 7 ∷ 5 ∷ 0 ∷ 1 ∷ 0 ∷ 0 ∷ 0 ∷ 3 ∷ []) ++ ended

unfoldable pub w8_contents : Contents
w8_contents = record { version = 1; curves = 4 ∷ 23 ∷ []; claims = 46 ∷ [] }

pub w8_read : read_book w8 ≡ sound w8_contents
unfolding read_book w8 w8_contents tag_by kind_by number_at
w8_read = refl

-- "A: T=1, d=1, c=1, values 0 4. B: T=2, d=1, c=2, values 0 0 0."
pub w8-curves : (curve_named w8 w8_contents.curves 0 ≡ record { rank = 1; period = 1; increment = 1; listed = 0 ∷ 4 ∷ [] })
    × (curve_named w8 w8_contents.curves 1 ≡ record { rank = 2; period = 1; increment = 2; listed = 0 ∷ 0 ∷ 0 ∷ [] })
unfolding w8 w8_contents number_at list_of
w8-curves = (refl, refl)

-- "delay of A on B exactly 3"
pub w8-claim : claim_field 2 (content_at w8 46) ≡ Ok (record { claim = Exactly (Delay (record { 0 = 3 })); left = 0; right = 1; claimed = 0 })
unfolding w8 claim_field kind_by number_at
w8-claim = refl

-- "A(5) = 8, B(5) = 6"
pub w8_values : (value_asked w8 0 5 ≡ Ok (record { 0 = 8 })) × (value_asked w8 1 5 ≡ Ok (record { 0 = 6 }))
unfolding value_asked w8 tag_by kind_by number_at list_of
w8_values = (refl, refl)

-- "a tick above 2,000,000,000 is 12", "a number that names no curve is 11", both with place 0; the torn claim stands at
-- 46
pub w8-told : (told (value_asked w8 0 2_000_000_000) ≡ record { refusal = 0; value = 2_000_000_003 })
    × (told (value_asked w8 0 2_000_000_001) ≡ record { refusal = 12; value = 0 })
    × (told (value_asked w8 2 2_000_000_001) ≡ record { refusal = 11; value = 0 })
    × (told (value_asked (take 50 w8) 0 0) ≡ record { refusal = 1 + 2 ^ 8 * 46; value = 0 })
unfolding value_asked w8 tag_by kind_by number_at list_of number_of
w8-told = (refl, refl, refl, refl)

pub most-claims : (full tag.Claim 1 255 ≡ false) × (full tag.Claim 1 256 ≡ true)
unfolding full
most-claims = (refl, refl)

pub empty_read : read_book [] ≡ refused Torn 0
unfolding read_book
empty_read = refl
