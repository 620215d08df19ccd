-- The book's fields. Document 01, 'The book': "Fields: tag (1 byte), length (2), content; numbers high byte first."
--
--     tag_number, tag_by               the four tags and their numbers (tags, known)
--     head_length                      the bytes of tag and length
--     tag_of, length_of, content_of    of the field with which a list of bytes begins
--     content_at                       of the field at a place of the book
--     version_in                       "10 hex: version, one byte"
--     field_bytes                      a field, written
use Rattle.std.specs.Prelude.{ℕ, List, [], ◌∷◌, ◌++◌, take, drop, length, Result, Ok, Err}
use Rattle.std.proofs.Math.Option.{Option, none, some}
use Rattle.minplus.specs.Search.{numbered}
use Rattle.content.specs.declared.Refusal.{Refusal}
use Rattle.content.specs.declared.Refusal.TheVariants.{UnknownTag}
use Rattle.field.specs.declared.Tag.{Tag}
use Rattle.field.specs.declared.Tag.TheVariants.{Version, Curve, Claim, End}
use Rattle.numbers.specs.Numbers.{number_at}
use Rattle.numbers.specs.Put.{bytes_of}

unfoldable pub tag_number : Tag → ℕ
tag_number Version = 16
tag_number Curve = 1
tag_number Claim = 2
tag_number End = 127

abbrev pub tags : List Tag
tags = Version ∷ Curve ∷ Claim ∷ End ∷ []

-- "2 unknown tag"
abbrev pub known : Option Tag → Result Tag Refusal
known none = Err UnknownTag
known (some t) = Ok t

unfoldable pub tag_by : ℕ → Result Tag Refusal
unfolding numbered tag_number
tag_by b = known (numbered tag_number tags b)

-- tag and length
abbrev pub head_length : ℕ
head_length = 3

abbrev pub tag_of : List ℕ → Result Tag Refusal
tag_of r = tag_by (number_at 1 r 0)

abbrev pub length_of : List ℕ → ℕ
length_of r = number_at 2 r 1

abbrev pub content_of : List ℕ → List ℕ
content_of r = take (length_of r) (drop head_length r)

abbrev pub content_at : List ℕ → ℕ → List ℕ
content_at s p = content_of (drop p s)

-- ---- version

abbrev pub version_in : List ℕ → ℕ
version_in content = number_at 1 content 0

-- ---- written

unfoldable pub field_bytes : Tag → List ℕ → List ℕ
unfolding tag_number
field_bytes t content = bytes_of 1 (tag_number t) ++ (bytes_of 2 (length content) ++ content)
